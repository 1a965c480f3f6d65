-- What stood at the queue's first place is gone, and who waited there was told.
use Rattle.std.proofs.Common.{◌≡◌, ◌∙◌, Option, Some, None, refl, ap}
use Rattle.std.specs.Prelude.{option_and_then, option_map}
use Rattle.std.specs.FinMap.{get}
use Rattle.rv_text.specs.declared.answer.Reply.{Reply}
use Rattle.rv_text.specs.declared.message.Key.{Key}
use Rattle.rv_text.specs.declared.version.Version.{Version}
use Rattle.rv_session.specs.declared.client.ClientState.{ClientState}
use Rattle.rv_account.specs.state.After.{receipt_of}
use Rattle.rv_machine.proofs.MetReplies.{some_receipt}
use Rattle.rv_machine.proofs.TakenOne.{came_out, has_room, is_awaited, is_known, lay_ready, lay_taken}
use Rattle.rv_machine.proofs.TakenOne.{waited_ready, waited_taken}
use Rattle.rv_machine.proofs.tables.Holdings.take_item.Goals as goal

-- what a session's transfer is told, by its version
receipt_told : (version : Version) (taker : Key) (reply : Reply) (o : Option ClientState)
    → option_map (λ (c : ClientState). c.version) o ≡ Some version
    → receipt_of version (Some taker) ≡ Some reply
    → option_and_then (λ v. receipt_of v (Some taker)) (option_map (λ (c : ClientState). c.version) o)
    ≡ Some reply
receipt_told version taker reply o of_version told =
    ap (option_and_then (λ v. receipt_of v (Some taker))) of_version ∙ told

pub version_of-requires : goal.version_of-requires
version_of-requires c =
    let out = came_out c.take_front.result c.unwrap-there.result (Some c.in-Some.duty) c.args.self.now.table
    c.take_front.new.self c.args.queue c.unwrap-there.ensures c.in-Some.is c.take_front.ensures.some in
    is_known c.args.self.now c.requires.ready c.args.queue c.args.taker c.take_front.new.self
    c.unwrap-there.result.0 (Some c.in-Some.duty) out c.unwrap.result c.unwrap.ensures

pub receipt-reply-requires : goal.receipt-reply-requires
receipt-reply-requires c = some_receipt c.version_of.result (Some c.args.taker) refl

pub push_reserved-requires : goal.push_reserved-requires
push_reserved-requires c =
    let out = came_out c.take_front.result c.unwrap-there.result (Some c.in-Some.duty) c.args.self.now.table
    c.take_front.new.self c.args.queue c.unwrap-there.ensures c.in-Some.is c.take_front.ensures.some in
    has_room c.args.self.now c.requires.ready c.args.queue c.args.taker c.take_front.new.self
    c.unwrap-there.result.0 (Some c.in-Some.duty) out c.in-Some.duty refl
    c.unwrap.result c.unwrap.ensures c.receipt-reply.result (receipt_told c.version_of.result c.args.taker
    c.receipt-reply.result (get c.args.self.now.clients.clients c.unwrap.result.key.client)
    c.version_of.ensures c.receipt-reply.ensures)

pub settle-requires : goal.settle-requires
settle-requires c =
    let out = came_out c.take_front.result c.unwrap-there.result (Some c.in-Some.duty) c.args.self.now.table
    c.take_front.new.self c.args.queue c.unwrap-there.ensures c.in-Some.is c.take_front.ensures.some in
    is_awaited c.args.self.now c.requires.ready c.args.queue c.args.taker c.take_front.new.self
    c.unwrap-there.result.0 (Some c.in-Some.duty) out c.in-Some.duty refl
    c.unwrap.result c.unwrap.ensures c.receipt-reply.result (receipt_told c.version_of.result c.args.taker
    c.receipt-reply.result (get c.args.self.now.clients.clients c.unwrap.result.key.client)
    c.version_of.ensures c.receipt-reply.ensures)

pub returns-in-Some-clause-ready : goal.returns-in-Some-clause-ready
returns-in-Some-clause-ready c =
    let out = came_out c.take_front.result c.unwrap-there.result (Some c.in-Some.duty) c.args.self.now.table
    c.take_front.new.self c.args.queue c.unwrap-there.ensures c.in-Some.is c.take_front.ensures.some in
    waited_ready c.args.self.now c.requires.ready c.args.queue c.args.taker c.take_front.new.self
    c.unwrap-there.result.0 (Some c.in-Some.duty) out c.in-Some.duty refl
    c.unwrap.result c.unwrap.ensures c.receipt-reply.result (receipt_told c.version_of.result c.args.taker
    c.receipt-reply.result (get c.args.self.now.clients.clients c.unwrap.result.key.client)
    c.version_of.ensures c.receipt-reply.ensures) c.settle.new.self
    c.settle.ensures
    c.push_reserved.new.self
    c.push_reserved.ensures.len c.push_reserved.ensures.capacity

pub returns-in-Some-clause-takes : goal.returns-in-Some-clause-takes
returns-in-Some-clause-takes c =
    let out = came_out c.take_front.result c.unwrap-there.result (Some c.in-Some.duty) c.args.self.now.table
    c.take_front.new.self c.args.queue c.unwrap-there.ensures c.in-Some.is c.take_front.ensures.some in
    waited_taken c.args.self.now c.requires.ready c.args.queue c.args.taker c.take_front.new.self
    c.unwrap-there.result.0 (Some c.in-Some.duty) out c.in-Some.duty refl
    c.unwrap.result c.unwrap.ensures c.receipt-reply.result (receipt_told c.version_of.result c.args.taker
    c.receipt-reply.result (get c.args.self.now.clients.clients c.unwrap.result.key.client)
    c.version_of.ensures c.receipt-reply.ensures) c.settle.new.self
    c.settle.ensures
    c.push_reserved.new.self
    c.push_reserved.ensures.items

pub returns-in-None-clause-ready : goal.returns-in-None-clause-ready
returns-in-None-clause-ready c =
    let out = came_out c.take_front.result c.unwrap-there.result None c.args.self.now.table
    c.take_front.new.self c.args.queue c.unwrap-there.ensures c.in-None.is c.take_front.ensures.some in
    lay_ready c.args.self.now c.requires.ready c.args.queue c.args.taker c.take_front.new.self
    c.unwrap-there.result.0 None out refl

pub returns-in-None-clause-takes : goal.returns-in-None-clause-takes
returns-in-None-clause-takes c =
    let out = came_out c.take_front.result c.unwrap-there.result None c.args.self.now.table
    c.take_front.new.self c.args.queue c.unwrap-there.ensures c.in-None.is c.take_front.ensures.some in
    lay_taken c.args.self.now c.requires.ready c.args.queue c.args.taker c.take_front.new.self
    c.unwrap-there.result.0 None out refl
