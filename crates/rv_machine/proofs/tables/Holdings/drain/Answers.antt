-- Its items were taken, and its own session stayed until it was told.
use Rattle.std.proofs.Common.{◌≡◌, ◌<◌, ◌+◌, ◌∙◌, ℕ, List, ap, arith, length, min, refl}
use Rattle.rv_text.specs.declared.call.Call.{Call}
use Rattle.rv_text.specs.declared.message.Key.{Key}
use Rattle.rv_machine.specs.open_places.OpenMap.{most_counted}
use Rattle.rv_account.specs.state.State.{State}
use Rattle.rv_machine.specs.Arriving.{MayArrive}
use Rattle.rv_machine.specs.Taking.{TakesAll}
use Rattle.rv_machine.specs.declared.tables.Holdings.{Holdings}
use Rattle.rv_session.specs.declared.client.LastRequest.{LastRequest}
use Rattle.rv_session.specs.Clients.{clients_asked, with_clients}
use Rattle.rv_text.specs.declared.call.Side.TheVariants.{Gives}
use Rattle.rv_machine.specs.open_places.OpenMap.{count_waiting, line_in}
use Rattle.rv_session.specs.declared.client.LastRequest.TheVariants.{RepliedTo}
use Rattle.rv_text.specs.declared.answer.Reply.TheVariants.{Drained}
use Rattle.rv_account.specs.declared.entry.Act.TheVariants.{Arrive}
use Rattle.rv_account.specs.Account.{entry}
use Rattle.rv_machine.specs.Ending.{counted}
use Rattle.rv_machine.proofs.Concluded.{asked_in, concluded_ready}
use Rattle.rv_machine.proofs.Drained.{drains_by, is_known_still, next_there}
use Rattle.rv_machine.proofs.Leaving.{arrives_as, concluded_now, copied_entry}
use Rattle.rv_text.specs.Calls.{wait_of}
use Rattle.rv_account.proofs.OfState.Resumed.Counts.{needs_one}
use Rattle.rv_machine.proofs.tables.Holdings.drain.Goals as goal

pub conclude-requires : goal.conclude-requires
conclude-requires c =
    is_known_still c.args.self.now c.take_items.new.self c.args.key c.drained_queue-queue.result
    c.min-most.result
    c.take_items.new.items.items c.take_items.new.places.items c.take_items.ensures.takes c.requires.may.next

has_space : (old new : Holdings) (queue : ℕ) (key taker : Key) (call : Call) (count moment : ℕ)
    (items : List (List ℕ)) (places : List ℕ) → MayArrive old moment key call
    → TakesAll old new queue taker count items places
    → new.length + count_waiting new.table < most_counted
has_space old new queue key taker call count moment items places may takes =
    let least = needs_one (wait_of call) in
    let fewer = takes.fewer in
    let length = ap (λ (s : State). s.length) takes.state in
    let space = may.space in
    omega arith

pub record-requires : goal.record-requires
record-requires c =
    let space = has_space c.args.self.now c.take_items.new.self c.drained_queue-queue.result c.args.key
    c.args.key c.args.call c.min-most.result c.args.moment c.take_items.new.items.items
    c.take_items.new.places.items c.requires.may c.take_items.ensures.takes in
    omega arith

pub returns-clause-ready : goal.returns-clause-ready
returns-clause-ready c =
    c.record.ensures.ready
    (concluded_ready c.take_items.new.self c.args.key (RepliedTo c.args.call (Drained c.from_vec.result))
    c.conclude.new.self c.take_items.ensures.ready
    (next_there c.args.self.now c.take_items.new.self c.args.key c.drained_queue-queue.result
    c.min-most.result
    c.take_items.new.items.items c.take_items.new.places.items c.take_items.ensures.takes c.requires.may.next)
    refl c.conclude.ensures) c.requires.may.time
    (has_space c.args.self.now c.take_items.new.self c.drained_queue-queue.result c.args.key c.args.key
    c.args.call c.min-most.result c.args.moment c.take_items.new.items.items c.take_items.new.places.items
    c.requires.may c.take_items.ensures.takes)

pub returns-clause-arrives : goal.returns-clause-arrives
returns-clause-arrives c =
    let queue = c.drained_queue-queue.result in
    let most : c.min-most.result ≡ min c.args.max (length (line_in c.args.self.now.table (Gives queue)))
    = omega (arith, c.min-most.ensures, c.count.ensures.items) in
    let request : LastRequest = RepliedTo c.args.call (Drained c.take_items.new.items.items) in
    let told = c.conclude.ensures ∙ ap (λ (items : List (List ℕ)). with_clients c.take_items.new.self.clients
    (clients_asked c.take_items.new.self.clients.clients c.args.key (RepliedTo c.args.call (Drained items))))
    c.from_vec.ensures in
    arrives_as c.args.self.now (counted (asked_in c.take_items.new.self c.args.key request) c.args.moment)
    c.record.new.self c.args.moment c.args.key c.args.call
    (entry c.args.moment (Arrive c.args.key c.args.call) c.take_items.new.places.items) c.record.result
    (concluded_now c.take_items.new.self c.record.new.self c.args.moment c.args.key request
    c.conclude.new.self told
    c.record.ensures.counted)
    (copied_entry c.record.result c.args.moment c.args.key c.args.call c.in_ok-copy.copy c.from_vec-2.result
    c.take_items.new.places.items c.record.ensures.entry c.in_ok-copy.ensures.copy c.from_vec-2.ensures)
    (drains_by c.args.self.now c.take_items.new.self c.args.key queue c.min-most.result
    c.take_items.new.items.items c.take_items.new.places.items c.take_items.ensures.takes c.args.moment
    c.args.max
    c.args.call c.drained_queue-queue.ensures.side c.requires.drains c.requires.may.ready.consistent
    c.requires.may.next most)
