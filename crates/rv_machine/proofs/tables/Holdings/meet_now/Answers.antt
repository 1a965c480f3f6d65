-- The arrival met one, who was told before it.
use Rattle.std.proofs.Common.{◌≡◌, ◌∙◌, ◌∷◌, ◌++◌, [], ap, subst, sym, refl, List, Option, Some, IsSome, ℕ}
use Rattle.rv_text.specs.declared.call.Call.{Call}
use Rattle.rv_text.specs.declared.call.Side.{Side}
use Rattle.rv_text.specs.declared.answer.Reply.{Reply}
use Rattle.rv_text.specs.Calls.{side_of, wait_of}
use Rattle.rv_session.specs.OwedDuty.{OwedDuty}
use Rattle.rv_session.specs.Clients.{ClientStates, clients_told, place_awaited, with_clients}
use Rattle.rv_account.specs.declared.entry.Entry.{Entry}
use Rattle.rv_account.specs.declared.entry.Act.TheVariants.{Arrive}
use Rattle.rv_account.specs.Account.{entry}
use Rattle.rv_account.specs.Calls.{opposite}
use Rattle.rv_account.specs.state.After.{told_own}
use Rattle.rv_machine.specs.declared.tables.Holdings.{Holdings}
use Rattle.rv_machine.specs.Arriving.{Arrives}
use Rattle.rv_machine.specs.open_places.Indexed.{ClosesFirst}
use Rattle.rv_machine.specs.Machines.{IsWhole, state_in}
use Rattle.rv_machine.specs.Telling.{TellsOne, TellsWaiter}
use Rattle.rv_machine.proofs.MetMachine.{new_arrives, new_ready}
use Rattle.rv_machine.proofs.MetOne.{begun, begun_with, opposes, tells_both, tells_waiter}
use Rattle.rv_machine.proofs.MetReplies.{arrival_told, own_by_side, same_told}
use Rattle.rv_machine.proofs.tables.Holdings.meet_now.Goals as goal

pub tell-requires : goal.tell-requires
tell-requires c =
    let met = subst (λ (x : Call). ClosesFirst c.args.self.now.table c.meet-there.new.self
    (opposite (side_of x))
    c.meet-there.result.there c.meet-there.result.other) c.requires.copy c.meet-there.ensures.met in
    record {
      waits = subst (λ (t : ClientStates). TellsWaiter (begun_with c.args.self.now c.meet-there.new.self t)
          c.meet-there.result.other c.meet-there.result.there.waiter c.meet-there.result.there.side c.args.key
          c.args.gift) (sym c.begin-duty.ensures.waits)
          (subst (λ (g : Option (List ℕ)). TellsWaiter (begun c.args.self.now c.args.moment c.args.key
          c.args.call
          c.requires.may c.meet-there.new.self c.meet-there.result.there c.meet-there.result.other met)
          c.meet-there.result.other c.meet-there.result.there.waiter c.meet-there.result.there.side c.args.key
          g)
          (sym c.requires.gift)
          (tells_waiter c.args.self.now c.args.moment c.args.key c.args.call c.requires.may
          c.meet-there.new.self
          c.meet-there.result.there c.meet-there.result.other met));
    }

pub arriving-reply-requires : goal.arriving-reply-requires
arriving-reply-requires c =
    let met = subst (λ (x : Call). ClosesFirst c.args.self.now.table c.meet-there.new.self
    (opposite (side_of x))
    c.meet-there.result.there c.meet-there.result.other) c.requires.copy c.meet-there.ensures.met in
    let told = arrival_told (state_in c.args.self.now) c.requires.may.ready.consistent
    c.meet-there.result.there.place c.meet-there.result.there met.closes.found c.args.call
    c.begin-duty.result.1
    (opposes c.args.self.now c.args.moment c.args.key c.args.call c.requires.may c.meet-there.new.self
    c.meet-there.result.there c.meet-there.result.other met) in
    subst (λ (o : Option Reply). IsSome o) (sym (same_told c.wait.result c.side.result c.args.call
    c.begin-duty.result.1 c.key_of-taker.result c.meet-there.result.there
    (c.wait.ensures ∙ ap wait_of c.requires.copy) (c.side.ensures ∙ ap side_of c.requires.copy)
    c.key_of-taker.ensures)) told

pub settle-requires : goal.settle-requires
settle-requires c =
    let met = subst (λ (x : Call). ClosesFirst c.args.self.now.table c.meet-there.new.self
    (opposite (side_of x))
    c.meet-there.result.there c.meet-there.result.other) c.requires.copy c.meet-there.ensures.met in
    let tells = subst (λ (t : ClientStates). TellsOne (begun_with c.args.self.now c.meet-there.new.self t)
    c.tell.new.self
    c.meet-there.result.other c.meet-there.result.there.waiter c.meet-there.result.there.side c.args.key
    c.args.gift) c.begin-duty.ensures.waits c.tell.ensures in
    let both = tells_both c.args.self.now c.args.moment c.args.key c.args.call c.requires.may
    c.meet-there.new.self
    c.meet-there.result.there c.meet-there.result.other met c.tell.new.self
    (subst (λ (g : Option (List ℕ)). TellsOne (begun c.args.self.now c.args.moment c.args.key c.args.call
    c.requires.may c.meet-there.new.self c.meet-there.result.there c.meet-there.result.other met)
    c.tell.new.self
    c.meet-there.result.other c.meet-there.result.there.waiter c.meet-there.result.there.side c.args.key g)
    c.requires.gift tells) in
    subst (λ (d : OwedDuty). place_awaited c.tell.new.self.clients.clients d.client ≡ Some d.place)
    (sym (c.meet-there.ensures.own ∙ c.begin-duty.ensures.duty)) both.its_awaited

pub returns-clause-ready : goal.returns-clause-ready
returns-clause-ready c =
    let met = subst (λ (x : Call). ClosesFirst c.args.self.now.table c.meet-there.new.self
    (opposite (side_of x))
    c.meet-there.result.there c.meet-there.result.other) c.requires.copy c.meet-there.ensures.met in
    let tells = subst (λ (t : ClientStates). TellsOne (begun_with c.args.self.now c.meet-there.new.self t)
    c.tell.new.self
    c.meet-there.result.other c.meet-there.result.there.waiter c.meet-there.result.there.side c.args.key
    c.args.gift) c.begin-duty.ensures.waits c.tell.ensures in
    let both = tells_both c.args.self.now c.args.moment c.args.key c.args.call c.requires.may
    c.meet-there.new.self
    c.meet-there.result.there c.meet-there.result.other met c.tell.new.self
    (subst (λ (g : Option (List ℕ)). TellsOne (begun c.args.self.now c.args.moment c.args.key c.args.call
    c.requires.may c.meet-there.new.self c.meet-there.result.there c.meet-there.result.other met)
    c.tell.new.self
    c.meet-there.result.other c.meet-there.result.there.waiter c.meet-there.result.there.side c.args.key g)
    c.requires.gift tells) in
    let own : told_own (state_in c.args.self.now) c.args.key c.args.call (c.meet-there.result.there ∷ [])
    ≡ Some c.arriving-reply.result =
    own_by_side (state_in c.args.self.now) c.args.key c.args.call c.meet-there.result.there
    c.begin-duty.result.1
    (subst (λ (o : Option Side). IsSome o) (sym (opposes c.args.self.now c.args.moment c.args.key c.args.call
    c.requires.may c.meet-there.new.self c.meet-there.result.there c.meet-there.result.other met)) refl)
    c.requires.one c.begin-duty.ensures.version
    ∙ sym (same_told c.wait.result c.side.result c.args.call c.begin-duty.result.1 c.key_of-taker.result
    c.meet-there.result.there (c.wait.ensures ∙ ap wait_of c.requires.copy)
    (c.side.ensures ∙ ap side_of c.requires.copy) c.key_of-taker.ensures)
    ∙ c.arriving-reply.ensures in
    let clients = c.settle.ensures ∙ ap (λ (d : OwedDuty). with_clients c.tell.new.self.clients
    (clients_told c.tell.new.self.clients.clients d.client c.arriving-reply.result))
    (c.meet-there.ensures.own ∙ c.begin-duty.ensures.duty) in
    subst (λ (m : Holdings). IsWhole m) (sym c.record.ensures.counted)
    (new_ready c.args.self.now c.args.moment c.args.key c.args.call c.requires.may c.meet-there.new.self
    c.meet-there.result.there c.meet-there.result.other met c.requires.one c.tell.new.self both
    c.arriving-reply.result own c.settle.new.self clients)

pub returns-clause-arrives : goal.returns-clause-arrives
returns-clause-arrives c =
    let met = subst (λ (x : Call). ClosesFirst c.args.self.now.table c.meet-there.new.self
    (opposite (side_of x))
    c.meet-there.result.there c.meet-there.result.other) c.requires.copy c.meet-there.ensures.met in
    let tells = subst (λ (t : ClientStates). TellsOne (begun_with c.args.self.now c.meet-there.new.self t)
    c.tell.new.self
    c.meet-there.result.other c.meet-there.result.there.waiter c.meet-there.result.there.side c.args.key
    c.args.gift) c.begin-duty.ensures.waits c.tell.ensures in
    let both = tells_both c.args.self.now c.args.moment c.args.key c.args.call c.requires.may
    c.meet-there.new.self
    c.meet-there.result.there c.meet-there.result.other met c.tell.new.self
    (subst (λ (g : Option (List ℕ)). TellsOne (begun c.args.self.now c.args.moment c.args.key c.args.call
    c.requires.may c.meet-there.new.self c.meet-there.result.there c.meet-there.result.other met)
    c.tell.new.self
    c.meet-there.result.other c.meet-there.result.there.waiter c.meet-there.result.there.side c.args.key g)
    c.requires.gift tells) in
    let own : told_own (state_in c.args.self.now) c.args.key c.args.call (c.meet-there.result.there ∷ [])
    ≡ Some c.arriving-reply.result =
    own_by_side (state_in c.args.self.now) c.args.key c.args.call c.meet-there.result.there
    c.begin-duty.result.1
    (subst (λ (o : Option Side). IsSome o) (sym (opposes c.args.self.now c.args.moment c.args.key c.args.call
    c.requires.may c.meet-there.new.self c.meet-there.result.there c.meet-there.result.other met)) refl)
    c.requires.one c.begin-duty.ensures.version
    ∙ sym (same_told c.wait.result c.side.result c.args.call c.begin-duty.result.1 c.key_of-taker.result
    c.meet-there.result.there (c.wait.ensures ∙ ap wait_of c.requires.copy)
    (c.side.ensures ∙ ap side_of c.requires.copy) c.key_of-taker.ensures)
    ∙ c.arriving-reply.ensures in
    let clients = c.settle.ensures ∙ ap (λ (d : OwedDuty). with_clients c.tell.new.self.clients
    (clients_told c.tell.new.self.clients.clients d.client c.arriving-reply.result))
    (c.meet-there.ensures.own ∙ c.begin-duty.ensures.duty) in
    subst (λ (e : Entry). Arrives c.args.self.now c.record.new.self c.args.moment c.args.key c.args.call e)
    (sym c.record.ensures.entry)
    (subst (λ (m : Holdings). Arrives c.args.self.now m c.args.moment c.args.key c.args.call
    (entry c.args.moment (Arrive c.args.key c.args.copy) c.from_vec.result)) (sym c.record.ensures.counted)
    (new_arrives c.args.self.now c.args.moment c.args.key c.args.call c.requires.may c.meet-there.new.self
    c.meet-there.result.there c.meet-there.result.other met c.requires.one c.tell.new.self both
    c.arriving-reply.result own c.settle.new.self clients c.args.copy c.from_vec.result c.requires.copy
    (c.from_vec.ensures ∙ c.push_reserved.ensures.items
    ∙ ap (λ (l : List ℕ). l ++ c.meet-there.result.there.place ∷ []) c.requires.none)))
