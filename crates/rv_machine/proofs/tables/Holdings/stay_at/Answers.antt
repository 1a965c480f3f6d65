-- The request is open from now on, and its client's last.
use Rattle.std.proofs.Common.{◌≡◌, ◌∙◌, [], ap, refl, subst, sym, Some}
use Rattle.std.specs.Prelude.{IfSome}
use Rattle.rv_session.specs.Clients.{ClientStates, place_awaited}
use Rattle.rv_account.specs.declared.entry.Entry.{Entry}
use Rattle.rv_account.specs.declared.entry.Act.TheVariants.{Arrive}
use Rattle.rv_account.specs.Account.{entry}
use Rattle.rv_account.specs.state.State.{OpenPlace}
use Rattle.rv_machine.specs.declared.tables.Holdings.{Holdings}
use Rattle.rv_machine.specs.Arriving.{Arrives, after_put}
use Rattle.rv_machine.specs.open_places.Indexed.{ParksPlace}
use Rattle.rv_machine.specs.Machines.{IsWhole}
use Rattle.rv_machine.proofs.StayedMachine.{put_awaits, stay_arrives, stay_ready}
use Rattle.rv_machine.proofs.tables.Holdings.stay_at.Goals as goal

pub settle_put-requires : goal.settle_put-requires
settle_put-requires c =
    let parks = subst (λ (o : OpenPlace). ParksPlace c.args.self.now.table c.park.new.self
    c.args.self.now.clients
    c.park.new.clients o c.args.key c.args.call c.in_ok-put.put) c.requires.opened c.in_ok-put.ensures.ok
    in
    subst (λ (t : ClientStates). IfSome c.in_ok-put.put (λ d. place_awaited t.clients d.client ≡ Some
    d.place))
    (sym parks.begins)
    (put_awaits c.args.self.now c.args.moment c.args.key c.args.call c.requires.may c.requires.alone
    c.requires.stays c.in_ok-put.put parks.own_is)

pub returns-clause-ready : goal.returns-clause-ready
returns-clause-ready c =
    let parks = subst (λ (o : OpenPlace). ParksPlace c.args.self.now.table c.park.new.self
    c.args.self.now.clients
    c.park.new.clients o c.args.key c.args.call c.in_ok-put.put) c.requires.opened c.in_ok-put.ensures.ok
    in
    subst (λ (m : Holdings). IsWhole m) (sym c.record.ensures.counted)
    (stay_ready c.args.self.now c.args.moment c.args.key c.args.call c.requires.may c.requires.alone
    c.requires.stays c.args.copy c.requires.copy c.park.new.self parks.opens
    c.settle_put.new.clients c.in_ok-put.put parks.own_is
    (c.settle_put.ensures ∙ ap (λ (t : ClientStates). after_put t c.in_ok-put.put) parks.begins)
    c.args.self.now.settled refl c.requires.room)

pub returns-clause-ok : goal.returns-clause-ok
returns-clause-ok c =
    let parks = subst (λ (o : OpenPlace). ParksPlace c.args.self.now.table c.park.new.self
    c.args.self.now.clients
    c.park.new.clients o c.args.key c.args.call c.in_ok-put.put) c.requires.opened c.in_ok-put.ensures.ok
    in
    subst (λ (e : Entry). Arrives c.args.self.now c.record.new.self c.args.moment c.args.key c.args.call e)
    (sym (c.record.ensures.entry ∙ ap (entry c.args.moment (Arrive c.args.key c.args.copy))
    c.none.ensures))
    (subst (λ (m : Holdings). Arrives c.args.self.now m c.args.moment c.args.key c.args.call
    (entry c.args.moment (Arrive c.args.key c.args.copy) []))
    (sym c.record.ensures.counted)
    (stay_arrives c.args.self.now c.args.moment c.args.key c.args.call c.requires.may c.requires.alone
    c.requires.stays c.args.copy c.requires.copy c.park.new.self parks.opens
    c.settle_put.new.clients c.in_ok-put.put parks.own_is
    (c.settle_put.ensures ∙ ap (λ (t : ClientStates). after_put t c.in_ok-put.put) parks.begins)
    c.args.self.now.settled refl))
