-- What waited of the client's session is over, if something did.
use Rattle.std.proofs.Common.{◌≡◌, ◌∙◌, Option, Some, None, IsSome, arith, sym, refl, subst}
use Rattle.rv_session.specs.Clients.{place_waiting}
use Rattle.rv_text.specs.declared.answer.Reply.TheVariants.{Cancelled}
use Rattle.rv_account.specs.state.State.{ClientState}
use Rattle.rv_machine.specs.Machines.{state_in}
use Rattle.rv_machine.proofs.EndedLast.{found_waiting, idle_after, known_after, space_after, waits_for}
use Rattle.rv_machine.proofs.EndedLast.{waits_in}
use Rattle.rv_machine.proofs.HelloMoves.{lower_new, moves_idle, moves_no_entry, moves_waiting}
use Rattle.rv_machine.proofs.KeyLines.{awaited_there}
use Rattle.rv_machine.proofs.Numbered.{ended_numbered}
use Rattle.rv_machine.proofs.tables.Holdings.renew.Goals as goal

pub returns-then-is_full-clause-err : goal.returns-then-is_full-clause-err
returns-then-is_full-clause-err c =
    moves_no_entry c.args.limits.now c.args.self.now c.args.moment c.args.client c.args.incarnation
    c.args.version
    (lower_new c.args.limits.now c.args.self.now c.args.client c.args.incarnation c.args.waiting
    c.requires.lower)
    (c.is_full.ensures.full c.if-is_full.true)

pub end-requires-clause-waits : goal.end-requires-clause-waits
end-requires-clause-waits c =
    let old = c.args.self.now in
    let has = c.requires.lower in
    waits_in (state_in old) c.args.client c.in-Some.place
    (waits_for (state_in old) c.requires.ready.consistent c.args.client c.in-Some.place has.state has.there
    (awaited_there old.clients c.args.client has.state (Some c.in-Some.place) has.there
    (sym has.waits ∙ c.in-Some.is)))

pub reopen-requires-clause-numbered : goal.reopen-requires-clause-numbered
reopen-requires-clause-numbered c =
    ended_numbered c.args.self.now c.end.new.self c.in-Some.place Cancelled c.end.ensures.ends
    c.requires.numbered

pub reopen-requires-clause-reopens : goal.reopen-requires-clause-reopens
reopen-requires-clause-reopens c =
    let old = c.args.self.now in
    let has = c.requires.lower in
    let waits : place_waiting has.state.request ≡ Some c.in-Some.place =
    awaited_there old.clients c.args.client has.state (Some c.in-Some.place) has.there
    (sym has.waits ∙ c.in-Some.is) in
    let known = known_after old c.end.new.self c.requires.ready c.args.client c.in-Some.place Cancelled
    has.state has.there waits c.end.ensures.ends in
    record {
      idle = idle_after old c.end.new.self c.requires.ready c.args.client c.in-Some.place Cancelled has.state
          has.there waits c.end.ensures.ends;
      known = subst (λ (o : Option ClientState). IsSome o) (sym known) refl;
    }

pub reopen-requires-clause-space : goal.reopen-requires-clause-space
reopen-requires-clause-space c =
    space_after c.args.self.now c.end.new.self c.requires.ready c.in-Some.place Cancelled c.end.ensures.ends

pub reopen-requires-in-None-clause-space : goal.reopen-requires-in-None-clause-space
reopen-requires-in-None-clause-space c = omega (arith, c.is_full.ensures.counts c.if-is_full.false)

pub returns-in-Some-clause-ok : goal.returns-in-Some-clause-ok
returns-in-Some-clause-ok c =
    let old = c.args.self.now in
    let has = c.requires.lower in
    let waits : place_waiting has.state.request ≡ Some c.in-Some.place =
    awaited_there old.clients c.args.client has.state (Some c.in-Some.place) has.there
    (sym has.waits ∙ c.in-Some.is) in
    moves_waiting c.args.limits.now old c.end.new.self c.reopen.new.self c.args.moment c.args.client
    c.args.incarnation
    c.args.version (lower_new c.args.limits.now old c.args.client c.args.incarnation c.args.waiting has)
    (c.is_full.ensures.space c.if-is_full.false) c.reopen.result c.reopen.ensures.entry c.reopen.ensures.after
    c.reopen.ensures.settles c.in-Some.place c.end.ensures.ends
    (found_waiting old c.end.new.self c.requires.ready c.args.client c.in-Some.place Cancelled has.state
    has.there waits c.end.ensures.ends)

pub returns-in-None-clause-ok : goal.returns-in-None-clause-ok
returns-in-None-clause-ok c =
    let old = c.args.self.now in
    let has = c.requires.lower in
    moves_idle c.args.limits.now old old c.reopen-in-None.new.self c.args.moment c.args.client
    c.args.incarnation c.args.version
    (lower_new c.args.limits.now old c.args.client c.args.incarnation c.args.waiting has)
    (c.is_full.ensures.space c.if-is_full.false) c.reopen-in-None.result c.reopen-in-None.ensures.entry
    c.reopen-in-None.ensures.after c.reopen-in-None.ensures.settles
    (λ x there. awaited_there old.clients c.args.client x None there (sym has.waits ∙ c.in-None.is))
    refl refl
