-- A client that is new waits nowhere.
use Rattle.std.proofs.Common.{◌∙◌, ap, arith, sym, subst, refl}
use Rattle.rv_session.specs.Clients.{ClientStates, fresh_state}
use Rattle.rv_account.specs.state.After.{advanced}
use Rattle.rv_account.specs.state.State.{State}
use Rattle.rv_account.proofs.OfState.Words.{none-some}
use Rattle.rv_machine.specs.Machines.{state_in}
use Rattle.rv_machine.specs.Numbering.{AreNumbered}
use Rattle.rv_machine.specs.declared.tables.Holdings.{Holdings}
use Rattle.rv_machine.proofs.HelloMoves.{moves_idle, moves_lacking, moves_no_client, moves_no_entry}
use Rattle.rv_machine.proofs.HelloMoves.{unknown_new}
use Rattle.rv_machine.proofs.Idle.{put_ready, put_state, with_table}
use Rattle.rv_machine.proofs.Numbered.{put_numbered}
use Rattle.rv_machine.proofs.tables.Holdings.admit.Goals as goal

pub returns-then-len-clients-clause-err : goal.returns-then-len-clients-clause-err
returns-then-len-clients-clause-err c =
    moves_no_client c.args.limits.now c.args.self.now c.args.moment c.args.client c.args.incarnation
    c.args.version c.requires.unknown (omega arith)

pub returns-then-is_full-clause-err : goal.returns-then-is_full-clause-err
returns-then-is_full-clause-err c =
    moves_no_entry c.args.limits.now c.args.self.now c.args.moment c.args.client c.args.incarnation
    c.args.version
    (unknown_new c.args.limits.now c.args.self.now c.args.client c.args.incarnation c.requires.unknown
    (omega arith))
    (c.is_full.ensures.full c.if-is_full.true)

pub welcome-requires : goal.welcome-requires
welcome-requires c = omega (arith, c.is_full.ensures.counts c.if-is_full.false)

pub returns-in-Ok-clause-ready : goal.returns-in-Ok-clause-ready
returns-in-Ok-clause-ready c =
    let old = c.args.self.now in
    let is = c.in-Ok.ensures.ok in
    c.welcome.ensures.ready
    (put_ready old c.requires.ready c.args.client (fresh_state c.args.incarnation c.args.version)
    c.admit.new.self (ap (λ (t : ClientStates). t.clients) is) (ap (λ (t : ClientStates). t.epoch) is)
    (ap (λ (t : ClientStates). t.most) is) (λ x there. absurd (none-some x (sym c.requires.unknown ∙ there)))
    refl) c.requires.time (omega (arith, c.is_full.ensures.counts c.if-is_full.false))

pub returns-in-Ok-clause-numbered : goal.returns-in-Ok-clause-numbered
returns-in-Ok-clause-numbered c =
    let old = c.args.self.now in
    let is = c.in-Ok.ensures.ok in
    subst (λ (m : Holdings). AreNumbered (state_in m)) (sym c.welcome.ensures.counted)
    (subst AreNumbered (sym (put_state old c.requires.ready c.args.client
    (fresh_state c.args.incarnation c.args.version) c.admit.new.self (ap (λ (t : ClientStates). t.clients) is)
    (ap (λ (t : ClientStates). t.epoch) is)))
    (put_numbered (state_in old) c.args.client (fresh_state c.args.incarnation c.args.version)
    c.requires.numbered (record { unasked = λ none. refl; zero = λ fresh. refl })))

pub returns-in-Ok-clause-ok : goal.returns-in-Ok-clause-ok
returns-in-Ok-clause-ok c =
    let old = c.args.self.now in
    let is = c.in-Ok.ensures.ok in
    moves_idle c.args.limits.now old old c.welcome.new.self c.args.moment
    c.args.client c.args.incarnation c.args.version
    (unknown_new c.args.limits.now old c.args.client c.args.incarnation c.requires.unknown (omega arith))
    (c.is_full.ensures.space c.if-is_full.false) c.welcome.result c.welcome.ensures.entry
    (ap state_in c.welcome.ensures.counted
    ∙ ap (λ (t : State). advanced t c.args.moment)
    (put_state old c.requires.ready c.args.client (fresh_state c.args.incarnation c.args.version)
    c.admit.new.self (ap (λ (t : ClientStates). t.clients) is) (ap (λ (t : ClientStates). t.epoch) is)))
    (ap (λ (m : Holdings). m.settled) c.welcome.ensures.counted)
    (λ x there. absurd (none-some x (sym c.requires.unknown ∙ there))) refl refl

pub returns-in-Err-clause-err : goal.returns-in-Err-clause-err
returns-in-Err-clause-err c =
    let old = c.args.self.now in
    moves_lacking c.args.limits.now old (with_table old c.admit.new.self) c.args.moment c.args.client
    c.args.incarnation c.args.version
    (unknown_new c.args.limits.now old c.args.client c.args.incarnation c.requires.unknown (omega arith))
    (c.is_full.ensures.space c.if-is_full.false)
    (ap (λ (t : ClientStates). state_in (with_table old t)) c.in-Err.ensures.err) refl
