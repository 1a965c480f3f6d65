-- The next number is the last, and cancelled.
use Rattle.std.proofs.Common.{◌∷◌, ◌∙◌, [], ap, arith, sym, subst, refl}
use Rattle.rv_account.specs.Account.{entry}
use Rattle.rv_account.specs.declared.entry.Act.TheVariants as act
use Rattle.rv_account.specs.declared.entry.Entry.{Entry}
use Rattle.rv_session.specs.Clients.{ClientStates}
use Rattle.rv_text.specs.declared.message.Message.TheVariants.{Cancel}
use Rattle.rv_machine.specs.declared.tables.Holdings.{Holdings}
use Rattle.rv_machine.specs.declared.machine.Said.TheVariants as said
use Rattle.rv_machine.specs.Ending.{counted}
use Rattle.rv_machine.specs.Machines.{MovesBy, state_in}
use Rattle.rv_machine.specs.Numbering.{AreNumbered}
use Rattle.rv_machine.proofs.CancelMoves.{buried, buried_numbered, buries_cancel, clients_buried}
use Rattle.rv_machine.proofs.CancelMoves.{fills_cancel}
use Rattle.rv_machine.proofs.CancelMoves.{next_idle}
use Rattle.rv_machine.proofs.Idle.{put_ready, put_state, with_table}
use Rattle.rv_machine.proofs.Numbered.{put_numbered}
use Rattle.rv_machine.proofs.tables.Holdings.bury.Goals as goal

pub returns-then-is_full-clause-err : goal.returns-then-is_full-clause-err
returns-then-is_full-clause-err c =
    fills_cancel c.args.limits.now c.args.self.now c.args.moment c.args.key c.requires.numbered
    c.requires.next
    (c.is_full.ensures.full c.if-is_full.true)

pub record-requires : goal.record-requires
record-requires c = omega (arith, c.is_full.ensures.counts c.if-is_full.false)

pub returns-clause-ready : goal.returns-clause-ready
returns-clause-ready c =
    let old = c.args.self.now in
    c.record.ensures.ready
    (put_ready old c.requires.ready c.args.key.client (buried old c.args.moment c.args.key c.requires.next)
    c.bury.new.self
    (clients_buried old c.args.moment c.args.key c.requires.next c.bury.new.self c.bury.ensures)
    (ap (λ (t : ClientStates). t.epoch) c.bury.ensures)
    (ap (λ (t : ClientStates). t.most) c.bury.ensures)
    (next_idle old c.args.moment c.args.key c.requires.next) refl) c.requires.time
    (omega (arith, c.is_full.ensures.counts c.if-is_full.false))

pub returns-clause-numbered : goal.returns-clause-numbered
returns-clause-numbered c =
    let old = c.args.self.now in
    let next = c.requires.next in
    subst (λ (m : Holdings). AreNumbered (state_in m)) (sym c.record.ensures.counted)
    (subst AreNumbered (sym (put_state old c.requires.ready c.args.key.client
    (buried old c.args.moment c.args.key next) c.bury.new.self
    (clients_buried old c.args.moment c.args.key next c.bury.new.self c.bury.ensures)
    (ap (λ (t : ClientStates). t.epoch) c.bury.ensures)))
    (put_numbered (state_in old) c.args.key.client (buried old c.args.moment c.args.key next)
    c.requires.numbered (buried_numbered old c.args.moment c.args.key next)))

pub returns-clause-ok : goal.returns-clause-ok
returns-clause-ok c =
    let old = c.args.self.now in
    let next = c.requires.next in
    let mid : Holdings = with_table old c.bury.new.self in
    let made = c.record.ensures.entry
    ∙ ap (entry c.args.moment (act.Cancel c.args.key)) c.none-partners.ensures in
    subst (λ (m : Holdings). MovesBy c.args.limits.now old m c.args.moment (Cancel c.args.key)
    (c.record.result ∷ [])
    (said.Told c.args.key)) (sym c.record.ensures.counted)
    (subst (λ (e : Entry). MovesBy c.args.limits.now old (counted mid c.args.moment) c.args.moment
    (Cancel c.args.key)
    (e ∷ []) (said.Told c.args.key)) (sym made)
    (buries_cancel old c.args.moment c.args.key next c.args.limits.now mid c.requires.numbered
    (c.is_full.ensures.space c.if-is_full.false)
    (put_state old c.requires.ready c.args.key.client (buried old c.args.moment c.args.key next)
    c.bury.new.self (clients_buried old c.args.moment c.args.key next c.bury.new.self c.bury.ensures)
    (ap (λ (t : ClientStates). t.epoch) c.bury.ensures)) refl))
