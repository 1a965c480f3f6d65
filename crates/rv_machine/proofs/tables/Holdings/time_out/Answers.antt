-- The tick ends all that is due.
use Rattle.std.proofs.Common.{◌∷◌, ◌∙◌, [], ap, arith, subst, sym}
use Rattle.rv_account.specs.Account.{entry}
use Rattle.rv_account.specs.declared.entry.Entry.{Entry}
use Rattle.rv_account.specs.declared.entry.Act.TheVariants.{Tick}
use Rattle.rv_account.specs.state.State.{State}
use Rattle.rv_machine.specs.Ending.{counted}
use Rattle.rv_machine.specs.Ticking.{TimesOut}
use Rattle.rv_machine.specs.declared.tables.Holdings.{Holdings}
use Rattle.rv_machine.proofs.InTurn.{ends_more, ends_one, ticked_all}
use Rattle.rv_machine.proofs.tables.Holdings.time_out.Goals as goal

pub returns-clause-ready : goal.returns-clause-ready
returns-clause-ready c =
    let one = c.end_next.ensures.one c.if-not-end_next.false in
    c.record.ensures.ready c.end_due.ensures.ready c.requires.time
    (let first = one.fewer in
    let then = c.end_due.ensures.ends.fewer in
    let before = ap (λ (s : State). s.length) one.state in
    let length = ap (λ (s : State). s.length) c.end_due.ensures.ends.state in
    let most = c.requires.ready.consistent.space in
    omega arith)

pub returns-clause-ticks : goal.returns-clause-ticks
returns-clause-ticks c =
    let old = c.args.self.now in
    let one = c.end_next.ensures.one c.if-not-end_next.false in
    let ends = ends_more old c.end_next.new.self c.end_due.new.self c.args.moment
    (ends_one old c.end_next.new.self c.args.moment one) c.end_due.ensures.ends in
    subst (λ (m : Holdings). TimesOut old m c.args.moment (c.record.result ∷ []))
    (sym c.record.ensures.counted)
    (subst (λ (e : Entry). TimesOut old (counted c.end_due.new.self c.args.moment) c.args.moment (e ∷ []))
    (sym (c.record.ensures.entry ∙ ap (entry c.args.moment Tick) c.none-partners.ensures))
    (ticked_all old c.end_due.new.self c.args.moment one.there _ one.first ends c.end_due.ensures.none_due
    (let first = one.fewer in let then = c.end_due.ensures.ends.fewer in omega arith)))
