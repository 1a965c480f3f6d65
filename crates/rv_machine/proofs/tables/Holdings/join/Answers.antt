-- Each way to arrive takes what a request needs that may arrive.
use Rattle.std.proofs.Common.{◌<◌, ◌∙◌, arith, ap, subst, sym, length, ℕ}
use Rattle.std.proofs.lemmas.Bool.{false≢true}
use Rattle.std.proofs.lemmas.List.{nil_from_length}
use Rattle.rv_text.specs.Calls.{side_of}
use Rattle.rv_text.specs.Limits.{FitsSide}
use Rattle.rv_text.specs.declared.call.Side.{Side}
use Rattle.rv_account.proofs.OfState.Resumed.Decided.{side_fits}
use Rattle.rv_machine.specs.open_places.OpenMap.{opposed_in}
use Rattle.rv_machine.proofs.tables.Holdings.join.Goals as goal

pub drain-requires-clause-may : goal.drain-requires-clause-may
drain-requires-clause-may c = c.requires.may

pub drain-requires-clause-drains : goal.drain-requires-clause-drains
drain-requires-clause-drains c = sym c.drains.ensures ∙ c.in-Some.is

pub opposed-requires : goal.opposed-requires
opposed-requires c =
    subst (λ (s : Side). FitsSide s) (sym c.side.ensures) (side_fits c.args.call c.requires.may.fits)

pub meet-requires-clause-may : goal.meet-requires-clause-may
meet-requires-clause-may c = c.requires.may

pub meet-requires-clause-some : goal.meet-requires-clause-some
meet-requires-clause-some c =
    subst (λ (n : ℕ). 0 < n)
    (c.opposed.ensures ∙ ap (λ (s : Side). length (opposed_in c.args.self.now.table s)) c.side.ensures)
    c.if-opposed-gt0.true

pub stay-requires-clause-may : goal.stay-requires-clause-may
stay-requires-clause-may c = c.requires.may

pub stay-requires-clause-alone : goal.stay-requires-clause-alone
stay-requires-clause-alone c =
    let many = c.opposed.ensures
    ∙ ap (λ (s : Side). length (opposed_in c.args.self.now.table s)) c.side.ensures in
    let none = c.if-opposed-gt0.false in
    nil_from_length (opposed_in c.args.self.now.table (side_of c.args.call)) (omega (arith, many, none))

pub stay-requires-clause-stays : goal.stay-requires-clause-stays
stay-requires-clause-stays c = c.stays.ensures.0 c.if-stays.true

pub leave-requires-clause-may : goal.leave-requires-clause-may
leave-requires-clause-may c = c.requires.may

pub leave-requires-clause-alone : goal.leave-requires-clause-alone
leave-requires-clause-alone c =
    let many = c.opposed.ensures
    ∙ ap (λ (s : Side). length (opposed_in c.args.self.now.table s)) c.side.ensures in
    let none = c.if-opposed-gt0.false in
    nil_from_length (opposed_in c.args.self.now.table (side_of c.args.call)) (omega (arith, many, none))

pub leave-requires-clause-leaves : goal.leave-requires-clause-leaves
leave-requires-clause-leaves c = λ stays. false≢true (sym c.if-stays.false ∙ c.stays.ensures.1 stays)
