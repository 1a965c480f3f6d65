-- It stands as is told of it, and no other way.
use Rattle.std.proofs.Common.{Some, ap, sym, ◌∙◌}
use Rattle.std.proofs.lemmas.Bool.{false≢true}
use Rattle.std.proofs.lemmas.Option.{none-some, same_Some}
use Rattle.rv_run.proofs.OfInspect.Counted.{stands_so, told_so}
use Rattle.rv_run.proofs.inspect.telling.stands.Goals as goal

pub returns-in-Some : goal.returns-in-Some
returns-in-Some c a noted =
    let lines = c.args.records.now.lines.items in (
      λ yes. stands_so c.args.how lines c.args.index c.beside_first.result
          (λ own there. c.beside_first.ensures.told a own there noted) c.requires
          c.beside_first.ensures.flawed
          c.in-Some.own.1 (c.in-Some.is ∙ ap (λ b. Some (b, c.in-Some.own.1)) (c.is_alike.ensures.0 yes)),
      λ here. c.is_alike.ensures.1 (ap (λ p. p.0) (same_Some _ _ (sym c.in-Some.is
          ∙ told_so c.args.how lines c.args.index c.beside_first.result
          (λ own there. c.beside_first.ensures.told a own there noted) here))),
    )

pub returns-in-None : goal.returns-in-None
returns-in-None c a noted = (
  λ no. absurd (false≢true no),
  λ here. absurd (none-some _ (sym c.in-None.is
      ∙ told_so c.args.how c.args.records.now.lines.items c.args.index c.beside_first.result
      (λ own there. c.beside_first.ensures.told a own there noted) here)),
)
