-- A line more stands so, or doesn't.
use Rattle.std.proofs.Common.{sym, ◌∙◌}
use Rattle.std.proofs.lemmas.Bool.{false≢true}
use Rattle.rv_run.proofs.OfInspect.Counted.{more_below, same_below}
use Rattle.rv_run.proofs.inspect.telling.with_line.Goals as goal

pub returns-then-stands-clause-counted : goal.returns-then-stands-clause-counted
returns-then-stands-clause-counted c counted = record {
  are = λ a noted. more_below c.args.how c.args.records.now.lines.items c.args.index c.args.count
      ((c.stands.ensures a noted).0 c.if-stands.true) (counted.are a noted);
}

pub returns-else-stands-clause-counted : goal.returns-else-stands-clause-counted
returns-else-stands-clause-counted c counted = record {
  are = λ a noted. same_below c.args.how c.args.records.now.lines.items c.args.index c.args.count
      (λ here. false≢true (sym c.if-stands.false ∙ (c.stands.ensures a noted).1 here)) (counted.are a noted);
}
