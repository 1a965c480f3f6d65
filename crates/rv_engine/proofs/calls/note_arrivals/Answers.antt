-- One entry after another.
use Rattle.std.proofs.Common.{List, arith, subst}
use Rattle.std.proofs.lemmas.List.{take_all}
use Rattle.rv_account.specs.declared.entry.Entry.{Entry}
use Rattle.rv_engine.specs.Calls.{CountsMore}
use Rattle.rv_engine.proofs.Arrivals.{next_more}
use Rattle.rv_engine.proofs.calls.note_arrivals.Goals as goal

pub loop-entry-preserved : goal.loop-entry-preserved
loop-entry-preserved c =
    next_more c.args.counts.now c.loop-entry.counts c.note_entry.new.counts c.args.entries.now
    c.loop-entry.entry-index c.entry-item.result c.loop-entry-test.true c.entry-item.is
    c.loop-entry.invariant c.note_entry.ensures

pub returns : goal.returns
returns c =
    subst (λ (made : List Entry). CountsMore c.args.counts.now made c.loop-entry.counts)
    (take_all c.loop-entry.entry-index c.args.entries.now (omega (arith, c.loop-entry-test.false)))
    c.loop-entry.invariant
