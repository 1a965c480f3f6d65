-- Of the entries that the loop passed the arrivals are counted.
use Rattle.std.proofs.Common.{take}
use Rattle.rv_engine.specs.Calls.{CountsMore}
use Rattle.rv_engine.proofs.calls.note_arrivals.Given as goal

abbrev pub invariant-loop-entry : goal.invariant-loop-entry
invariant-loop-entry l = CountsMore l.initial.counts (take l.entry-index l.entries) l.counts
