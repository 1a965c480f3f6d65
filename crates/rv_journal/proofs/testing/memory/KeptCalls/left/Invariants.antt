-- The calls so far are replayed.
use Rattle.std.proofs.Common.{take}
use Rattle.rv_journal.proofs.Calls.{HasReplayed}
use Rattle.rv_journal.proofs.testing.memory.KeptCalls.left.Given as goal

abbrev pub invariant-loop-call : goal.invariant-loop-call
invariant-loop-call l = HasReplayed l.self.first.items (take l.call-index l.self.calls.items)
    l.replay.seen.items l.replay.left.items
