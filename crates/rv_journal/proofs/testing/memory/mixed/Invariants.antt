-- The bytes so far are old or written.
use Rattle.std.proofs.Common.{◌≡◌, length}
use Rattle.rv_journal.specs.Device.{Mixed}
use Rattle.rv_journal.proofs.testing.memory.mixed.Given as goal

abbrev pub invariant-loop-place : goal.invariant-loop-place
invariant-loop-place l = Mixed l.at l.bytes l.old l.new.items
    × (length l.new.items ≡ length l.initial.new.items)
