-- The rest goes on where the bytes before it ended, and each turn takes at least one.
use Rattle.std.proofs.Common.{◌≡◌, ◌≤◌, ◌+◌, length}
use Rattle.rv_status.specs.Frames.{after, ends}
use Rattle.rv_status.proofs.frames.FrameMeter.pass.Given as goal

abbrev pub invariant-loop-rest : goal.invariant-loop-rest
invariant-loop-rest l =
    (after l.self l.rest ≡ after l.initial.self l.piece)
    × (l.ended + ends l.self l.rest ≡ ends l.initial.self l.piece)
    × (l.ended + length l.rest ≤ length l.piece)

abbrev pub decreases-loop-rest : goal.decreases-loop-rest
decreases-loop-rest l = length l.rest
