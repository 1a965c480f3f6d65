use Rattle.rv_audit.proofs.Words.{SetsFlags, take}
use Rattle.rv_audit.proofs.front.set_flags.Given as goal

abbrev pub invariant-loop-place : goal.invariant-loop-place
invariant-loop-place l = SetsFlags l.initial.taken.items l.taken.items (take l.place-index l.places)
