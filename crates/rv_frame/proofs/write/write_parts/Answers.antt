-- Where the rest stops within, the front went out whole before.
use Rattle.std.proofs.Common.{subst, sym}
use Rattle.std.proofs.Math.Seq.{take-append-add}
use Rattle.std.specs.Io.KnownBytes.{Appends}
use Rattle.std.proofs.KnownBytes.{Appends-trans}
use Rattle.rv_frame.proofs.write.write_parts.Goals as goal

pub returns-in-Err-clause-sent : goal.returns-in-Err-clause-sent
returns-in-Err-clause-sent g c =
    subst (Appends _ _) (sym (take-append-add c.args.front.now c.args.rest.now c.in-Err.fault.sent))
    (Appends-trans _ _ _ _ _ c.in_ok-write_all.ensures.bytes c.in-Err.ensures.sent)
