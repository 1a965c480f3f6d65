-- Nothing is kept of a further line.
use Rattle.std.proofs.Common.{rules}
use Rattle.rv_verify.proofs.ongoing.OngoingAudit.after.Goals as goal

pub returns-clause-read : goal.returns-clause-read
returns-clause-read c lines held r noted =
    record { read = c.after.ensures.read lines held r noted; no_lf = search rules }
