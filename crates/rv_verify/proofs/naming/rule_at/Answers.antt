-- The same is read.
use Rattle.rv_verify.proofs.naming.rule_at.Goals as goal

pub returns : goal.returns
returns g c = record { told = c.rule_read.ensures.told }
