-- A piece is torn where rv_verify says so.
use Rattle.rv_verify.proofs.reading.is_torn.Goals as goal

pub returns-in-Ok-clause-yes : goal.returns-in-Ok-clause-yes
returns-in-Ok-clause-yes c told = c.in-Ok.ensures.yes (cc)
