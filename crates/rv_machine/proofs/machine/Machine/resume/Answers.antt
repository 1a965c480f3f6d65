-- The tables of a state to resume from are a machine's.
use Rattle.std.proofs.Common.{◌∙◌, sym}
use Rattle.std.proofs.lemmas.Bool.{false≢true}
use Rattle.rv_machine.proofs.machine.Machine.resume.Goals as goal

pub returns-then-not-can_resume-clause-err : goal.returns-then-not-can_resume-clause-err
returns-then-not-can_resume-clause-err c =
    λ fits. false≢true (sym c.if-not-can_resume.true ∙ c.can_resume.ensures.1 fits)

pub holding-requires : goal.holding-requires
holding-requires c = c.can_resume.ensures.0 c.if-not-can_resume.false

pub invariant_of-result : goal.invariant_of-result
invariant_of-result c =
    record { whole = c.in-Ok.ensures.ready; numbered = c.in-Ok.ensures.numbered }

pub returns-in-Ok-clause-fits : goal.returns-in-Ok-clause-fits
returns-in-Ok-clause-fits c = c.can_resume.ensures.0 c.if-not-can_resume.false

pub returns-in-Err-clause-err : goal.returns-in-Err-clause-err
returns-in-Err-clause-err c = c.can_resume.ensures.0 c.if-not-can_resume.false
