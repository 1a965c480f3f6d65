-- A machine without entries, whose state can be resumed from.
use Rattle.std.proofs.Common.{◌≡◌, ◌≤◌, ℕ, arith, subst, sym}
use Rattle.rv_text.specs.Limits.{FitsIdentifier}
use Rattle.rv_account.specs.Limits.{max_moment}
use Rattle.rv_account.specs.rules.Steps.{capped_moment}
use Rattle.rv_account.specs.state.State.{opening}
use Rattle.rv_machine.specs.Machines.{state_in}
use Rattle.rv_machine.specs.declared.machine.Machine.{Machine}
use Rattle.rv_account.specs.state.resume.Resuming.{CanResume}
use Rattle.rv_account.proofs.OfState.Resumed.ResumeLaws.{openings_resume}

fits : FitsIdentifier 1
fits = grind arith

within : (n : ℕ) → capped_moment n ≤ max_moment
within n = omega arith

pub opened_resumes : (machine : Machine) → state_in machine ≡ opening 1 (capped_moment 0)
    → CanResume (state_in machine)
opened_resumes machine is = subst CanResume (sym is) (openings_resume 1 (capped_moment 0) fits (within 0))
