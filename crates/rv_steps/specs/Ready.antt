-- What a machine is between two entries.
use Rattle.rv_machine.specs.Machines.{state_in}
use Rattle.rv_machine.specs.declared.machine.Machine.{Machine}
use Rattle.rv_account.specs.state.resume.Resuming.{CanResume}

-- it can follow entries
pub record CanFollow (machine : Machine) : Type 0 where
  pub resumes : CanResume (state_in machine)
