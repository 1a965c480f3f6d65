-- Why no machine was made of a state.
use Rattle.rv_account.specs.state.resume.Resuming.{CanResume}
use Rattle.rv_account.specs.state.State.{State}
use Rattle.rv_machine.specs.declared.state.NoMachine.{NoMachine}
use Rattle.rv_machine.specs.declared.state.NoMachine.TheVariants.{Unfit, NoMemory}

-- the state is none to resume from, or memory was refused for one that is
abbrev pub IsWhyNot : State → NoMachine → Type 0
IsWhyNot s Unfit = ¬ CanResume s
IsWhyNot s NoMemory = CanResume s
