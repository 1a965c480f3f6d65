-- The statuses of a shell's commands whose words are none.
use Rattle.std.specs.Prelude.{List, ℕ, ◌≡◌}
use Rattle.clap.specs.Words.{Text}
use Rattle.rv_words.specs.shell.Faults.{HasShellFault, shell_status}
use Rattle.rv_words.specs.declared.shell.fault.ShellFault.{ShellFault}

-- the status is that of a fault that the words have
pub record RefusesCommand (words : List Text) (status : ℕ) : Type 0 where
  pub fault : ShellFault
  pub has : HasShellFault words fault
  pub tells : status ≡ shell_status fault
