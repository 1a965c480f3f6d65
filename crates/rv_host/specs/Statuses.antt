-- The exit status of a server that doesn't start because of its words.
use Rattle.std.specs.Prelude.{List, ℕ, ◌≡◌}
use Rattle.clap.specs.Words.{Text}
use Rattle.rv_words.specs.options.Faults.{IsFault, status_of}
use Rattle.rv_words.specs.declared.options.fault.HostFault.{HostFault}

-- the status is that of a fault that the words have
pub record RefusesWords (words : List Text) (status : ℕ) : Type 0 where
  pub fault : HostFault
  pub has : IsFault words fault
  pub tells : status ≡ status_of fault
