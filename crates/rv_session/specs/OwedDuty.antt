-- What a duty, held or laid aside, is to contracts.
use Rattle.std.specs.Prelude.{ℕ}

-- a request that is to be settled: the place of its arrival, and the client whose session waits there
pub record OwedDuty : Type 0 where
  pub place : ℕ
  pub client : ℕ
