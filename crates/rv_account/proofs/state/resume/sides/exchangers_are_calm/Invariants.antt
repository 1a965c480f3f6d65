-- Those before are calm.
use Rattle.std.proofs.Common.{ℕ, ◌<◌}
use Rattle.rv_account.specs.state.resume.Checking.{IsCalmExchanger}
use Rattle.rv_account.proofs.state.resume.sides.exchangers_are_calm.Given as goal

abbrev pub invariant-loop-exchanger : goal.invariant-loop-exchanger
invariant-loop-exchanger l = (exchanger : ℕ) → exchanger < l.exchanger → IsCalmExchanger l.opens exchanger
