-- How many entries a call may need, by its wait and by whether that lasts.
use Rattle.rv_account.proofs.OfRules.Words.{◌≡◌, ◌≤◌, zero, suc, Option, Some, None, refl, arith, Call}
use Rattle.rv_account.proofs.OfRules.Words.{IsPut, Stays}
use Rattle.rv_text.specs.declared.call.Wait.{Wait}
use Rattle.rv_text.specs.declared.call.Wait.TheVariants.{Now, Millis, Forever}
use Rattle.rv_text.specs.Calls.{wait_of}
use Rattle.rv_account.specs.Calls.{Lasts, need_by, need_of}

pub need_positive : (wait : Option Wait) → 1 ≤ need_by wait
need_positive None = omega arith
need_positive (Some Now) = omega arith
need_positive (Some (Millis zero)) = omega arith
need_positive (Some (Millis (suc n))) = omega arith
need_positive (Some Forever) = omega arith

lasting_need : (wait : Option Wait) → (wait ≡ None → ⊥) → Lasts wait → need_by wait ≡ 2
lasting_need None waits lasts = absurd (waits refl)
lasting_need (Some Now) waits lasts = absurd lasts
lasting_need (Some (Millis zero)) waits lasts = absurd (omega arith)
lasting_need (Some (Millis (suc n))) waits lasts = refl
lasting_need (Some Forever) waits lasts = refl

-- a request that waits needs a second entry
pub waiting_need : (call : Call) → Stays call → (IsPut call → ⊥) → need_of call ≡ 2
waiting_need call stays no_put = lasting_need (wait_of call) (λ none. no_put (stays.0, none)) stays.1
