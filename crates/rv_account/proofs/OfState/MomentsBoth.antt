-- A moment keeps an account's moments exactly where it fits its state.
use Rattle.rv_account.proofs.OfState.Words.{◌≡◌, ◌≤◌, inl, inr, ℕ, [], arith, Act, Arrive, Cancel, Hello}
use Rattle.rv_account.proofs.OfState.Words.{Tick, Account}
use Rattle.rv_account.proofs.OfState.Words.{own_moment, Legal, NothingDue, State, due_at, IsStateOf}
use Rattle.rv_account.specs.rules.Legal.{KeepsLimits, KeepsMoments, SomethingDue}
use Rattle.rv_account.specs.state.Follows.{DueOnlyAtTick, MomentFits}
use Rattle.rv_account.proofs.OfState.Due.{due_or_none, nothing_due}
use Rattle.rv_account.proofs.OfState.OwnMoment.{later_keeps_time, time_is_later}

-- ---- what is due

pub none_due : (a : Account) (s : State) (moment : ℕ) → IsStateOf a s → NothingDue a.entries moment
    → due_at s moment ≡ []
none_due a s moment state nothing = elim (due_or_none a s moment state) [
  | inl due ↦ absurd (nothing due.0 due.1)
  | inr none ↦ none
]

pub due_to_some : (a : Account) (s : State) (moment : ℕ) → IsStateOf a s → SomethingDue a.entries moment
    → due_at s moment ≡ [] → ⊥
due_to_some a s moment state due none = nothing_due a s moment state none due.0 due.1

pub some_to_due : (a : Account) (s : State) (moment : ℕ) → IsStateOf a s → (due_at s moment ≡ [] → ⊥)
    → SomethingDue a.entries moment
some_to_due a s moment state some = elim (due_or_none a s moment state) [
  | inl due ↦ due
  | inr none ↦ absurd (some none)
]

pub limits_to_due : (a : Account) (s : State) (moment : ℕ) (does : Act) → IsStateOf a s
    → KeepsLimits a.entries moment does → DueOnlyAtTick s moment does
limits_to_due a s moment (Hello client incarnation version) state keeps = none_due a s moment state keeps
limits_to_due a s moment (Arrive key call) state keeps = none_due a s moment state keeps
limits_to_due a s moment (Cancel key) state keeps = none_due a s moment state keeps
limits_to_due a s moment Tick state keeps = due_to_some a s moment state keeps

pub due_to_limits : (a : Account) (s : State) (moment : ℕ) (does : Act) → IsStateOf a s
    → DueOnlyAtTick s moment does → KeepsLimits a.entries moment does
due_to_limits a s moment (Hello client incarnation version) state keeps = nothing_due a s moment state keeps
due_to_limits a s moment (Arrive key call) state keeps = nothing_due a s moment state keeps
due_to_limits a s moment (Cancel key) state keeps = nothing_due a s moment state keeps
due_to_limits a s moment Tick state keeps = some_to_due a s moment state keeps

-- ---- the moments

pub moments_fit : (a : Account) (s : State) (moment : ℕ) (does : Act) → IsStateOf a s
    → KeepsMoments a moment does → MomentFits s moment does
moments_fit a s moment does state keeps = record {
  not_before = let own : s.moment ≡ own_moment a = state.moment in let least : own_moment a ≤ moment =
      time_is_later a moment keeps.keeps_time in omega arith;
  due = limits_to_due a s moment does state keeps.keeps_limits;
}

pub fitting_moments : (a : Account) (s : State) (moment : ℕ) (does : Act) → Legal a → IsStateOf a s
    → MomentFits s moment does → KeepsMoments a moment does
fitting_moments a s moment does legal state fits = record {
  keeps_time = later_keeps_time a moment legal
      (let own : s.moment ≡ own_moment a = state.moment in let least : s.moment ≤ moment =
      fits.not_before in omega arith);
  keeps_limits = due_to_limits a s moment does state fits.due;
}
