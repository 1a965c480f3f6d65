-- The next moment at which time has to go on, and who has waited as long as it may.
use Rattle.std.proofs.Common.{inl, inr, ◌≡◌, ◌<◌, ◌≤◌, ◌⊎◌, [], ℕ, Bool, true, false, Some, IfSome, sym}
use Rattle.std.proofs.Common.{subst, arith, nat_le}
use Rattle.std.proofs.lemmas.Bool.Decides.{nat_tests}
use Rattle.std.specs.Bool.{then_some}
use Rattle.std.specs.Prelude.{min}
use Rattle.std.proofs.lemmas.Bool.{cases_lt}
use Rattle.rv_account.specs.state.After.{due_at}
use Rattle.rv_machine.specs.Redoing.{IsNextLimit}
use Rattle.rv_server_connections.specs.declared.subscribers.tables.Subscription.{Subscription}
use Rattle.rv_server_connections.specs.subscribers.Subscription.{IsNextUntil, WhoHears}
use Rattle.rv_hub.specs.dispatcher.View.{DispatcherState}
use Rattle.rv_hub.specs.dispatcher.Rest.{IsNextMoment}
use Rattle.rv_hub.specs.dispatcher.Going.{IsNextOverdue}

at_least : (who : WhoHears) (until connection : ℕ) → IsNextUntil who until connection → (other : ℕ)
    → (its : Subscription) → who other ≡ Some its → until ≤ its.until
at_least who until connection next other its there = elim (next.first other its there) [
  | inl less ↦ let l = less in omega (arith, l)
  | inr same ↦ let e = same.0 in omega (arith, e)
]

pub next_by_until : (s : DispatcherState) (until connection : ℕ) → IsNextUntil s.hears until connection
    → ((earlier : ℕ) → earlier < until → due_at s.book earlier ≡ []) → IsNextMoment s until
next_by_until s until connection next none = record {
  not_sooner = none;
  nobody_sooner = at_least s.hears until connection next;
  needed = inr (connection, next.subscription, next.there, next.same);
}

pub next_by_limit : (s : DispatcherState) (limit until connection : ℕ) → IsNextLimit s.book limit
    → IsNextUntil s.hears until connection → limit ≤ until → IsNextMoment s limit
next_by_limit s limit until connection least next sooner = record {
  not_sooner = least.none_before;
  nobody_sooner = λ other its there.
      let late = at_least s.hears until connection next other its there in omega (arith, late, sooner);
  needed = inl least.due;
}

pub next_of_both : (s : DispatcherState) (limit until connection moment : ℕ) → IsNextLimit s.book limit
    → IsNextUntil s.hears until connection → moment ≡ min limit until → IsNextMoment s moment
next_of_both s limit until connection moment least next is = elim (cases_lt until limit) [
  | inl less ↦
      let l = less in
      let same : until ≡ moment = omega (arith, l, is) in
      subst (IsNextMoment s) same (next_by_until s until connection next (λ earlier e.
      least.none_before earlier (let f = e in omega (arith, f, l))))
  | inr least_first ↦
      let l = least_first in
      let same : limit ≡ moment = omega (arith, l, is) in
      subst (IsNextMoment s) same (next_by_limit s limit until connection least next l)
]

pub next_overdue : (s : DispatcherState) (until connection : ℕ) → IsNextUntil s.hears until connection
    → until ≤ s.now → IsNextOverdue s connection
next_overdue s until connection next late = record {
  subscription = next.subscription;
  there = next.there;
  overdue = subst (λ n. n ≤ s.now) (sym next.same) late;
  first = λ other its there.
      subst (λ n. (n < its.until) ⊎ ((n ≡ its.until) × (connection ≤ other))) (sym next.same)
      (next.first other its there);
}

pub late_found : (s : DispatcherState) (until connection : ℕ) (late : Bool)
    → IsNextUntil s.hears until connection
    → nat_le until s.now ≡ late → IfSome (then_some late connection) (IsNextOverdue s)
late_found s until connection true next is =
    next_overdue s until connection next (grind (arith, nat_tests))
late_found s until connection false next is = tt
