-- How the moments of what is open stand after an entry.
use Rattle.std.proofs.Common.{◌≡◌, ◌≢◌, ◌<◌, ◌≤◌, ◌∙◌, [], ℕ, List, Some, inl, inr, refl, sym, ap}
use Rattle.std.proofs.Common.{slice_get}
use Rattle.std.proofs.lemmas.Bool.{cases_lt}
use Rattle.rv_account.specs.state.After.{due_at}
use Rattle.rv_account.specs.state.State.{OpenPlace, State}
use Rattle.rv_account.proofs.OfState.Words.{none-some}
use Rattle.rv_account.proofs.OfState.DueAt.{place_due}
use Rattle.rv_account.proofs.OfState.PlacesLeft.{place_among}
use Rattle.rv_account.specs.state.resume.Resuming.{IsOpenIn}

-- one of those that are due at the moment has the place
pub record IsDueThere (s : State) (moment place : ℕ) : Type 0 where
  pub i : ℕ
  pub due : OpenPlace
  pub stands : slice_get (due_at s moment) i ≡ Some due
  pub at_place : due.place ≡ place

pub due_there : (s : State) (moment : ℕ) (there : OpenPlace) (limit : ℕ) → IsOpenIn s there
    → there.limit ≡ Some limit → limit ≤ moment → IsDueThere s moment there.place
due_there s moment there limit at has elapsed =
    let found = place_among (due_at s moment) there.place (place_due s moment there.place (record {
      i = at.0;
      there = there;
      stands = at.1;
      at_place = refl;
      limit = limit;
      has = has;
      elapsed = elapsed;
    })) in
    record { i = found.i; due = found.there; stands = found.stands; at_place = found.at_place }

-- what isn't among those has a limit after the moment
pub undue_past : (s : State) (moment : ℕ) (there : OpenPlace) (limit : ℕ) → IsOpenIn s there
    → there.limit ≡ Some limit
    → ((i : ℕ) (o : OpenPlace) → slice_get (due_at s moment) i ≡ Some o → o.place ≢ there.place)
    → moment < limit
undue_past s moment there limit at has apart = elim (cases_lt moment limit) [
  | inl less ↦ less
  | inr not_less ↦
      let due = due_there s moment there limit at has not_less in
      absurd (apart due.i due.due due.stands due.at_place)
]

none_at : (due : List OpenPlace) (place : ℕ) → due ≡ [] → (i : ℕ) (o : OpenPlace)
    → slice_get due i ≡ Some o → o.place ≢ place
none_at due place none i o at = absurd (none-some o (sym (ap (λ (l : List OpenPlace). slice_get l i) none)
    ∙ at))

-- where nothing is due
pub none_due_at : (s : State) (moment place : ℕ) → due_at s moment ≡ [] → (i : ℕ) (o : OpenPlace)
    → slice_get (due_at s moment) i ≡ Some o → o.place ≢ place
none_due_at s moment place none = none_at (due_at s moment) place none
