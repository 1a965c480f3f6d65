-- What a state finds due is what is due in its account.
use Rattle.rv_account.proofs.OfState.Words.{◌≡◌, ◌⊎◌, ◌∷◌, ◌∙◌, inl, inr, ℕ, List, [], Option, Some, None}
use Rattle.rv_account.proofs.OfState.Words.{option_and_then, refl, sym, ap, subst, slice_get, none-some}
use Rattle.rv_account.proofs.OfState.Words.{same_Some}
use Rattle.rv_account.proofs.OfState.Words.{Call, Key, wait_of, Arrive, Entry, Account, call_in, limit_at}
use Rattle.rv_account.proofs.OfState.Words.{limit_in}
use Rattle.rv_account.proofs.OfState.Words.{limit_of, NothingDue, act_read, OpenPlace, State, due_at}
use Rattle.rv_account.proofs.OfState.Words.{IsStateOf}
use Rattle.rv_account.specs.Calls.{limit_after}
use Rattle.rv_account.specs.rules.Legal.{IsDueAt, SomethingDue}
use Rattle.rv_account.proofs.OfRules.Sides.{until_due}
use Rattle.rv_account.proofs.OfState.DueAt.{IsDuePlace, due_place, place_due}
use Rattle.rv_account.proofs.OfState.PlacesLeft.{among_place, place_among}
use Rattle.rv_account.proofs.OfState.Sessions.{open_found}
use Rattle.rv_account.proofs.OfState.SideLines.{stands_open}

-- what has a limit is no put
limited : (o : Option Entry) (key : Key) (call : Call) (limit : ℕ) → act_read o ≡ Some (Arrive key call)
    → option_and_then limit_in o ≡ Some limit → wait_of call ≡ None → ⊥
limited None key call limit arrived has none = none-some _ arrived
limited (Some e) key call limit arrived has none =
    none-some limit (sym (ap (option_and_then (limit_after e.moment)) none)
    ∙ sym (ap (λ x. option_and_then (limit_of e.moment) (call_in x)) (same_Some _ _ arrived)) ∙ has)

-- ---- each found is due

pub due_of_place : (a : Account) (s : State) (moment place : ℕ) → IsStateOf a s → IsDuePlace s moment place
    → IsDueAt a.entries moment place
due_of_place a s moment place state due =
    let arrival = state.arrivals due.i due.there due.stands in
    let has : limit_at a.entries due.there.place ≡ Some due.limit = sym arrival.limit ∙ due.has in
    subst (IsDueAt a.entries moment) due.at_place
    (until_due a.entries moment due.there.place (stands_open a s state due.i due.there due.stands) (record {
      key = arrival.key;
      call = arrival.call;
      arrived = arrival.arrived;
      no_put = λ put.
          limited (slice_get a.entries due.there.place) arrival.key arrival.call due.limit arrival.arrived has
          put.1;
      limit = due.limit;
      has = has;
      elapsed = due.elapsed;
    }))

pub due_there : (a : Account) (s : State) (moment i : ℕ) (there : OpenPlace) → IsStateOf a s
    → slice_get (due_at s moment) i ≡ Some there → IsDueAt a.entries moment there.place
due_there a s moment i there state at =
    let among = among_place (due_at s moment) i there at in
    due_of_place a s moment there.place state (due_place s moment there.place among)

-- ---- and each that is due is found

pub due_found : (a : Account) (s : State) (moment r : ℕ) → IsStateOf a s → IsDueAt a.entries moment r
    → (i : ℕ) × (there : OpenPlace) × (slice_get (due_at s moment) i ≡ Some there) × (there.place ≡ r)
due_found a s moment r state due =
    let opened = open_found a s r state due.waits.is_open in
    let limit : opened.there.limit ≡ Some due.limit =
    opened.arrival.limit ∙ ap (limit_at a.entries) opened.at_place ∙ due.has in
    let found = place_among (due_at s moment) r (place_due s moment r (record {
      i = opened.i;
      there = opened.there;
      stands = opened.stands;
      at_place = opened.at_place;
      limit = due.limit;
      has = limit;
      elapsed = due.elapsed;
    })) in
    (found.i, found.there, found.stands, found.at_place)

-- ---- whether something is due

pub nothing_due : (a : Account) (s : State) (moment : ℕ) → IsStateOf a s → due_at s moment ≡ []
    → NothingDue a.entries moment
nothing_due a s moment state none r due =
    let found = due_found a s moment r state due in
    none-some found.1 (sym (ap (λ (xs : List OpenPlace). slice_get xs found.0) none) ∙ found.2)

first_or_none : (a : Account) (s : State) (moment : ℕ) → IsStateOf a s → (all : List OpenPlace)
    → due_at s moment ≡ all → SomethingDue a.entries moment ⊎ (all ≡ [])
first_or_none a s moment state [] is = inr refl
first_or_none a s moment state (first ∷ others) is =
    inl (first.place, due_there a s moment 0 first state (ap (λ (xs : List OpenPlace). slice_get xs 0) is))

pub due_or_none : (a : Account) (s : State) (moment : ℕ) → IsStateOf a s
    → SomethingDue a.entries moment ⊎ (due_at s moment ≡ [])
due_or_none a s moment state = first_or_none a s moment state (due_at s moment) refl
