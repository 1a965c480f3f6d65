-- Which places an act closes: of those that were open, these are open no more with its entry.
use Rattle.rv_account.proofs.OfState.Words.{◌≡◌, ◌⊎◌, ◌<◌, ◌∷◌, ◌∙◌, inl, inr, ℕ, List, [], length, not}
use Rattle.rv_account.proofs.OfState.Words.{Bool, true}
use Rattle.rv_account.proofs.OfState.Words.{false, cond, Option, Some, None, refl, sym, ap, subst, arith}
use Rattle.rv_account.proofs.OfState.Words.{list_any}
use Rattle.rv_account.proofs.OfState.Words.{slice_get, eq-eqb, eqb-true, false≢true, none-some, same_Some}
use Rattle.rv_account.proofs.OfState.Words.{Entry, Act}
use Rattle.rv_account.proofs.OfState.Words.{Hello, Arrive, Cancel, Tick, Account, Open, call_read}
use Rattle.rv_account.proofs.OfState.Words.{reads_within}
use Rattle.rv_account.proofs.OfState.Words.{OpenPlace, State, client_waits, open_at, but, just_open, met_by}
use Rattle.rv_account.proofs.OfState.Words.{state_after}
use Rattle.std.proofs.Common.{nat_eq}
use Rattle.rv_account.proofs.OfRules.Places.{get-append}
use Rattle.rv_account.specs.state.After.{stays_open, opened_by}
use Rattle.rv_account.proofs.OfState.Coming.{Comes, more}
use Rattle.rv_account.proofs.OfState.Filtered.{chained_there, filter_get, filter_map_get, get_filter}
use Rattle.rv_account.proofs.OfState.Filtered.{get_map, map_get}
use Rattle.rv_account.proofs.OfState.Filtered.{any_get, append_get, find_get, get_any}
use Rattle.rv_account.proofs.OfState.MetPlaces.{met_there}
use Rattle.rv_account.proofs.OfState.GoneBy.{gone_by}
use Rattle.rv_account.proofs.OfState.OpensBy.{opens_by}
use Rattle.rv_account.proofs.OfState.PlacesAfter.{places_acted, places_after}
use Rattle.rv_account.proofs.OfState.SideLines.{open_stands}

-- ---- they were open

found_open : (s : State) (place : ℕ) (there : OpenPlace) → open_at s place ≡ Some there
    → (i : ℕ) × (slice_get s.open_places i ≡ Some there)
found_open s place there is =
    let found = find_get (λ (o : OpenPlace). nat_eq o.place place) s.open_places there is in
    (found.0, found.1)

just_there : (o : Option OpenPlace) (j : ℕ) (there : OpenPlace) → slice_get (just_open o) j ≡ Some there
    → o ≡ Some there
just_there None j there at = absurd (none-some there at)
just_there (Some first) ℕ.zero there at = at
just_there (Some first) (ℕ.suc j) there at = absurd (none-some there at)

waits_open : (s : State) (client j : ℕ) (there : OpenPlace)
    → slice_get (just_open (client_waits s client)) j ≡ Some there
    → (i : ℕ) × (slice_get s.open_places i ≡ Some there)
waits_open s client j there at =
    let by = chained_there (open_at s) _ there (just_there (client_waits s client) j there at) in
    found_open s by.0 there by.2

pub closes_open : (s : State) (moment : ℕ) (does : Act) (j : ℕ) (there : OpenPlace)
    → slice_get (gone_by s moment does) j ≡ Some there → (i : ℕ) × (slice_get s.open_places i ≡ Some there)
closes_open s moment (Hello client incarnation version) j there at = waits_open s client j there at
closes_open s moment (Arrive key call) j there at = met_there s call j there at
closes_open s moment (Cancel key) j there at = waits_open s key.client j there at
closes_open s moment Tick j there at =
    let by = filter_map_get (λ deadline. open_at s deadline.1) _ j there at in
    found_open s by.1.1 there by.3

-- ---- what is open then

opens_last : (s : State) (moment : ℕ) (does : Act) (j : ℕ) (there : OpenPlace)
    → slice_get (opens_by s moment does) j ≡ Some there → there.place ≡ s.length
opens_last s moment (Hello client incarnation version) j there at = absurd (none-some there at)
opens_last s moment (Arrive key call) j there at = by_stay (stays_open call (met_by s call)) j at
  where
    by_stay : (b : Bool) (k : ℕ) → slice_get (cond b (opened_by s moment key call ∷ []) []) k ≡ Some there
        → there.place ≡ s.length
    by_stay false k at = absurd (none-some there at)
    by_stay true ℕ.zero at = ap (λ (o : OpenPlace). o.place) (sym (same_Some _ _ at))
    by_stay true (ℕ.suc k) at = absurd (none-some there at)
opens_last s moment (Cancel key) j there at = absurd (none-some there at)
opens_last s moment Tick j there at = absurd (none-some there at)

-- ---- who was open and is so no more

abbrev stands_at : OpenPlace → OpenPlace → Bool
stands_at o other = nat_eq other.place o.place

abbrev left_by : List OpenPlace → OpenPlace → Bool
left_by gone o = not (list_any (stands_at o) gone)

module _ (a : Account) (s : State) (e : Entry) (comes : Comes a s e) where
  abbrev gone : List OpenPlace
  gone = gone_by s e.moment e.act

  abbrev new : List OpenPlace
  new = opens_by s e.moment e.act

  -- what is left is open
  left_open : (i : ℕ) (there : OpenPlace) → slice_get s.open_places i ≡ Some there
      → list_any (stands_at there) gone ≡ false → Open (more a e) there.place
  left_open i there at is =
      let left = get_filter (left_by gone) s.open_places i there at (ap not is) in
      let stands = ap (λ (l : List OpenPlace). slice_get l left.0) (places_acted s e.moment e.act)
      ∙ get-append (but s.open_places gone) new left.0 there left.1 in
      let after : List OpenPlace = (state_after s e).open_places in
      (places_after a s e comes).are left.0 there.place (get_map (λ o. o.place) after left.0 there stands)

  pub closed_now : (r : ℕ) → Open a.entries r → (Open (more a e) r → ⊥)
      → (j : ℕ) × (there : OpenPlace) × (slice_get gone j ≡ Some there) × (there.place ≡ r)
  closed_now r opened closed =
      let at = open_stands a s comes.state r opened in
      by_test at.0 at.1 at.2 at.3 (list_any (stands_at at.1) gone) refl
    where
      by_test : (i : ℕ) (there : OpenPlace) → slice_get s.open_places i ≡ Some there → there.place ≡ r
          → (b : Bool) → list_any (stands_at there) gone ≡ b
          → (j : ℕ) × (other : OpenPlace) × (slice_get gone j ≡ Some other) × (other.place ≡ r)
      by_test i there at is true any =
          let found = any_get (stands_at there) gone any in
          (found.0, found.1, found.2, eqb-true found.1.place there.place found.3 ∙ is)
      by_test i there at is false none =
          absurd (closed (subst (Open (more a e)) is (left_open i there at none)))

  pub closed_not_open : (j : ℕ) (there : OpenPlace) → slice_get gone j ≡ Some there
      → Open a.entries there.place → Open (more a e) there.place → ⊥
  closed_not_open j there at was opened =
      let place = λ (o : OpenPlace). o.place in
      let line = places_after a s e comes in
      let index = line.each there.place opened in
      let found = map_get place (state_after s e).open_places index.0 there.place index.1 in
      let at_index = λ (l : List OpenPlace). slice_get l index.0 in
      let stands = ap at_index (sym (places_acted s e.moment e.act)) ∙ found.1 in
      by_part found.0 found.2 (append_get (but s.open_places gone) new index.0 found.0 stands)
    where
      by_part : (other : OpenPlace) → other.place ≡ there.place
          → ((i : ℕ) × (slice_get (but s.open_places gone) i ≡ Some other))
          ⊎ ((i : ℕ) × (slice_get new i ≡ Some other)) → ⊥
      by_part other is (inl (i, left)) =
          let passes = (filter_get (left_by gone) s.open_places i other left).2 in
          let any = get_any (stands_at other) gone j there at (eq-eqb there.place other.place (sym is)) in
          false≢true (sym (ap not any) ∙ passes)
      by_part other is (inr (i, own)) =
          let last : other.place ≡ s.length = opens_last s e.moment e.act i other own in
          let length_is : s.length ≡ length a.entries = comes.state.length in
          let inside : there.place < length a.entries =
          reads_within call_read refl a.entries there.place was.call was.arrived in
          omega arith
