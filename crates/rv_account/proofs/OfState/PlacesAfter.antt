-- The open places after an entry are those that are open then, in their order.
use Rattle.rv_account.proofs.OfState.Words.{◌⊎◌, ◌<◌, ◌∷◌, ◌++◌, ◌∙◌, ◌↔◌, inl, inr, List, [], Option, None}
use Rattle.rv_account.proofs.OfState.Words.{length}
use Rattle.rv_account.proofs.OfState.Words.{refl, sym, ap, subst, Key, Entry, Act, Hello, Arrive, Cancel}
use Rattle.rv_account.proofs.OfState.Words.{Tick, Account}
use Rattle.rv_account.proofs.OfState.Words.{Among, IsLineOf, Open, call_read, reads_back, reads_within}
use Rattle.rv_account.proofs.OfState.Words.{ClientState}
use Rattle.rv_account.proofs.OfState.Words.{LastRequest, OpenPlace, State, client_at, client_waits}
use Rattle.rv_account.proofs.OfState.Words.{place_list}
use Rattle.rv_account.proofs.OfState.Words.{CancelledUnseen, acted, but, cancelled, just_open, state_after}
use Rattle.rv_account.proofs.OfState.Words.{with_last}
use Rattle.rv_account.proofs.OfState.Words.{IsArrival}
use Rattle.std.specs.Prelude.{◌≡◌, ℕ, Some, slice_get}
use Rattle.std.proofs.lemmas.List.{append-nil}
use Rattle.rv_account.proofs.OfRules.Growing.{Open-back, Open-on}
use Rattle.rv_account.proofs.OfRules.Places.{get-append_cases}
use Rattle.rv_account.proofs.OfRules.Sides.{names_last}
use Rattle.rv_account.specs.state.After.{asked}
use Rattle.rv_account.proofs.OfState.Coming.{Comes, more}
use Rattle.rv_account.proofs.OfState.GoneBy.{closes, gone_by}
use Rattle.rv_account.proofs.OfState.OpensBy.{EndsWith, OpensLast, arrival_on, ends_with, opens_by}
use Rattle.rv_account.proofs.OfState.PlacesLeft.{but_get, but_none, line_but, line_like, line_push}

-- ---- what a state has open after an act

last_places : (s : State) (key : Key) (request : LastRequest) (o : Option ClientState)
    → (with_last s key request o).open_places ≡ s.open_places
last_places s key request None = refl
last_places s key request (Some session) = refl

asked_places : (s : State) (key : Key) (request : LastRequest)
    → (asked s key request).open_places ≡ s.open_places
asked_places s key request = last_places s key request (client_at s key.client)

cancelled_places : (s : State) (key : Key) (o : Option OpenPlace)
    → (cancelled s key o).after.open_places ≡ but s.open_places (just_open o)
cancelled_places s key None = asked_places s key CancelledUnseen ∙ sym (but_none s.open_places)
cancelled_places s key (Some there) = refl

-- those that it closes are gone, and those that it opens stand at the end
pub places_acted : (s : State) (moment : ℕ) (does : Act)
    → (acted s moment does).after.open_places
    ≡ but s.open_places (gone_by s moment does) ++ opens_by s moment does
places_acted s moment (Hello client incarnation version) = sym (append-nil _)
places_acted s moment (Arrive key call) = asked_places _ key _
places_acted s moment (Cancel key) = cancelled_places s key (client_waits s key.client) ∙ sym (append-nil _)
places_acted s moment Tick = sym (append-nil _)

-- ---- what an account has open after an entry

module _ (a : Account) (s : State) (e : Entry) (comes : Comes a s e) where
  abbrev gone : List OpenPlace
  gone = gone_by s e.moment e.act

  -- it was open, and the entry doesn't close it
  abbrev pub StaysOpen : ℕ → Type 0
  StaysOpen r = Open a.entries r × (Among (place_list gone) r → ⊥)

  -- and then it is open, as may be the entry's own place, and nothing else
  pub open_on : (r : ℕ) → StaysOpen r → Open (more a e) r
  open_on r stays =
      Open-on a.entries e r stays.0
      (λ names. stays.1 ((closes a s e comes r stays.0).1 (inl names)))
      (λ stops. stays.1 ((closes a s e comes r stays.0).1 (inr stops)))

  pub open_back : (r : ℕ) → Open (more a e) r → StaysOpen r ⊎ (r ≡ length a.entries)
  open_back r opened = elim (reads_back call_read refl a.entries e r opened.call opened.arrived) [
    | inr last ↦ inr last.0
    | inl inside ↦
        let was = Open-back a.entries (e ∷ []) r opened inside.1 in
        inl (
          was,
          λ among. elim ((closes a s e comes r was).0 among) [
            | inl names ↦ opened.unmet
                (names_last a.entries e r comes.follows.pairs.names_free_partners names)
            | inr stops ↦ opened.unstopped (length a.entries, stops)
          ],
        )
  ]

  line_left : IsLineOf StaysOpen (place_list (but s.open_places gone))
  line_left = line_but (Open a.entries) s.open_places gone comes.state.in_order

  same_left : (Open (more a e) (length a.entries) → ⊥) → (r : ℕ) → StaysOpen r ↔ Open (more a e) r
  same_left none r = (
    open_on r,
    λ opened. elim (open_back r opened) [
      | inl stayed ↦ stayed
      | inr last ↦ absurd (none (subst (Open (more a e)) last opened))
    ],
  )

  same_pushed : (there : OpenPlace) → OpensLast a e there → (r : ℕ)
      → (StaysOpen r ⊎ (r ≡ there.place)) ↔ Open (more a e) r
  same_pushed there last r = (
    (λ either. elim either [
      | inl stays ↦ open_on r stays
      | inr own ↦ subst (Open (more a e)) (sym (own ∙ last.at_place)) last.is_open
    ]),
    (λ opened. elim (open_back r opened) [
      | inl stayed ↦ inl stayed
      | inr own ↦ inr (own ∙ sym last.at_place)
    ]),
  )

  below_last : (there : OpenPlace) → OpensLast a e there → (r : ℕ) → StaysOpen r → r < there.place
  below_last there last r stays =
      subst (λ n. r < n) (sym last.at_place)
      (reads_within call_read refl a.entries r stays.0.call stays.0.arrived)

  line_by : (opens : List OpenPlace) → EndsWith a e opens
      → IsLineOf (Open (more a e)) (place_list (but s.open_places gone ++ opens))
  line_by opens (inl none) =
      subst (λ all. IsLineOf (Open (more a e)) (place_list all))
      (sym (append-nil (but s.open_places gone)) ∙ ap (λ l. but s.open_places gone ++ l) (sym none.0))
      (line_like StaysOpen (Open (more a e)) (place_list (but s.open_places gone)) (same_left none.1)
      line_left)
  line_by opens (inr (there, is, last)) =
      let pushed = line_push StaysOpen (but s.open_places gone) there line_left (below_last there last) in
      subst (λ l. IsLineOf (Open (more a e)) (place_list (but s.open_places gone ++ l))) (sym is)
      (line_like (λ r. StaysOpen r ⊎ (r ≡ there.place)) (Open (more a e))
      (place_list (but s.open_places gone ++ there ∷ [])) (same_pushed there last) pushed)

  left_arrival : (i : ℕ) (there : OpenPlace) → slice_get (but s.open_places gone) i ≡ Some there
      → IsArrival (more a e) there
  left_arrival i there at =
      let was = but_get s.open_places gone i there at in
      arrival_on a.entries e there (comes.state.arrivals was.0 there was.1)

  arrivals_by : (opens : List OpenPlace) → EndsWith a e opens → (i : ℕ) (there : OpenPlace)
      → slice_get (but s.open_places gone ++ opens) i ≡ Some there → IsArrival (more a e) there
  arrivals_by opens (inl none) i there at =
      left_arrival i there
      (sym (ap (λ l. slice_get l i)
      (ap (λ l. but s.open_places gone ++ l) none.0 ∙ append-nil (but s.open_places gone))) ∙ at)
  arrivals_by opens (inr (own, is, last)) i there at =
      let pushed = sym (ap (λ l. slice_get (but s.open_places gone ++ l) i) is) ∙ at in
      elim (get-append_cases (but s.open_places gone) own there i pushed) [
        | inl inside ↦ left_arrival i there inside.1
        | inr end ↦ subst (IsArrival (more a e)) end.1 last.arrival
      ]

-- ---- the law

pub places_after : (a : Account) (s : State) (e : Entry) → Comes a s e
    → IsLineOf (Open (more a e)) (place_list (state_after s e).open_places)
places_after a s e comes =
    subst (λ all. IsLineOf (Open (more a e)) (place_list all)) (sym (places_acted s e.moment e.act))
    (line_by a s e comes (opens_by s e.moment e.act) (ends_with a s e comes))

pub arrivals_after : (a : Account) (s : State) (e : Entry) → Comes a s e → (i : ℕ) (there : OpenPlace)
    → slice_get (state_after s e).open_places i ≡ Some there → IsArrival (more a e) there
arrivals_after a s e comes i there at =
    arrivals_by a s e comes (opens_by s e.moment e.act) (ends_with a s e comes) i there
    (sym (ap (λ all. slice_get all i) (places_acted s e.moment e.act)) ∙ at)
