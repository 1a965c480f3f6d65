-- While one connection goes on, each other either keeps its bytes or is to go on afterwards.
use Rattle.std.proofs.Common.{inl, inr, ◌≡◌, ◌≢◌, ◌<◌, ◌≤◌, ◌++◌, ◌∷◌, ◌⊎◌, ℕ, List, [], None}
use Rattle.std.proofs.Common.{Option, Some, sym, ap, subst, arith}
use Rattle.std.proofs.Common.{cond, drop, length, nat_eq, true, false}
use Rattle.std.specs.Prelude.{Contains}
use Rattle.std.proofs.lemmas.Bool.{cases_eq}
use Rattle.std.proofs.lemmas.Bool.Decides.{nat_tests}
use Rattle.std.proofs.lemmas.List.{length-drop}
use Rattle.std.proofs.lemmas.List.Elements.{Contains-append_cases, Contains-append_left}
use Rattle.std.proofs.lemmas.List.Elements.{Contains-append_right, Contains-push_cases}
use Rattle.std.proofs.lemmas.Option.{none-some}
use Rattle.rv_server_connections.specs.connection.Traffic.{IsBad, IsDue, IsFinished, IsWholeFrame, Traffic}
use Rattle.rv_hub.specs.dispatcher.View.{DispatcherState, DispatcherTerms}
use Rattle.rv_hub.specs.dispatcher.Effects.{Effect, told_in_effects}
use Rattle.rv_hub.specs.dispatcher.Order.{IsTurn}
use Rattle.rv_hub.specs.dispatcher.Rest.{HasComeToStop, TakesNoMore}
use Rattle.rv_hub.specs.dispatcher.Runs.{StaysOrTold}
use Rattle.rv_hub.proofs.OfDispatcher.Others.{others_stay}
use Rattle.rv_hub.specs.Turns.{Offered, offered_to}
use Rattle.rv_hub.specs.Steps.{IsGoing, IsOffering, less_by}

-- ---- what is asked of a connection's bytes holds where it is closed

abbrev pub Stops : Option Traffic → Type 0
Stops o = (wire : Traffic) → o ≡ Some wire → (¬ IsDue wire) × (¬ IsFinished wire)

abbrev pub TakesNone : Option Traffic → Type 0
TakesNone o = (wire : Traffic) → o ≡ Some wire → IsWholeFrame wire.unread ⊎ IsBad wire.unread

pub stops_closed : Stops None
stops_closed wire there = absurd (none-some wire there)

pub none_closed : TakesNone None
none_closed wire there = absurd (none-some wire there)

pub kept_or : (P : Option Traffic → Type 0) → P None → (s t : DispatcherState) (told row : List ℕ) (n : ℕ)
    → StaysOrTold s told n t → P (s.open_wires.wires n) ⊎ Contains row n
    → P (t.open_wires.wires n) ⊎ Contains (row ++ told) n
kept_or P none s t told row n kept (inr there) = inr (Contains-append_left row told n there)
kept_or P none s t told row n (inl same) (inl holds) = inl (subst P (sym same) holds)
kept_or P none s t told row n (inr (inl gone)) (inl holds) = inl (subst P (sym gone) none)
kept_or P none s t told row n (inr (inr one)) (inl holds) = inr (Contains-append_right row told n one)

-- ---- rows

pub only_one : (c n : ℕ) → Contains (c ∷ []) n → c ≡ n
only_one c n there =
    elim (Contains-push_cases [] c n there) [
      | inl none ↦ absurd (let l = none.1 in omega arith)
      | inr same ↦ same
    ]

pub none_in : (n : ℕ) → Contains [] n → ⊥
none_in n there = let l = there.1 in omega arith

pub row_tail : (c : ℕ) (row : List ℕ) (n : ℕ) → n ≢ c → Contains (c ∷ row) n → Contains row n
row_tail c row n apart there =
    elim (Contains-append_cases (c ∷ []) row n there) [
      | inl one ↦ absurd (apart (sym (only_one c n one)))
      | inr rest ↦ rest
    ]

pub there_one : (c n : ℕ) → c ≡ n → Contains (c ∷ []) n
there_one c n same = (0, omega arith, same)

-- ---- what is offered

pub offered_own : (offer : Offered) (connection : ℕ) → offer.connection ≡ connection
    → offered_to offer connection ≡ offer.piece
offered_own offer connection same =
    let test : nat_eq offer.connection connection ≡ true = grind (arith, nat_tests) in
    ap (λ b. cond b offer.piece []) test

pub offered_other : (offer : Offered) (connection : ℕ) → offer.connection ≢ connection
    → offered_to offer connection ≡ []
offered_other offer connection apart =
    let test : nat_eq offer.connection connection ≡ false = grind (arith, nat_tests) in
    ap (λ b. cond b offer.piece []) test

pub offered_within : (offer : Offered) (connection : ℕ)
    → length (offered_to offer connection) ≤ length offer.piece
offered_within offer connection =
    elim (cases_eq offer.connection connection) [
      | inl same ↦ (let e = ap length (offered_own offer connection same) in omega arith)
      | inr apart ↦ (let e = ap length (offered_other offer connection apart) in omega arith)
    ]

-- ---- a turn

going_tail : (s : DispatcherState) (connection : ℕ) (row : List ℕ) (n : ℕ) → n ≢ connection
    → HasComeToStop s n ⊎ Contains (connection ∷ row) n → HasComeToStop s n ⊎ Contains row n
going_tail s connection row n apart (inl stopped) = inl stopped
going_tail s connection row n apart (inr there) = inr (row_tail connection row n apart there)

offering_tail : (s : DispatcherState) (connection : ℕ) (row : List ℕ) (n : ℕ) → n ≢ connection
    → TakesNoMore s n ⊎ Contains (connection ∷ row) n → TakesNoMore s n ⊎ Contains row n
offering_tail s connection row n apart (inl takes) = inl takes
offering_tail s connection row n apart (inr there) = inr (row_tail connection row n apart there)

pub turn_going : (terms : DispatcherTerms) (s t : DispatcherState) (connection : ℕ) (piece : List ℕ)
    (effects : List Effect)
    (count : ℕ) (row : List ℕ) → IsTurn terms s connection piece effects count t → HasComeToStop t connection
    → IsGoing s (connection ∷ row) → IsGoing t (row ++ told_in_effects effects)
turn_going terms s t connection piece effects count row turn stopped going n =
    elim (cases_eq n connection) [
      | inl same ↦ inl (subst (λ (m : ℕ). HasComeToStop t m) (sym same) stopped)
      | inr apart ↦ kept_or Stops stops_closed s t (told_in_effects effects) row n
          (others_stay terms s t connection piece effects count turn n apart) (going_tail s connection row n
          apart (going n))
    ]

offering_own : (t : DispatcherState) (offer : Offered) (connection count : ℕ) → offer.connection ≡ connection
    → (count < length (offered_to offer connection) → TakesNoMore t connection)
    → 0 < length (drop count offer.piece) → TakesNoMore t offer.connection
offering_own t offer connection count same stops left =
    let whole = ap length (offered_own offer connection same) in
    let long = length-drop count offer.piece in
    subst (λ (m : ℕ). TakesNoMore t m) (sym same) (stops (omega arith))

pub turn_offering : (terms : DispatcherTerms) (s t : DispatcherState) (connection : ℕ) (offer : Offered)
    (effects :
    List Effect)
    (count : ℕ) (row : List ℕ) → IsTurn terms s connection (offered_to offer connection) effects count t
    → (count < length (offered_to offer connection) → TakesNoMore t connection)
    → IsOffering s (connection ∷ row) offer
    → IsOffering t (row ++ told_in_effects effects) (less_by offer count)
turn_offering terms s t connection offer effects count row turn stops offering left =
    elim (cases_eq offer.connection connection) [
      | inl same ↦ inl (offering_own t offer connection count same stops left)
      | inr apart ↦
          (let none = ap length (offered_other offer connection apart) in
          let within = turn.within in
          let long = length-drop count offer.piece in
          let some : 0 < length offer.piece = omega arith in
          kept_or TakesNone none_closed s t (told_in_effects effects) row offer.connection
          (others_stay terms s t connection (offered_to offer connection) effects count turn offer.connection
          apart)
          (offering_tail s connection row offer.connection apart (offering some)))
    ]
