-- What a telling leaves: it makes no entry, takes no bytes in, and leaves no more unread.
use Rattle.std.proofs.Common.{inl, inr, ◌≡◌, ◌≤◌, ◌∙◌, ◌++◌, ◌∷◌, ℕ, List, [], None, Option, Some, refl, ap}
use Rattle.std.proofs.Common.{subst, arith, length}
use Rattle.std.specs.Prelude.{flat_map}
use Rattle.std.proofs.lemmas.Bool.{cases_eq}
use Rattle.rv_text.specs.declared.message.Key.{Key}
use Rattle.rv_server_connections.specs.connection.Traffic.{Traffic}
use Rattle.rv_server_connections.specs.Connections.{SetsWire, WiresState}
use Rattle.rv_hub.specs.dispatcher.Going.{unread_of}
use Rattle.rv_hub.specs.dispatcher.View.{DispatcherState, DispatcherTerms}
use Rattle.rv_hub.specs.dispatcher.Effects.{Effect, Does, DoesAll, bytes_by, bytes_in, entries_of_effect}
use Rattle.rv_hub.specs.dispatcher.Effects.{Closed, Told}
use Rattle.rv_hub.specs.dispatcher.Order.{TellsEach, TellsKeys, TellsOneSubscriber}

one_quiet : (connection : ℕ) (effect : Effect) → TellsOneSubscriber connection effect
    → (entries_of_effect effect ≡ []) × (bytes_by effect ≡ [])
one_quiet connection (Told n key said) tells = (refl, refl)
one_quiet connection (Closed n) tells = (refl, refl)
one_quiet connection effect tells = absurd tells

pub each_quiet : (row : List ℕ) (effects : List Effect) → TellsEach row effects
    → (flat_map entries_of_effect effects ≡ []) × (bytes_in effects ≡ [])
each_quiet [] effects none = (ap (λ ds. flat_map entries_of_effect ds) none, ap bytes_in none)
each_quiet (n ∷ row) [] tells = absurd tells
each_quiet (n ∷ row) (effect ∷ effects) (one, each) =
    let first = one_quiet n effect one in
    let others = each_quiet row effects each in (
      ap (λ l. l ++ flat_map entries_of_effect effects) first.0 ∙ others.0,
      ap (λ l. l ++ bytes_in effects) first.1
          ∙ others.1,
    )

pub keys_quiet : (terms : DispatcherTerms) (s t : DispatcherState) (keys : List Key) (effects : List Effect)
    → TellsKeys terms s keys effects t → (flat_map entries_of_effect effects ≡ []) × (bytes_in effects ≡ [])
keys_quiet terms s t keys effects tells = each_quiet tells.row effects tells.each

-- ---- unread bytes

-- where one connection's unread bytes are no more than before
set_unread : (a b : WiresState) (connection : ℕ) (wire : Option Traffic) → SetsWire a connection wire b
    → unread_of wire ≤ unread_of (a.wires connection) → (n : ℕ)
    → unread_of (b.wires n) ≤ unread_of (a.wires n)
set_unread a b connection wire sets less n =
    elim (cases_eq n connection) [
      | inl same ↦
          let now : unread_of (b.wires n) ≡ unread_of wire = ap (λ m. unread_of (b.wires m)) same
          ∙ ap unread_of sets.own in
          let was : unread_of (a.wires n) ≡ unread_of (a.wires connection) = ap (λ m. unread_of (a.wires m))
          same in
          omega arith
      | inr apart ↦ let same = ap unread_of (sets.others n apart) in omega arith
    ]

one_unread : (terms : DispatcherTerms) (s t : DispatcherState) (connection : ℕ) (effect : Effect)
    → TellsOneSubscriber connection effect
    → Does terms s effect t → (n : ℕ) → unread_of (t.open_wires.wires n) ≤ unread_of (s.open_wires.wires n)
one_unread terms s t connection (Told m key said) tells does =
    let was = ap unread_of does.answers.there in
    let now : unread_of (Some does.answers.after) ≡ unread_of (Some does.answers.wire) =
    ap (λ (w : Traffic). length w.unread) does.answers.changes.goes in
    set_unread s.open_wires t.open_wires m (Some does.answers.after) does.answers.sets (omega arith)
one_unread terms s t connection (Closed m) tells does =
    set_unread s.open_wires t.open_wires m None does.sets (omega arith)
one_unread terms s t connection effect tells does = absurd tells

each_unread : (terms : DispatcherTerms) (s t : DispatcherState) (row : List ℕ) (effects : List Effect)
    → TellsEach row effects
    → DoesAll terms s effects t → (n : ℕ)
    → unread_of (t.open_wires.wires n) ≤ unread_of (s.open_wires.wires n)
each_unread terms s t [] effects none does n =
    let same : t ≡ s = subst (λ ds. DoesAll terms s ds t) none does in
    let equal = ap (λ (u : DispatcherState). unread_of (u.open_wires.wires n)) same in
    omega arith
each_unread terms s t (m ∷ row) [] tells does n = absurd tells
each_unread terms s t (m ∷ row) (effect ∷ effects) (one, each) (mid, does, more) n =
    let first = one_unread terms s mid m effect one does n in
    let others = each_unread terms mid t row effects each more n in
    omega arith

pub keys_unread : (terms : DispatcherTerms) (s t : DispatcherState) (keys : List Key) (effects : List Effect)
    → TellsKeys terms s keys effects t → (n : ℕ)
    → unread_of (t.open_wires.wires n) ≤ unread_of (s.open_wires.wires n)
keys_unread terms s t keys effects tells n =
    each_unread terms s t tells.row effects tells.each tells.does n
