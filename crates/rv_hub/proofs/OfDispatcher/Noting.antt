-- One connection changed: it is listed with those that did, and the sum of unread bytes moves as its own.
use Rattle.std.proofs.Common.{inl, inr, ◌≡◌, ◌≤◌, ◌+◌, ◌∙◌, ℕ, List, None, Option, Some, length, refl, sym}
use Rattle.std.proofs.Common.{ap, subst, arith}
use Rattle.std.specs.Prelude.{IsSome}
use Rattle.rv_server_connections.specs.connection.Traffic.{Traffic}
use Rattle.rv_server_connections.specs.Connections.{AllHeldBack, ListsOne, Notes, Tally, WiresState}
use Rattle.rv_server_connections.specs.Wires.{tally_in, wires_in}
use Rattle.rv_server_connections.specs.declared.wires.Wires.{Wires}
use Rattle.rv_server_connections.proofs.Tallying.{all_held_back}
use Rattle.rv_hub.specs.dispatcher.Going.{NotesOne, unread_of, unread_total}

pub is_some_of : {X : Type 0} → (o : Option X) (x : X) → o ≡ Some x → IsSome o
is_some_of o x is = subst (λ q. IsSome q) (sym is) refl

-- one that was open still is, after a call that changed nothing
pub still_open : (a b : WiresState) (connection : ℕ) (wire : Traffic) → b ≡ a → a.wires connection ≡ Some wire
    → IsSome (b.wires connection)
still_open a b connection wire same there =
    is_some_of (b.wires connection) wire (ap (λ (w : WiresState). w.wires connection) same ∙ there)

pub still_some : (a b : WiresState) (connection : ℕ) → b ≡ a → IsSome (a.wires connection)
    → IsSome (b.wires connection)
still_some a b connection same some = subst (λ (w : WiresState). IsSome (w.wires connection)) (sym same) some

-- no more may leave of any than may
pub held_back_in : (all : Wires) → AllHeldBack (wires_in all)
held_back_in all = all_held_back all.noted all.sound

-- twice the same one
pub lists_again : (a b c : List ℕ) (connection : ℕ) → ListsOne a connection b → ListsOne b connection c
    → ListsOne a connection c
lists_again a b c connection first second n = (
  λ now. elim ((second n).0 now) [
    | inl before ↦ (first n).0 before
    | inr same ↦ inr same
  ],
  λ was. elim was [
    | inl before ↦ (second n).1 (inl ((first n).1 (inl before)))
    | inr same ↦ (second n).1 (inr same)
  ],
)

-- after a call that changed nothing
pub notes_behind : (a b c : Wires) (connection : ℕ) → wires_in b ≡ wires_in a → tally_in b ≡ tally_in a
    → NotesOne b connection c → NotesOne a connection c
notes_behind a b c connection wires tally noted =
    subst (λ (w : WiresState). Notes w (tally_in a) connection (wires_in c) (tally_in c)) wires
    (subst (λ (t : Tally). Notes (wires_in b) t connection (wires_in c) (tally_in c)) tally noted)

pub same_unread : (old new : Wires) (connection : ℕ) (wire after : Traffic) → NotesOne old connection new
    → (wires_in old).wires connection ≡ Some wire → (wires_in new).wires connection ≡ Some after
    → length after.unread ≡ length wire.unread → unread_total new ≡ unread_total old
same_unread old new connection wire after noted was now same =
    let count : unread_total new + unread_of ((wires_in old).wires connection)
    ≡ unread_total old + unread_of ((wires_in new).wires connection) = noted.unread in
    let before = ap unread_of was in
    let behind = ap unread_of now in
    omega arith

pub closed_unread : (old new : Wires) (connection : ℕ) → NotesOne old connection new
    → (wires_in new).wires connection ≡ None → unread_total new ≤ unread_total old
closed_unread old new connection noted gone =
    let count : unread_total new + unread_of ((wires_in old).wires connection)
    ≡ unread_total old + unread_of ((wires_in new).wires connection) = noted.unread in
    let none = ap unread_of gone in
    omega arith
