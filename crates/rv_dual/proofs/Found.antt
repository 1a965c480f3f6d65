-- Places that are told apart, and what stands in a list.
use Rattle.std.proofs.Common.{◌≡◌, ℕ, ◌==◌, false, List, Some, arith}
use Rattle.std.specs.Prelude.{Contains, slice_get}
use Rattle.std.proofs.lemmas.Bool.Decides.{nat_tests}
use Rattle.std.proofs.lemmas.Option.{get_or_from_slice_get, slice_get_within}

pub other_place : (a b : ℕ) → (a == b) ≡ false → a ≡ b → ⊥
other_place a b e same = grind (arith, nat_tests)

pub contains_at : {X : Type 0} (xs : List X) (i : ℕ) (x : X) → slice_get xs i ≡ Some x → Contains xs x
contains_at xs i x there = (i, slice_get_within xs i x there, get_or_from_slice_get xs i x x there)
