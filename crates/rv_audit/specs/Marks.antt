-- Sets of places, each under a number: which are marked, and what one more or one less changes.
use Rattle.std.specs.Prelude.{◌≡◌, ◌⊎◌, ◌≢◌, ◌≤◌, ◌<◌, ℕ, Bool, true, false, List, Option, None, Some}
use Rattle.std.specs.Ordering.{ordering_then, nat_cmp}
use Rattle.std.specs.declared.ops.Bound.{Bound}
use Rattle.std.specs.declared.ops.Bound.TheVariants.{Excluded, Included}
use Rattle.std.specs.BTreeSet.{contains}
use Rattle.rv_account.specs.Account.{Among}
use Rattle.rv_audit.specs.declared.marks.Marks.{Marks}

-- whether the place is marked under the number
abbrev pub is_marked_under : Marks → ℕ → ℕ → Bool
is_marked_under m number place =
    contains (λ (x y : ℕ × ℕ). ordering_then (nat_cmp x.0 y.0) (nat_cmp x.1 y.1)) m.marks (number, place)

-- one more is marked
pub record Gains (old new : Marks) (number place : ℕ) : Type 0 where
  pub own : is_marked_under new number place ≡ true
  pub others : (n p : ℕ) → (n ≢ number) ⊎ (p ≢ place) → is_marked_under new n p ≡ is_marked_under old n p

-- what is marked stays
abbrev pub SameMarks : Marks → Marks → Type 0
SameMarks old new = (number place : ℕ) → is_marked_under new number place ≡ is_marked_under old number place

-- one is no longer marked
pub record Loses (old new : Marks) (number place : ℕ) : Type 0 where
  pub own : is_marked_under new number place ≡ false
  pub others : (n p : ℕ) → (n ≢ number) ⊎ (p ≢ place) → is_marked_under new n p ≡ is_marked_under old n p

-- the place comes after another, if one is given
abbrev pub IsBehind : Option ℕ → ℕ → Type 0
IsBehind None place = Unit {0}
IsBehind (Some last) place = last < place

-- where the pairs of the number that come after the place begin, in their order
abbrev pub bound_behind : ℕ → Option ℕ → Bound (ℕ × ℕ)
bound_behind number None = Included (number, 0)
bound_behind number (Some last) = Excluded (number, last)

-- the place is the lowest after the last that is marked under the number; none after it is marked
pub record IsFirstBehind (m : Marks) (number : ℕ) (last : Option ℕ) (place : ℕ) : Type 0 where
  pub there : is_marked_under m number place ≡ true
  pub behind : IsBehind last place
  pub lowest : (p : ℕ) → IsBehind last p → p < place → is_marked_under m number p ≡ false

abbrev pub NoneBehind : Marks → ℕ → Option ℕ → Type 0
NoneBehind m number last = (p : ℕ) → IsBehind last p → is_marked_under m number p ≡ false

-- the same for those that aren't among these places
pub record IsLowestBeside (m : Marks) (number : ℕ) (places : List ℕ) (place : ℕ) : Type 0 where
  pub there : is_marked_under m number place ≡ true
  pub beside : ¬ Among places place
  pub lowest : (p : ℕ) → p < place → is_marked_under m number p ≡ true → Among places p

abbrev pub NoneBeside : Marks → ℕ → List ℕ → Type 0
NoneBeside m number places = (p : ℕ) → is_marked_under m number p ≡ true → Among places p

-- up to a place, all that are marked under the number are among these places
abbrev pub AreNamedTo : Marks → ℕ → List ℕ → Option ℕ → Type 0
AreNamedTo m number places last = (p : ℕ) → is_marked_under m number p ≡ true
    → Among places p ⊎ IsBehind last p

-- the place is marked under a number that is at or below the limit; none is
abbrev pub IsUntil : Marks → ℕ → ℕ → Type 0
IsUntil m limit place = (n : ℕ) × (is_marked_under m n place ≡ true) × (n ≤ limit)

abbrev pub NoneUntil : Marks → ℕ → Type 0
NoneUntil m limit = (n p : ℕ) → n ≤ limit → is_marked_under m n p ≡ false

-- the same for a number, if one is given
abbrev pub GainsIf : Marks → Marks → Option ℕ → ℕ → Type 0
GainsIf old new None place = new ≡ old
GainsIf old new (Some limit) place = Gains old new limit place

abbrev pub LosesIf : Marks → Marks → Option ℕ → ℕ → Type 0
LosesIf old new None place = new ≡ old
LosesIf old new (Some limit) place = Loses old new limit place
