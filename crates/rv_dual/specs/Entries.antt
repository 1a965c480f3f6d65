-- Where in a list an element passes a test.
use Rattle.std.specs.Prelude.{◌≡◌, ℕ, Bool, true, false, List, Some, slice_get}

-- the element at i passes the test
pub record PassesAt {X : Type 0} (test : X → Bool) (xs : List X) (i : ℕ) : Type 0 where
  pub element : X
  pub there : slice_get xs i ≡ Some element
  pub passes : test element ≡ true

-- no element passes the test
abbrev pub PassesNowhere : {X : Type 0} → (X → Bool) → List X → Type 0
PassesNowhere {X} test xs = (i : ℕ) (x : X) → slice_get xs i ≡ Some x → test x ≡ false
