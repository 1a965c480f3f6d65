-- What is open on each side, as a table keeps it: which places are there, and what changes when one comes or
-- goes.
use Rattle.std.specs.Prelude.{◌≡◌, ◌⊎◌, ◌≢◌, ◌<◌, ℕ, Bool, true, false, List}
use Rattle.rv_text.specs.declared.call.Side.{Side}
use Rattle.rv_text.specs.declared.call.Side.TheVariants.{Gives, Takes, Looks, Exchanges}
use Rattle.rv_account.specs.Account.{Among}
use Rattle.rv_audit.specs.Marks.{is_marked_under}
use Rattle.rv_audit.specs.declared.lines.OpenLines.{OpenLines}

-- whether the place stands on the side
abbrev pub stands_in : OpenLines → Side → ℕ → Bool
stands_in lines (Gives queue) place = is_marked_under lines.givers queue place
stands_in lines (Takes queue) place = is_marked_under lines.takers queue place
stands_in lines (Looks queue) place = false
stands_in lines (Exchanges exchanger) place = is_marked_under lines.exchangers exchanger place

-- the side is one on which arrivals may be open
abbrev pub IsOpenable : Side → Type 0
IsOpenable (Gives queue) = Unit {0}
IsOpenable (Takes queue) = Unit {0}
IsOpenable (Looks queue) = ⊥
IsOpenable (Exchanges exchanger) = Unit {0}

-- one more place is on the side
pub record Opens (old new : OpenLines) (side : Side) (place : ℕ) : Type 0 where
  pub own : IsOpenable side → stands_in new side place ≡ true
  pub others : (s : Side) (p : ℕ) → (s ≢ side) ⊎ (p ≢ place) → stands_in new s p ≡ stands_in old s p

-- one place no longer is
pub record Closes (old new : OpenLines) (side : Side) (place : ℕ) : Type 0 where
  pub own : stands_in new side place ≡ false
  pub others : (s : Side) (p : ℕ) → (s ≢ side) ⊎ (p ≢ place) → stands_in new s p ≡ stands_in old s p

-- the place is the first on the side that isn't among these; all that are on the side are among these
pub record IsFirstBeside (lines : OpenLines) (side : Side) (places : List ℕ) (place : ℕ) : Type 0 where
  pub there : stands_in lines side place ≡ true
  pub beside : ¬ Among places place
  pub lowest : (p : ℕ) → p < place → stands_in lines side p ≡ true → Among places p

abbrev pub NobodyBeside : OpenLines → Side → List ℕ → Type 0
NobodyBeside lines side places = (p : ℕ) → stands_in lines side p ≡ true → Among places p
