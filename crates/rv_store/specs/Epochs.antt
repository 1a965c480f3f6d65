-- Which epoch a start gets.
use Rattle.std.specs.Prelude.{◌≡◌, ◌<◌, ◌≤◌, ℕ, false, Option, Some}
use Rattle.rv_store.specs.declared.wish.EpochChoice.{EpochChoice}
use Rattle.rv_store.specs.declared.wish.EpochChoice.TheVariants.{Begins, GoesOn}
use Rattle.rv_store.specs.declared.wish.EpochWish.{EpochWish}

-- An epoch that is allowed, where no new one is asked for.
pub record MayGoOn (wish : EpochWish) (epoch : ℕ) : Type 0 where
  pub not_new : wish.is_new ≡ false
  pub least : wish.least ≤ epoch
  pub most : epoch ≤ wish.most

-- the present one, and it may go on
abbrev pub PresentGoesOn : EpochWish → Option ℕ → Type 0
PresentGoesOn wish present = (epoch : ℕ) × (present ≡ Some epoch) × MayGoOn wish epoch

-- An epoch that is allowed and greater than the present one.
pub record MayBeNew (wish : EpochWish) (present : Option ℕ) (epoch : ℕ) : Type 0 where
  pub least : wish.least ≤ epoch
  pub most : epoch ≤ wish.most
  pub greater : (other : ℕ) → present ≡ Some other → other < epoch

-- where one up to the greatest that is allowed may begin, this is the least
pub record IsLeastNew (wish : EpochWish) (present : Option ℕ) (epoch : ℕ) : Type 0 where
  pub begins : epoch ≤ wish.most → MayBeNew wish present epoch
  pub least : (other : ℕ) → MayBeNew wish present other → epoch ≤ other

-- Of those it is the nearest to the clock's milliseconds.
pub record IsNearest (wish : EpochWish) (present : Option ℕ) (now epoch : ℕ) : Type 0 where
  pub may : MayBeNew wish present epoch
  pub below : (other : ℕ) → MayBeNew wish present other → other ≤ now → other ≤ epoch
  pub above : (other : ℕ) → MayBeNew wish present other → now ≤ other → epoch ≤ other

-- the present epoch goes on where it may, and only else a new one begins
abbrev pub IsChoice : EpochWish → Option ℕ → ℕ → EpochChoice → Type 0
IsChoice wish present now (GoesOn epoch) = (present ≡ Some epoch) × MayGoOn wish epoch
IsChoice wish present now (Begins epoch) = (PresentGoesOn wish present → ⊥) × IsNearest wish present now epoch

-- no epoch is left
abbrev pub HasNoChoice : EpochWish → Option ℕ → Type 0
HasNoChoice wish present = (PresentGoesOn wish present → ⊥) × ((epoch : ℕ) → MayBeNew wish present epoch → ⊥)
