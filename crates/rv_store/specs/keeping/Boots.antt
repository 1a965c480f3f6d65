-- Whether an account that was written without syncs may go on, by the machine's boots.
use Rattle.std.specs.Prelude.{◌≡◌, ◌⊎◌, ◌++◌, ◌∷◌, [], ℕ, Bool, List, Option, Some, false, is_some, true}
use Rattle.std.specs.Prelude.{option_map, string_bytes}
use Rattle.rv_store.specs.declared.keeping.boot.Boots.{Boots}
use Rattle.rv_store.specs.declared.keeping.rules.StoreRules.{StoreRules}
use Rattle.rv_store.specs.declared.wish.EpochWish.{EpochWish}
use Rattle.rv_store.specs.declared.wish.EpochChoice.{EpochChoice}
use Rattle.rv_store.specs.Epochs.{IsChoice}

-- The boot that is noted in a store, where its present account was written without syncs, and the machine's
-- boot now, where it is known: a line of text each.
pub record KnownBoots : Type 0 where
  pub noted : Option (List ℕ)
  pub current : Option (List ℕ)

abbrev pub known_boots : Boots → KnownBoots
known_boots boots = record {
  noted = option_map string_bytes boots.noted;
  current = option_map string_bytes boots.current;
}

-- All that was written of the present account is there: it was synced, or written in this boot. And a later
-- start can tell the same of what is written now: it is synced, or the boot is known.
pub record MayGoOnIn (syncs : Bool) (boots : KnownBoots) : Type 0 where
  pub is_there : (boot : List ℕ) → boots.noted ≡ Some boot → boots.current ≡ Some boot
  pub can_tell : syncs ≡ false → is_some boots.current ≡ true

-- a boot as a line
abbrev pub boot_line : List ℕ → List ℕ
boot_line boot = boot ++ 10 ∷ []

-- the machine's boot is the one that the rules name, where they name one
abbrev pub IsNamed : StoreRules → KnownBoots → Type 0
IsNamed rules boots = (boot : List ℕ) → option_map (λ text. text.now) rules.boot ≡ Some boot
    → boots.current ≡ Some (boot_line boot)

-- The epochs that the rules allow, of which the present one may go on only where all of it is there.
pub record IsWishIn (rules : StoreRules) (boots : KnownBoots) (wish : EpochWish) : Type 0 where
  pub least : wish.least ≡ rules.epochs.least
  pub most : wish.most ≡ rules.epochs.most
  pub asked : rules.epochs.is_new ≡ true → wish.is_new ≡ true
  pub lost : (MayGoOnIn rules.syncs boots → ⊥) → wish.is_new ≡ true
  pub else : wish.is_new ≡ true → (rules.epochs.is_new ≡ true) ⊎ (MayGoOnIn rules.syncs boots → ⊥)

-- It was chosen by the epoch that a store had, and by the boots that were known.
pub record IsChosenIn (rules : StoreRules) (now : ℕ) (choice : EpochChoice) : Type 0 where
  pub boots : KnownBoots
  pub present : Option ℕ
  pub wish : EpochWish
  pub named : IsNamed rules boots
  pub allowed : IsWishIn rules boots wish
  pub chosen : IsChoice wish present now choice
