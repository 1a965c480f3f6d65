-- By the boots that are known a start's wish is one that the rules allow.
use Rattle.std.proofs.Common.{◌≡◌, ◌⊎◌, ◌↔◌, ◌∙◌, ap, inl, inr, Bool, Bor, false, List, None, Option, refl}
use Rattle.std.proofs.Common.{Some, sym, true, ℕ}
use Rattle.std.proofs.lemmas.Option.{same_Some}
use Rattle.std.specs.Prelude.{if◌then◌else◌, IfSome, option_map}
use Rattle.rv_store.specs.keeping.Boots.{IsChosenIn, KnownBoots, MayGoOnIn, boot_line}
use Rattle.rv_store.specs.declared.keeping.rules.StoreRules.{StoreRules}
use Rattle.rv_store.specs.Epochs.{IsChoice}
use Rattle.rv_store.specs.declared.wish.EpochChoice.{EpochChoice}
use Rattle.rv_store.specs.declared.wish.EpochWish.{EpochWish}

asked : (new lets wish : Bool) → wish ≡ (if lets then new else true) → new ≡ true → wish ≡ true
asked new true wish is set = is ∙ set
asked new false wish is set = is

lost : (new lets wish : Bool) → wish ≡ (if lets then new else true) → (lets ≡ true → ⊥) → wish ≡ true
lost new true wish is not_so = absurd (not_so refl)
lost new false wish is not_so = is

why : (new lets wish : Bool) → wish ≡ (if lets then new else true) → wish ≡ true
    → (new ≡ true) ⊎ (lets ≡ true → ⊥)
why new true wish is set = inl (sym is ∙ set)
why new false wish is set = inr (λ so. absurd (cc))

named_as : (boot : Option (Bor (List ℕ))) (current : Option (List ℕ))
    → IfSome boot (λ text. current ≡ Some (boot_line text.now)) → (named : List ℕ)
    → option_map (λ text. text.now) boot ≡ Some named → current ≡ Some (boot_line named)
named_as None current is named has = absurd (cc)
named_as (Some text) current is named has = is ∙ ap (λ (t : List ℕ). Some (boot_line t)) (same_Some _ _ has)

-- the wish that keeps the rules' epochs, and asks for a new one where they do or the account doesn't go on
pub record IsWish (rules : StoreRules) (lets : Bool) (wish : EpochWish) : Type 0 where
  pub least : wish.least ≡ rules.epochs.least
  pub most : wish.most ≡ rules.epochs.most
  pub new : wish.is_new ≡ (if lets then rules.epochs.is_new else true)

or_lost : (rules : StoreRules) (boots : KnownBoots) (lets : Bool)
    → (lets ≡ true) ↔ MayGoOnIn rules.syncs boots → (rules.epochs.is_new ≡ true) ⊎ (lets ≡ true → ⊥)
    → (rules.epochs.is_new ≡ true) ⊎ (MayGoOnIn rules.syncs boots → ⊥)
or_lost rules boots lets goes_on (inl asked) = inl asked
or_lost rules boots lets goes_on (inr not_so) = inr (λ so. not_so (goes_on.1 so))

pub chosen_by : (rules : StoreRules) (boots : KnownBoots) (present : Option ℕ) (lets : Bool)
    (wish : EpochWish) (now : ℕ) (choice : EpochChoice)
    → IfSome rules.boot (λ text. boots.current ≡ Some (boot_line text.now))
    → (lets ≡ true) ↔ MayGoOnIn rules.syncs boots → IsWish rules lets wish → IsChoice wish present now choice
    → IsChosenIn rules now choice
chosen_by rules boots present lets wish now choice named goes_on is chosen = record {
  boots = boots;
  present = present;
  wish = wish;
  named = named_as rules.boot boots.current named;
  allowed = record {
    least = is.least;
    most = is.most;
    asked = asked _ lets _ is.new;
    lost = λ not_so. lost rules.epochs.is_new lets _ is.new (λ so. not_so (goes_on.0 so));
    else = λ set. or_lost rules boots lets goes_on (why rules.epochs.is_new lets _ is.new set);
  };
  chosen = chosen;
}
