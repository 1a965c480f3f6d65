-- Sides that meet: opposite goes both ways, so each side has one at most that it meets and that meets it.
use Rattle.rv_account.proofs.OfRules.Words.{◌≡◌, ◌∙◌, ℕ, Some, refl, sym, subst, none-some, same_Some, Side}
use Rattle.rv_account.proofs.OfRules.Words.{Exchanges}
use Rattle.rv_account.proofs.OfRules.Words.{Gives, Looks, Takes, opposite}
use Rattle.std.proofs.Common.{IsSome}

pub opposite_back : (side other : Side) → opposite side ≡ Some other → opposite other ≡ Some side
opposite_back (Gives queue) other opposes = subst (λ s. opposite s ≡ Some (Gives queue))
    (same_Some _ _ opposes) refl
opposite_back (Takes queue) other opposes = subst (λ s. opposite s ≡ Some (Takes queue))
    (same_Some _ _ opposes) refl
opposite_back (Looks queue) other opposes = absurd (none-some _ opposes)
opposite_back (Exchanges exchanger) other opposes = subst (λ s. opposite s ≡ Some (Exchanges exchanger))
    (same_Some _ _ opposes) refl

-- whom a side meets
pub one_opposite : (side other third : Side) → opposite side ≡ Some other → opposite side ≡ Some third
    → third ≡ other
one_opposite side other third opposes also = same_Some _ _ (sym also ∙ opposes)

-- who looks meets nobody
pub looks_alone : (queue : ℕ) → IsSome (opposite (Looks queue)) → ⊥
looks_alone queue meets = let no : ⊥ = cc in no
