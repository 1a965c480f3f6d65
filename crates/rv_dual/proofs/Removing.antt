-- A list in which no element passes a test, and what is left of a list of pairs after its first.
use Rattle.std.proofs.Common.{◌≡◌, suc, Bool, cond, List, [], ◌∷◌, refl, sym, ap, ◌∙◌, arith}
use Rattle.std.specs.Prelude.{not}
use Rattle.std.specs.List.{AllPairs, filter}
use Rattle.rv_dual.specs.Entries.{PassesNowhere}

pub without_none : {X : Type 0} (test : X → Bool) (xs : List X) → PassesNowhere test xs
    → xs ≡ filter (λ x. not (test x)) xs
without_none test [] none = refl
without_none test (x ∷ xs) none =
    ap (λ rest. x ∷ rest) (without_none test xs (λ i y there. none (suc i) y there))
    ∙ sym (ap (λ b. cond (not b) (x ∷ filter (λ y. not (test y)) xs) (filter (λ y. not (test y)) xs))
    (none 0 x refl))

pub rest_pairs : {X : Type 0} (R : X → X → Type 0) (x : X) (xs : List X) → AllPairs R (x ∷ xs) → AllPairs R xs
rest_pairs R x xs pairs = λ i j d below inside. pairs (suc i) (suc j) d (omega arith) (omega arith)
