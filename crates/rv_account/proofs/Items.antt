-- The items of places, one by one.
use Rattle.std.proofs.Common.{◌≡◌, ℕ, zero, suc, List, [], ◌∷◌, ◌++◌, Option, Some, None, IsSome, option_map}
use Rattle.std.proofs.Common.{option_and_then, refl, sym, ap, ◌∙◌}
use Rattle.std.proofs.lemmas.Option.{none-some, same_Some}
use Rattle.std.specs.List.{slice_get}
use Rattle.rv_account.specs.declared.entry.Entry.{Entry}
use Rattle.rv_account.specs.Account.{item_at, items_at}

-- the first item and the others
abbrev pub Parts : List Entry → ℕ → List ℕ → List (List ℕ) → Type 0
Parts es p ps xs = (x : List ℕ) × (rest : List (List ℕ)) × (item_at es p ≡ Some x)
    × (items_at es ps ≡ Some rest) × (xs ≡ x ∷ rest)

parts_by : (es : List Entry) (p : ℕ) (ps : List ℕ) (xs : List (List ℕ)) (first : Option (List ℕ)) (more :
    Option (List (List ℕ))) → item_at es p ≡ first → items_at es ps ≡ more
    → option_and_then (λ item. option_map (λ items. item ∷ items) more) first ≡ Some xs → Parts es p ps xs
parts_by es p ps xs None more at there is = absurd (none-some xs is)
parts_by es p ps xs (Some x) None at there is = absurd (none-some xs is)
parts_by es p ps xs (Some x) (Some rest) at there is = (x, rest, at, there, same_Some _ _ (sym is))

pub parts : (es : List Entry) (p : ℕ) (ps : List ℕ) (xs : List (List ℕ)) → items_at es (p ∷ ps) ≡ Some xs
    → Parts es p ps xs
parts es p ps xs is = parts_by es p ps xs (item_at es p) (items_at es ps) refl refl is

pub joined : (es : List Entry) (p : ℕ) (ps : List ℕ) (x : List ℕ) (rest : List (List ℕ))
    → item_at es p ≡ Some x → items_at es ps ≡ Some rest → items_at es (p ∷ ps) ≡ Some (x ∷ rest)
joined es p ps x rest at there = ap (option_and_then (λ item. option_map (λ items. item ∷ items)
    (items_at es ps))) at ∙ ap (option_map (λ items. x ∷ items)) there

-- one place more
pub items_more : (es : List Entry) (ps : List ℕ) (p : ℕ) (xs : List (List ℕ)) (x : List ℕ)
    → items_at es ps ≡ Some xs → item_at es p ≡ Some x → items_at es (ps ++ p ∷ []) ≡ Some (xs ++ x ∷ [])
items_more es [] p xs x is at = joined es p [] x [] at refl ∙ ap (λ l. Some (l ++ x ∷ [])) (same_Some _ _ is)
items_more es (q ∷ ps) p xs x is at =
    let first = parts es q ps xs is in
    joined es q (ps ++ p ∷ []) first.0 (first.1 ++ x ∷ []) first.2 (items_more es ps p first.1 x first.3 at)
    ∙ ap (λ l. Some (l ++ x ∷ [])) (sym first.4)

-- each place has its item
pub item_among : (es : List Entry) (ps : List ℕ) (xs : List (List ℕ)) (i p : ℕ) → items_at es ps ≡ Some xs
    → slice_get ps i ≡ Some p → (x : List ℕ) × (item_at es p ≡ Some x) × (slice_get xs i ≡ Some x)
item_among es [] xs i p is there = absurd (none-some p there)
item_among es (q ∷ ps) xs zero p is there =
    let first = parts es q ps xs is in
    (first.0, ap (item_at es) (same_Some _ _ (sym there)) ∙ first.2, ap (λ l. slice_get l 0) first.4)
item_among es (q ∷ ps) xs (suc i) p is there =
    let first = parts es q ps xs is in
    let behind = item_among es ps first.1 i p first.3 there in
    (behind.0, behind.1, ap (λ l. slice_get l (suc i)) first.4 ∙ behind.2)

pub items_of : (o : Option (List (List ℕ))) → IsSome o → (xs : List (List ℕ)) × (o ≡ Some xs)
items_of None some = let no : ⊥ = cc in absurd no
items_of (Some xs) some = (xs, refl)
