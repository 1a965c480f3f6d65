-- What stands before the first zero.
use Rattle.std.proofs.Common.{◌≡◌, ◌⊎◌, inl, inr, ℕ, zero, suc, ◌<◌, ◌≤◌, List, [], ◌∷◌, ◌++◌, length, get_or}
use Rattle.std.proofs.Common.{take, refl, sym, ◌∙◌, ap, subst, arith, length-append}
use Rattle.std.proofs.lemmas.List.{append-nil, get_or_append_left}
use Rattle.std.specs.List.{All}
use Rattle.rv_journal.specs.Text.{before_zero}

goes : (b : ℕ) (rest : List ℕ) → 0 < b → before_zero (b ∷ rest) ≡ b ∷ before_zero rest
goes zero rest lt = absurd (omega arith)
goes (suc b) rest lt = refl

-- text goes on in what stands behind it
pub before_zero-behind : (text rest : List ℕ) → All (λ byte. 0 < byte) text
    → before_zero (text ++ rest) ≡ text ++ before_zero rest
before_zero-behind [] rest all = refl
before_zero-behind (b ∷ text) rest all =
    goes b (text ++ rest) (all 0 0 (omega arith)) ∙ ap (λ (l : List ℕ). b ∷ l) (before_zero-behind text rest
    (λ k d lt. all (suc k) d (omega (arith, lt))))

pub positive : (xs : List ℕ) → All (λ byte. 0 < byte) (before_zero xs)
positive [] k d lt = absurd (omega arith)
positive (zero ∷ xs) k d lt = absurd (omega arith)
positive (suc b ∷ xs) zero d lt = omega arith
positive (suc b ∷ xs) (suc k) d lt = positive xs k d (omega arith)

pub front : (xs : List ℕ) → take (length (before_zero xs)) xs ≡ before_zero xs
front [] = refl
front (zero ∷ xs) = refl
front (suc b ∷ xs) = ap (λ (l : List ℕ). suc b ∷ l) (front xs)

pub ends : (xs : List ℕ) → get_or xs (length (before_zero xs)) 0 ≡ 0
ends [] = refl
ends (zero ∷ xs) = refl
ends (suc b ∷ xs) = ends xs

pub front_within : (xs : List ℕ) → length (before_zero xs) ≤ length xs
front_within [] = omega arith
front_within (zero ∷ xs) = omega arith
front_within (suc b ∷ xs) = omega (arith, front_within xs)

-- nothing, where a zero stands
pub none_before : (xs : List ℕ) → get_or xs 0 0 ≡ 0 → before_zero xs ≡ []
none_before [] is = refl
none_before (zero ∷ xs) is = refl
none_before (suc b ∷ xs) is = absurd (omega (arith, is))

-- bytes without a zero
pub all_text : (text : List ℕ) → All (λ byte. 0 < byte) text → before_zero text ≡ text
all_text text all = ap before_zero (sym (append-nil text)) ∙ before_zero-behind text [] all ∙ append-nil text

pub no_zero : (text : List ℕ) → before_zero text ≡ text → All (λ byte. 0 < byte) text
no_zero text is = subst (λ (l : List ℕ). All (λ byte. 0 < byte) l) is (positive text)

pub all_front : (text end : List ℕ) → All (λ byte. 0 < byte) (text ++ end) → All (λ byte. 0 < byte) text
all_front text end all k d low =
    subst (λ (b : ℕ). 0 < b) (get_or_append_left text end d k low)
    (all k d (omega (arith, low, length-append text end)))

pub more_text : (xs ys : List ℕ) → (more : List ℕ) × (before_zero (xs ++ ys) ≡ before_zero xs ++ more)
more_text [] ys = (before_zero ys, refl)
more_text (zero ∷ xs) ys = ([], refl)
more_text (suc b ∷ xs) ys = let more = more_text xs ys in (more.0, ap (λ (l : List ℕ). suc b ∷ l) more.1)

-- nothing counts after a zero
pub zero_stays : (xs ys : List ℕ) → length (before_zero xs) < length xs
    → before_zero (xs ++ ys) ≡ before_zero xs
zero_stays [] ys some = absurd (omega arith)
zero_stays (zero ∷ xs) ys some = refl
zero_stays (suc b ∷ xs) ys some = ap (λ (l : List ℕ). suc b ∷ l) (zero_stays xs ys (omega arith))

not_zero : (b : ℕ) → (suc b ≡ 0) ⊎ (suc b ≡ 0) → ⊥
not_zero b (inl h) = omega (arith, h)
not_zero b (inr h) = omega (arith, h)

not_none : (b x : ℕ) → (suc b ≡ 0) ⊎ (suc b ≡ x) → suc b ≡ x
not_none b x (inl h) = absurd (omega (arith, h))
not_none b x (inr h) = h

-- where some bytes of a file are zeros instead, a front of what stood before its first zero stands there
pub thinner : (m xs : List ℕ) → ((i : ℕ) → (get_or m i 0 ≡ 0) ⊎ (get_or m i 0 ≡ get_or xs i 0))
    → (n : ℕ) × (before_zero m ≡ take n (before_zero xs))
thinner [] xs each = (0, refl)
thinner (zero ∷ m) xs each = (0, refl)
thinner (suc b ∷ m) [] each = absurd (not_zero b (each 0))
thinner (suc b ∷ m) (zero ∷ xs) each = absurd (not_zero b (each 0))
thinner (suc b ∷ m) (suc x ∷ xs) each =
    let rest = thinner m xs (λ i. each (suc i)) in
    let same : suc b ≡ suc x = not_none b (suc x) (each 0) in
    (suc rest.0, (λ i. same i ∷ rest.1 i))
