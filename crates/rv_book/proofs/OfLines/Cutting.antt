-- What is cut at its first LF or space, and that there is one way to cut it.
use Rattle.std.proofs.Common.{◌≡◌, ◌≢◌, ℕ, List, [], ◌∷◌, ◌++◌, refl, arith}
use Rattle.std.specs.List.{All}
use Rattle.std.specs.Int.{IsInRange}
use Rattle.std.proofs.lemmas.List.Elements.{All-head, All-tail}
use Rattle.std.proofs.lemmas.Bool.{ne_eqb}
use Rattle.rv_book.specs.lines.Lines.{lines}

-- none of the bytes is this one
abbrev pub Lacks : ℕ → List ℕ → Type 0
Lacks byte bytes = All (λ b. b ≢ byte) bytes

pub lines_cut : (front rest : List ℕ) → All (λ b. b ≢ 10) front
    → lines (front ++ 10 ∷ rest) ≡ front ∷ lines rest
lines_cut [] rest lacks = refl
lines_cut (x ∷ xs) rest lacks =
    let differs = ne_eqb x 10 (All-head (λ b. b ≢ 10) x xs lacks) in
    rw (differs, lines_cut xs rest (All-tail (λ b. b ≢ 10) x xs lacks))

pub lines_last : (x : ℕ) (xs : List ℕ) → All (λ b. b ≢ 10) (x ∷ xs) → lines (x ∷ xs) ≡ (x ∷ xs) ∷ []
lines_last x [] lacks = let differs = ne_eqb x 10 (All-head (λ b. b ≢ 10) x [] lacks) in rw differs
lines_last x (y ∷ ys) lacks =
    let differs = ne_eqb x 10 (All-head (λ b. b ≢ 10) x (y ∷ ys) lacks) in
    let later = lines_last y ys (All-tail (λ b. b ≢ 10) x (y ∷ ys) lacks) in
    rw (differs, later)

-- a byte that stands in a list is not lacking there
pub not_lacking : (byte : ℕ) (front rest : List ℕ) → Lacks byte (front ++ byte ∷ rest) → ⊥
not_lacking byte [] rest lacks = All-head (λ b. b ≢ byte) byte rest lacks refl
not_lacking byte (x ∷ xs) rest lacks = not_lacking byte xs rest (All-tail (λ b. b ≢ byte) x
    (xs ++ byte ∷ rest) lacks)

-- two cuts at the first of a byte are one
pub cut_once : (byte : ℕ) (front rest front' rest' : List ℕ) → Lacks byte front → Lacks byte front'
    → front ++ byte ∷ rest ≡ front' ++ byte ∷ rest'
    → (front ≡ front') × (rest ≡ rest')
cut_once byte [] rest [] rest' lacks lacks' same = (refl, cc)
cut_once byte [] rest (y ∷ ys) rest' lacks lacks' same = absurd (All-head (λ b. b ≢ byte) y ys lacks' (cc))
cut_once byte (x ∷ xs) rest [] rest' lacks lacks' same = absurd (All-head (λ b. b ≢ byte) x xs lacks (cc))
cut_once byte (x ∷ xs) rest (y ∷ ys) rest' lacks lacks' same =
    let later = cut_once byte xs rest ys rest' (All-tail (λ b. b ≢ byte) x xs lacks) (All-tail (λ b. b ≢ byte)
    y ys lacks') (cc) in
    let first : x ≡ y = cc in
    (cc, later.1)

-- digits are no spaces
pub digits_lack_space : (digits : List ℕ) → All (IsInRange 48 57) digits → Lacks 32 digits
digits_lack_space digits within k d inside same = omega (arith, within k d inside)
