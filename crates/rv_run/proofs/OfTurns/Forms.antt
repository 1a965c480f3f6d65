-- Every line has a message's form or has not.
use Rattle.std.proofs.Common.{◌≡◌, ◌≢◌, ◌≤◌, ◌⊎◌, ℕ, List, [], ◌∷◌, ◌++◌, sym, ap, inl, inr, ◌∙◌, length}
use Rattle.std.proofs.Common.{arith, subst}
use Rattle.std.specs.List.{All}
use Rattle.std.specs.Int.{IsInRange}
use Rattle.std.proofs.lemmas.List.Elements.{All-cons, All-head, All-nil, All-tail}
use Rattle.std.proofs.lemmas.Bool.{cases_lt}
use Rattle.std.proofs.lemmas.Bool.Decides.{eqb_tells}
use Rattle.rv_text.specs.Bodies.{HasBodyLength}
use Rattle.rv_run.specs.turns.Lines.{HasForm, IsBadLine}
use Rattle.rv_text.specs.Number.{IsDigits}
use Rattle.rv_book.proofs.OfLines.Cutting.{Lacks, cut_once, digits_lack_space, not_lacking}

-- the fact holds, or it does not
abbrev Decided : Type 0 → Type 0
Decided P = P ⊎ (P → ⊥)

both : {P Q : Type 0} → Decided P → Decided Q → Decided (P × Q)
both p q = elim p [
  | inl held ↦ elim q [ inl also ↦ inl (held, also) | inr not ↦ inr (λ h. not h.1) ]
  | inr not
      ↦ inr (λ h. not h.0)
]

at_most : (m n : ℕ) → Decided (m ≤ n)
at_most m n = elim (cases_lt n m) [ inl past ↦ inr (λ h. omega arith) | inr within ↦ inl within ]

all_in_range : (low high : ℕ) (xs : List ℕ) → Decided (All (IsInRange low high) xs)
all_in_range low high [] = inl (All-nil (IsInRange low high))
all_in_range low high (x ∷ xs) = elim (both (at_most low x) (at_most x high)) [
  | inl here ↦ elim (all_in_range low high xs) [
    | inl later ↦ inl (All-cons (IsInRange low high) x xs here later)
    | inr not ↦ inr (λ all. not (All-tail (IsInRange low high) x xs all))
  ]
  | inr not ↦ inr (λ all. not (All-head (IsInRange low high) x xs all))
]

-- a list has a first of a byte, or lacks it
first_of : (byte : ℕ) (xs : List ℕ) → ((front : List ℕ) × (rest : List ℕ) × (xs ≡ front ++ byte ∷ rest)
    × Lacks byte front) ⊎ Lacks byte xs
first_of byte [] = inr (All-nil (λ b. b ≢ byte))
first_of byte (x ∷ xs) = elim (eqb_tells x byte) [
  | inl same ↦ inl ([], xs, ap (λ b. b ∷ xs) same.1, All-nil (λ b. b ≢ byte))
  | inr other ↦ elim (first_of byte xs) [
    | inl found ↦ inl (
      x ∷ found.0,
      found.1,
      ap (λ l. x ∷ l) found.2,
      All-cons (λ b. b ≢ byte) x found.0
          other.1 found.3,
    )
    | inr lacks ↦ inr (All-cons (λ b. b ≢ byte) x xs other.1 lacks)
  ]
]

digits_or_not : (text : List ℕ) → Decided (IsDigits text)
digits_or_not text = elim (both (at_most 1 (length text)) (both (at_most (length text) 19)
    (all_in_range 48 57 text))) [
      | inl are ↦ inl (record { some = are.0; within = are.1.0; are_digits = are.1.1 })
      | inr not ↦ inr (λ are. not (are.some, (are.within, are.are_digits)))
    ]

-- digits before a first space and bytes of a body's length after it are the form
form_of : (line digits body : List ℕ) → line ≡ digits ++ 32 ∷ body → Lacks 32 digits
    → Decided (IsDigits digits × HasBodyLength body) → Decided (HasForm line)
form_of line digits body parts lacks decided = elim decided [
  | inl both ↦ inl (record {
    digits = digits;
    body = body;
    parts = parts;
    are_digits = both.0;
    is_long =
        both.1;
  })
  | inr not ↦ inr (λ form.
      let one = cut_once 32 form.digits form.body digits body (digits_lack_space form.digits
      form.are_digits.are_digits) lacks (sym form.parts ∙ parts) in
      not (subst IsDigits one.0 form.are_digits, subst HasBodyLength one.1 form.is_long))
]

pub has_form : (line : List ℕ) → HasForm line ⊎ (HasForm line → ⊥)
has_form line = elim (first_of 32 line) [
  | inl found ↦ form_of line found.0 found.1 found.2 found.3
      (both (digits_or_not found.0) (both (at_most 1 (length found.1)) (at_most (length found.1) 65535)))
  | inr lacks ↦ inr (λ form. not_lacking 32 form.digits form.body (subst (Lacks 32) form.parts lacks))
]

-- a line without it says no message
pub formless_is_bad : (line : List ℕ) → (HasForm line → ⊥) → IsBadLine line
formless_is_bad line formless moment message reads =
    formless (record {
      digits = reads.digits;
      body = reads.body;
      parts = reads.parts;
      are_digits =
          reads.says_moment.0;
      is_long = reads.says_message.0;
    })
