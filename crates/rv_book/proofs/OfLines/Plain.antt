-- A number is written plainly in one way: as `decimal` writes it.
use Rattle.std.proofs.Common.{◌≡◌, ◌<◌, ◌≤◌, ◌^◌, ◌⊎◌, ℕ, List, [], ◌∷◌, sym, ap, inl, inr, ◌∙◌, get_or}
use Rattle.std.proofs.Common.{arith}
use Rattle.std.specs.Fmt.{decimal}
use Rattle.std.proofs.lemmas.Fmt.{decimal_digit, decimal_is_IsNumeral, first_decimal, length-decimal-le}
use Rattle.std.proofs.lemmas.Bool.{cases_lt}
use Rattle.rv_text.specs.Number.{WritesPlainly}
use Rattle.rv_book.proofs.OfLines.Cutting.{Lacks}
use Rattle.rv_text.proofs.Numbers.{all_in_range}

-- a text writes one number
pub plainly_one : (text : List ℕ) (m n : ℕ) → WritesPlainly text m → WritesPlainly text n → m ≡ n
plainly_one text m n a b = a.writes.1 ∙ sym b.writes.1

-- digits are no spaces, no LF and no other byte below them
pub plain_lacks : (byte : ℕ) (text : List ℕ) (n : ℕ) → byte < 48 → WritesPlainly text n → Lacks byte text
plain_lacks byte text n low plain k d inside same = omega (arith, plain.writes.0.are_digits k d inside)

-- nor a minus
pub minus_is_no_number : (n : ℕ) → WritesPlainly (45 ∷ []) n → ⊥
minus_is_no_number n plain = omega (arith, plain.writes.0.are_digits 0 0 (omega arith))

-- only 0 begins with a zero
zero_alone : (n : ℕ) (rest : List ℕ) → n < 10 ^ 19 → (n < 1) ⊎ (1 ≤ n) → decimal n ≡ 48 ∷ rest → rest ≡ []
zero_alone n rest small cases is = elim cases [
  | inl none ↦ let zero : n ≡ 0 = omega arith in let digit : decimal 0 ≡ 48 ∷ [] = decimal_digit 0
      (omega arith) in cc
  | inr some ↦ absurd (omega (
    arith,
    first_decimal n some (omega arith),
    ap (λ (ds : List ℕ). get_or ds 0 0)
        is,
  ))
]

pub decimal_is_plain : (n : ℕ) → n < 10 ^ 19 → WritesPlainly (decimal n) n
decimal_is_plain n small =
    let numeral = decimal_is_IsNumeral n (omega arith) in
    record {
      writes = (
        record {
          some = numeral.0.0;
          within = length-decimal-le 19 n (omega arith) small
              (omega arith);
          are_digits = all_in_range (decimal n) numeral.0.1;
        },
        sym numeral.1,
      );
      no_leading_zero = λ rest. zero_alone n rest small (cases_lt n 1);
    }
