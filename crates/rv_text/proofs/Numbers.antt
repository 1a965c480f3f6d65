-- What a number's digits tell of each of them, and how large their value is.
use Rattle.std.proofs.Common.{arith, subst, get_or, length, List, take, ℕ, ◌<◌, ◌≡◌, ◌≤◌, ◌^◌, ◌+◌, ◌*◌, ◌-◌}
use Rattle.std.specs.Int.{IsInRange}
use Rattle.std.specs.List.{All}
use Rattle.std.specs.Str.Parse.{AllDigits, digits_value}
use Rattle.std.proofs.lemmas.List.{get_or_default, length-take-le}
use Rattle.std.proofs.lemmas.Int.Digits.{digits_more, digits_value_more}
use Rattle.std.proofs.lemmas.Str.{digit_value_digit}
use Rattle.std.proofs.lemmas.Str.Parse.{IsNumeralModel, digit_at, digits_value_short, numerals_by_value}
use Rattle.std.proofs.lemmas.Str.Parse.{tells_digits}

numerals : IsNumeralModel (AllDigits 10) (digits_value 10)
numerals = numerals_by_value (AllDigits 10) tells_digits

-- fewer than 19 digits leave room for one more
pub value_before_last : (bs : List ℕ) (i : ℕ) → i < length bs → length bs ≤ 19 → AllDigits 10 (take i bs)
    → digits_value 10 (take i bs) < 10 ^ 18
value_before_last bs i inside short digits =
    digits_value_short numerals (take i bs) 18 digits (omega (arith, length-take-le i bs (omega arith)))

-- one more digit
pub digits_with_next : (bs : List ℕ) (i : ℕ) → i < length bs → AllDigits 10 (take i bs)
    → IsInRange 48 57 (get_or bs i 0) → AllDigits 10 (take (i + 1) bs)
digits_with_next bs i inside digits digit =
    digits_more 10 bs i inside digits (omega (arith, digit_value_digit (get_or bs i 0) digit))

pub value_with_next : (bs : List ℕ) (i : ℕ) → i < length bs → IsInRange 48 57 (get_or bs i 0)
    → 10 * digits_value 10 (take i bs) + (get_or bs i 0 - 48) ≡ digits_value 10 (take (i + 1) bs)
value_with_next bs i inside digit =
    omega (arith, digits_value_more 10 bs i inside, digit_value_digit (get_or bs i 0) digit)

pub all_in_range : (bs : List ℕ) → AllDigits 10 bs → All (IsInRange 48 57) bs
all_in_range bs digits k d inside =
    subst (IsInRange 48 57) (get_or_default bs k 0 d inside) (digit_at bs k digits inside)
