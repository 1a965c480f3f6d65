-- Where the digits of a span of time end, so that it is read in one way.
use Rattle.std.proofs.Common.{◌≡◌, ◌∙◌, ◌+◌, ◌*◌, ◌<◌, ◌++◌, ◌∷◌, ℕ, [], List, None, Option, Some, ap, arith}
use Rattle.std.proofs.Common.{cond, drop, if◌then◌else◌, length, length-append, not, refl, sym, take, true}
use Rattle.std.specs.Int.{IsInRange}
use Rattle.std.specs.List.{All, position, position_or_len}
use Rattle.std.specs.Prelude.{◌==◌, nat_lt, slice_index}
use Rattle.std.proofs.lemmas.Bool.{lt-ltb}
use Rattle.std.proofs.lemmas.Bool.Decides.{nat_tests}
use Rattle.std.proofs.lemmas.List.{drop_at, take_at}
use Rattle.std.proofs.lemmas.List.Elements.{All-head, All-tail}
use Rattle.std.proofs.lemmas.Option.{same_Some}
use Rattle.rv_text.specs.Number.{value_of_digits}
use Rattle.rv_words.specs.Durations.{WritesDuration, is_no_digit, unit_millis, unit_word}
use Rattle.rv_words.specs.declared.duration.TimeUnit.{TimeUnit}
use Rattle.rv_words.specs.declared.duration.TimeUnit.TheVariants.{Hour, Millisecond, Minute, Second}

digit_passes : (d : ℕ) → IsInRange 48 57 d → not (is_no_digit d) ≡ true
digit_passes d within = grind (arith, nat_tests, within)

-- the digits before a unit's word are all that are no letters
digits_before : (digits : List ℕ) (unit : TimeUnit) → All (IsInRange 48 57) digits
    → position_or_len is_no_digit (digits ++ unit_word unit) ≡ length digits
digits_before [] Millisecond all = refl
digits_before [] Second all = refl
digits_before [] Minute all = refl
digits_before [] Hour all = refl
digits_before (d ∷ digits) unit all =
    let rest = position_or_len is_no_digit (digits ++ unit_word unit) in
    let step : cond (not (is_no_digit d)) (1 + rest) 0 ≡ 1 + rest =
    ap (λ b. cond b (1 + rest) 0) (digit_passes d (All-head (IsInRange 48 57) d digits all)) in
    let more : 1 + rest ≡ length (d ∷ digits) =
    omega (arith, digits_before digits unit (All-tail (IsInRange 48 57) d digits all)) in
    step ∙ more

longer : (digits : List ℕ) (unit : TimeUnit) → length digits < length (digits ++ unit_word unit)
longer digits Millisecond = omega (arith, length-append digits (unit_word Millisecond))
longer digits Second = omega (arith, length-append digits (unit_word Second))
longer digits Minute = omega (arith, length-append digits (unit_word Minute))
longer digits Hour = omega (arith, length-append digits (unit_word Hour))

-- a span's first letter comes after its digits
pub first_letter_of : (text : List ℕ) (n : ℕ) → (w : WritesDuration text n)
    → position is_no_digit text ≡ Some (length w.digits)
first_letter_of text n w =
    let whole = w.digits ++ unit_word w.unit in
    let len = digits_before w.digits w.unit w.writes.0.are_digits in
    ap (position is_no_digit) w.parts
    ∙ ap (λ (k : ℕ). cond (nat_lt k (length whole)) (Some k) None) len
    ∙ ap (λ b. cond b (Some (length w.digits)) None)
    (lt-ltb (length w.digits) (length whole) (longer w.digits w.unit))

-- so what stands before it are the digits, and the rest is the unit's word
pub cut_digits : (text : List ℕ) (place n : ℕ) → position is_no_digit text ≡ Some place
    → (w : WritesDuration text n) → take place text ≡ w.digits
cut_digits text place n first w =
    let same : length w.digits ≡ place = same_Some _ _ (sym (first_letter_of text n w) ∙ first) in
    ap (take place) w.parts ∙ take_at w.digits (unit_word w.unit) place same

pub cut_word : (text : List ℕ) (place n : ℕ) → position is_no_digit text ≡ Some place
    → (w : WritesDuration text n) → drop place text ≡ unit_word w.unit
cut_word text place n first w =
    let same : length w.digits ≡ place = same_Some _ _ (sym (first_letter_of text n w) ∙ first) in
    ap (drop place) w.parts ∙ drop_at w.digits (unit_word w.unit) place same

-- no two units have one word
abbrev unit_of : List ℕ → Option TimeUnit
unit_of word =
    if length word == 2 then Some Millisecond else if slice_index word 0 == 115 then Some Second
    else if slice_index word 0 == 109 then Some Minute else Some Hour

by_word : (unit : TimeUnit) → unit_of (unit_word unit) ≡ Some unit
by_word Millisecond = refl
by_word Second = refl
by_word Minute = refl
by_word Hour = refl

pub one_unit : (a b : TimeUnit) → unit_word a ≡ unit_word b → a ≡ b
one_unit a b same = same_Some _ _ (sym (by_word a) ∙ ap unit_of same ∙ by_word b)

-- what is read of the digits and the word is what the text writes
pub read_as : (text : List ℕ) (place n count : ℕ) (unit : TimeUnit) → position is_no_digit text ≡ Some place
    → (w : WritesDuration text n) → count ≡ value_of_digits (take place text)
    → drop place text ≡ unit_word unit → n ≡ count * unit_millis unit
read_as text place n count unit first w value word =
    let same_count : count ≡ w.count = value ∙ ap value_of_digits (cut_digits text place n first w)
    ∙ sym w.writes.1 in
    let same_unit : unit ≡ w.unit = one_unit unit w.unit (sym word ∙ cut_word text place n first w) in
    w.n_is ∙ (λ i. sym same_count i * unit_millis (sym same_unit i))

-- a text writes one span at most
pub one_duration : (text : List ℕ) (m n : ℕ) → WritesDuration text m → WritesDuration text n → m ≡ n
one_duration text m n a b =
    sym (read_as text (length a.digits) n a.count a.unit (first_letter_of text m a) b
    (a.writes.1 ∙ ap value_of_digits (sym (cut_digits text (length a.digits) m (first_letter_of text m a) a)))
    (cut_word text (length a.digits) m (first_letter_of text m a) a) ∙ sym a.n_is)
