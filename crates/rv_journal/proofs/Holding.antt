-- Bytes that are written whole are one of the ways to mix them.
use Rattle.std.proofs.Common.{◌≡◌, inr, ℕ, ◌+◌, ◌-◌, ◌<◌, ◌≤◌, List, ◌++◌, length, get_or, take, drop, ◌∙◌}
use Rattle.std.proofs.Common.{ap, refl, ⊎_elim}
use Rattle.std.proofs.lemmas.Bool.{cases_lt}
use Rattle.std.proofs.Common.{arith, append_assoc, length-append, length-drop}
use Rattle.std.proofs.lemmas.List.{get_or-take, get_or-drop, get_or_append_left, get_or-append_right}
use Rattle.std.proofs.lemmas.List.{length-take-le, append-nil, drop_all, take_all}
use Rattle.rv_journal.specs.Device.{Holds, Mixed}

module _ (old bytes new : List ℕ) (at : ℕ) (within : at ≤ length old) (holds : Holds old at bytes new) where
  front_size : length (take at old) ≡ at
  front_size = length-take-le at old within

  whole_size : length (take at old ++ bytes) ≡ at + length bytes
  whole_size = omega (arith, length-append (take at old) bytes, front_size)

  size : length new ≡ at + length bytes + (length old - (at + length bytes))
  size = omega (
    arith,
    ap length holds,
    length-append (take at old ++ bytes) (drop (at + length bytes) old),
    whole_size,
    length-drop (at + length bytes) old,
  )

  -- a file that they fit keeps its length
  pub same_size : at + length bytes ≤ length old → length new ≡ length old
  same_size fit = omega (arith, size, fit)

  pub written_there : (i : ℕ) → i < length bytes → get_or new (at + i) 0 ≡ get_or bytes i 0
  written_there i low =
      let back : at + i - at ≡ i = omega arith in
      ap (λ (l : List ℕ). get_or l (at + i) 0) holds
      ∙ get_or_append_left (take at old ++ bytes) (drop (at + length bytes) old) 0 (at + i)
      (omega (arith, low, whole_size))
      ∙ get_or-append_right (take at old) bytes at (at + i) 0 front_size (omega arith)
      ∙ ap (λ (n : ℕ). get_or bytes n 0) back

  pub holds_mixed : Mixed at bytes old new
  holds_mixed = record {
    no_shorter = omega (arith, size);
    no_longer = omega (arith, size);
    below = λ i _ before.
        ap (λ (l : List ℕ). get_or l i 0) (holds ∙ append_assoc (take at old) bytes (drop (at + length bytes)
        old))
        ∙ get_or_append_left (take at old) (bytes ++ drop (at + length bytes) old) 0 i
        (omega (arith, before, front_size)) ∙ get_or-take at old i 0 before;
    above = λ i _ after.
        let back : at + length bytes + (i - (at + length bytes)) ≡ i = omega (arith, after) in
        ap (λ (l : List ℕ). get_or l i 0) holds
        ∙ get_or-append_right (take at old ++ bytes) (drop (at + length bytes) old) (at + length bytes) i 0
        whole_size after
        ∙ get_or-drop (at + length bytes) old (i - (at + length bytes)) 0 ∙ ap (λ (n : ℕ). get_or old n 0)
        back;
    each = λ i low _. inr (written_there i low);
  }

-- and so past its end
past_mixed : (at : ℕ) (bytes old new : List ℕ) → length old ≤ at → new ≡ old ++ bytes → Mixed at bytes old new
past_mixed at bytes old new past is = record {
  no_shorter = omega (arith, ap length is, length-append old bytes);
  no_longer = omega (arith, ap length is, length-append old bytes, past);
  below = λ i low _. ap (λ (l : List ℕ). get_or l i 0) is ∙ get_or_append_left old bytes 0 i low;
  above = λ i low after. absurd (omega (arith, low, after, past));
  each = λ i _ low. absurd (omega (arith, low, past));
}

pub overwritten_mixed : (at : ℕ) (bytes old : List ℕ)
    → Mixed at bytes old (take at old ++ bytes ++ drop (at + length bytes) old)
overwritten_mixed at bytes old =
    let new = take at old ++ bytes ++ drop (at + length bytes) old in
    ⊎_elim (λ (low : at < length old). holds_mixed old bytes new at (omega (arith, low)) refl)
    (λ (past : length old ≤ at). past_mixed at bytes old new past
    (ap (λ (l : List ℕ). l ++ bytes ++ drop (at + length bytes) old) (take_all at old past)
    ∙ ap (λ (l : List ℕ). (old ++ bytes) ++ l) (drop_all (at + length bytes) old (omega (arith, past)))
    ∙ append-nil (old ++ bytes)))
    (cases_lt at (length old))
