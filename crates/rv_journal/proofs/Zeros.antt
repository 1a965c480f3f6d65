-- What zeros leave that are written past the end.
use Rattle.std.proofs.Common.{◌≡◌, ⊎_elim, ℕ, ◌+◌, ◌-◌, ◌<◌, ◌≤◌, replicate, List, ◌++◌, length, get_or, take}
use Rattle.std.proofs.Common.{drop, refl, sym, ◌∙◌, ap, subst, arith, length-append}
use Rattle.std.specs.Prelude.{slice_index}
use Rattle.std.specs.List.{All}
use Rattle.std.proofs.lemmas.Bool.{cases_lt}
use Rattle.std.proofs.lemmas.List.{get_or_append_left, get_or-append_right, get_or_past, get_or-replicate}
use Rattle.std.proofs.lemmas.List.{length-replicate, take_all, drop_all, append-nil}
use Rattle.rv_journal.specs.Device.{Holds, Mixed}
use Rattle.rv_journal.specs.Text.{before_zero, IsBlankFrom}
use Rattle.rv_journal.proofs.Texts.{positive, front}
use Rattle.rv_journal.proofs.Appended.{same_front}
use Rattle.rv_journal.proofs.Scan.{text_ends}

all_zero : (size i : ℕ) → slice_index (replicate size 0) i ≡ 0
all_zero size i = ⊎_elim (λ (low : i < size). get_or-replicate size i 0 0 low) (λ (past : size ≤ i).
    get_or_past (replicate size 0) i 0 (omega (arith, past, length-replicate {A = ℕ} size 0)))
    (cases_lt i size)

pub all_blank : (zeros : List ℕ) → zeros ≡ replicate (length zeros) 0 → IsBlankFrom 0 zeros
all_blank zeros are i _ = ap (λ (l : List ℕ). slice_index l i) are ∙ all_zero (length zeros) i

pub zeros_same : (zeros others : List ℕ) → zeros ≡ others → others ≡ replicate (length others) 0
    → zeros ≡ replicate (length zeros) 0
zeros_same zeros others same are = same ∙ are ∙ ap (λ (l : List ℕ). replicate (length l) 0) (sym same)

module _ (old zeros : List ℕ) (end more : ℕ) (is_end : end ≡ length (before_zero old)) (behind :
    end < length old) (blank : IsBlankFrom end old) (are : zeros ≡ replicate more 0) where
  at_end : take end old ≡ before_zero old
  at_end = ap (λ (n : ℕ). take n old) is_end ∙ front old

  -- the last synced zero ends the text, whatever stands past it
  kept_text : (c : List ℕ) → length old ≤ length c
      → ((i : ℕ) → i < length old → get_or c i 0 ≡ get_or old i 0) → before_zero c ≡ before_zero old
  kept_text c longer same =
      let is_front : take end c ≡ before_zero old = same_front end old c (omega arith) longer
      (λ i low _. same i low) ∙ at_end in
      text_ends c end (subst (λ (l : List ℕ). All (λ byte. 0 < byte) l) (sym is_front) (positive old))
      (same end behind ∙ blank end (omega arith)) ∙ is_front

  pub mixed_text : (c : List ℕ) → Mixed (length old) zeros old c → before_zero c ≡ before_zero old
  mixed_text c mixed = kept_text c mixed.no_shorter (λ i low. mixed.below i low low)

  module _ (new : List ℕ) (holds : Holds old (length old) zeros new) where
    longer : new ≡ old ++ zeros
    longer =
        holds ∙ ap (λ (l : List ℕ). l ++ zeros ++ drop (length old + length zeros) old) (take_all (length old)
        old (omega arith))
        ∙ ap (λ (l : List ℕ). old ++ zeros ++ l) (drop_all (length old + length zeros) old (omega arith))
        ∙ append-nil (old ++ zeros)

    pub length_new : length new ≡ length old + more
    length_new = omega (
      arith,
      ap length longer,
      length-append old zeros,
      ap length are,
      length-replicate
          {A = ℕ} more 0,
    )

    each_new : (i : ℕ) → i < length old → get_or new i 0 ≡ get_or old i 0
    each_new i low = ap (λ (l : List ℕ). get_or l i 0) longer ∙ get_or_append_left old zeros 0 i low

    pub text_new : before_zero new ≡ before_zero old
    text_new = kept_text new (omega (arith, length_new)) each_new

    pub blank_new : IsBlankFrom end new
    blank_new i past = ⊎_elim (λ (low : i < length old). each_new i low ∙ blank i past)
        (λ (high : length old ≤ i). ⊎_elim (zero_at high) (λ (out : length new ≤ i). get_or_past new i 0 out)
        (cases_lt i (length new))) (cases_lt i (length old))
      where
        zero_at : length old ≤ i → i < length new → get_or new i 0 ≡ 0
        zero_at high low =
            ap (λ (l : List ℕ). get_or l i 0) longer ∙ get_or-append_right old zeros (length old) i 0 refl
            high
            ∙ ap (λ (l : List ℕ). get_or l (i - length old) 0) are ∙ get_or-replicate more (i - length old) 0
            0 (omega (arith, length_new))
