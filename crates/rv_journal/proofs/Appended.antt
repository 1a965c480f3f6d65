-- What a piece leaves that is written over zeros.
use Rattle.std.proofs.Common.{◌≡◌, ◌⊎◌, inl, inr, ⊎_elim, ℕ, ◌+◌, ◌-◌, ◌<◌, ◌≤◌, List, [], ◌++◌, length}
use Rattle.std.proofs.Common.{get_or, take, drop, sym, ◌∙◌, ap, arith, append_assoc, length-append}
use Rattle.std.proofs.Common.{length-drop, take-append-drop}
use Rattle.std.specs.List.{All}
use Rattle.std.proofs.lemmas.Bool.{cases_lt}
use Rattle.std.proofs.lemmas.List.{ext_get_or, get_or-take, get_or-drop, get_or-append_right, get_or_past}
use Rattle.std.proofs.lemmas.List.{length-take-le, take_at, append-nil}
use Rattle.rv_journal.specs.Device.{Holds, Mixed}
use Rattle.rv_journal.specs.Text.{before_zero, IsBlankFrom, HasFront}
use Rattle.rv_journal.proofs.Texts.{all_text, before_zero-behind, positive, front, none_before, thinner}

pub same_front : (at : ℕ) (old c : List ℕ) → at ≤ length old → length old ≤ length c
    → ((i : ℕ) → i < length old → i < at → get_or c i 0 ≡ get_or old i 0) → take at c ≡ take at old
same_front at old c within longer below =
    let long = length-take-le at c (omega arith) in
    let short = length-take-le at old within in
    ext_get_or 0 (take at c) (take at old) (long ∙ sym short) (λ i lt.
    let low : i < at = omega (arith, lt, long) in
    get_or-take at c i 0 low ∙ below i (omega arith) low ∙ sym (get_or-take at old i 0 low))

-- a text, and behind it what a crash left
pub text_and : (old c : List ℕ) (at : ℕ) → take at c ≡ before_zero old
    → before_zero c ≡ before_zero old ++ before_zero (drop at c)
text_and old c at kept =
    ap before_zero (sym (take-append-drop at c) ∙ ap (λ (l : List ℕ). l ++ drop at c) kept)
    ∙ before_zero-behind (before_zero old) (drop at c) (positive old)

module _ (old piece : List ℕ) (at : ℕ) (is_end : at ≡ length (before_zero old)) (blank : IsBlankFrom at old)
    (text : All (λ byte. 0 < byte) piece) (room : at + length piece < length old) where
  at_end : take at old ≡ before_zero old
  at_end = ap (λ (n : ℕ). take n old) is_end ∙ front old

  -- each outcome of a crash has the text and a front of the piece
  pub mixed_front : (c : List ℕ) → Mixed at piece old c → HasFront (before_zero old) piece c
  mixed_front c mixed =
      let kept : take at c ≡ before_zero old = same_front at old c (omega arith) mixed.no_shorter mixed.below
      ∙ at_end in
      let each : (i : ℕ) → (get_or (drop at c) i 0 ≡ 0) ⊎ (get_or (drop at c) i 0 ≡ get_or piece i 0) = λ i.
      let here = get_or-drop at c i 0 in
      ⊎_elim
      (λ (low : i < length piece). ⊎_elim (λ (was : get_or c (at + i) 0 ≡ get_or old (at + i) 0). inl
      (here ∙ was ∙ blank (at + i) (omega arith))) (λ (new : get_or c (at + i) 0 ≡ get_or piece i 0). inr
      (here ∙ new)) (mixed.each i low (omega arith)))
      (λ (high : length piece ≤ i). inl (here ∙ ⊎_elim (λ (within : at + i < length old). mixed.above (at + i)
      within (omega arith) ∙ blank (at + i) (omega arith)) (λ (past : length old ≤ at + i). get_or_past c
      (at + i) 0 (omega (arith, mixed.no_longer))) (cases_lt (at + i) (length old))))
      (cases_lt i (length piece)) in
      let rest = thinner (drop at c) piece each in (
        rest.0,
        text_and old c at kept ∙ ap (λ (l : List ℕ). before_zero old ++ l) (rest.1
            ∙ ap (λ (l : List ℕ). take rest.0 l) (all_text piece text)),
      )

  size : length (take at old ++ piece) ≡ at + length piece
  size = omega (arith, length-append (take at old) piece, length-take-le at old (omega arith))

  pub length-stored : (new : List ℕ) → Holds old at piece new → length new ≡ length old
  length-stored new holds = omega (
    arith,
    ap length holds,
    length-append (take at old ++ piece)
        (drop (at + length piece) old),
    size,
    length-drop (at + length piece) old,
  )

  pub blank_behind : (new : List ℕ) → Holds old at piece new → IsBlankFrom (at + length piece) new
  blank_behind new holds i past =
      ap (λ (l : List ℕ). get_or l i 0) holds
      ∙ get_or-append_right (take at old ++ piece) (drop (at + length piece) old) (at + length piece) i 0 size
      past
      ∙ get_or-drop (at + length piece) old (i - (at + length piece)) 0
      ∙ blank (at + length piece + (i - (at + length piece))) (omega arith)

  pub stored : (new : List ℕ) → Holds old at piece new → before_zero new ≡ before_zero old ++ piece
  stored new holds =
      let rest = drop (at + length piece) old in
      let none : before_zero rest ≡ [] = none_before rest (get_or-drop (at + length piece) old 0 0
      ∙ blank (at + length piece + 0) (omega arith)) in
      ap before_zero (holds ∙ ap (λ (l : List ℕ). l ++ piece ++ rest) at_end ∙ append_assoc (before_zero old)
      piece rest)
      ∙ before_zero-behind (before_zero old) (piece ++ rest) (positive old)
      ∙ ap (λ (l : List ℕ). before_zero old ++ l) (before_zero-behind piece rest text
      ∙ ap (λ (l : List ℕ). piece ++ l) none ∙ append-nil piece)

  pub taken : (new : List ℕ) → Holds old at piece new → take (at + length piece) new ≡ take at old ++ piece
  taken new holds = ap (λ (l : List ℕ). take (at + length piece) l) holds ∙ take_at (take at old ++ piece)
      (drop (at + length piece) old) (at + length piece) size

-- what stands before a write is there behind it, whether it failed or not
pub kept_before : (old new bytes : List ℕ) (end at : ℕ) → end ≤ at → end ≤ length old → Mixed at bytes old new
    → take end new ≡ take end old
kept_before old new bytes end at low within mixed = same_front end old new within mixed.no_shorter
    (λ i inside before. mixed.below i inside (omega arith))
