-- What zeros leave that are written somewhere after the last line.
use Rattle.std.proofs.Common.{◌≡◌, ◌⊎◌, inl, inr, ⊎_elim, ℕ, ◌+◌, ◌-◌, ◌<◌, ◌≤◌, List, ◌++◌, length, get_or}
use Rattle.std.proofs.Common.{take, drop, refl, sym, ◌∙◌, ap, subst, arith, append_assoc, take-append-drop}
use Rattle.std.specs.List.{All}
use Rattle.std.proofs.lemmas.Bool.{cases_lt}
use Rattle.std.proofs.lemmas.List.{get_or-drop, get_or_past, append_cancel_left, take_at}
use Rattle.rv_journal.specs.Device.{Holds, Mixed}
use Rattle.rv_journal.specs.Text.{before_zero, whole_lines, stored_lines}
use Rattle.rv_journal.proofs.Texts.{all_front, before_zero-behind, front, positive, thinner}
use Rattle.rv_journal.proofs.Lines.{Parts, parts, none_taken, whole_lines-behind}
use Rattle.rv_journal.proofs.Appended.{same_front}
use Rattle.rv_journal.proofs.Holding.{holds_mixed, written_there}
use Rattle.rv_journal.proofs.Scan.{text_ends}

-- the lines of a file are its front
module _ (file : List ℕ) where
  text_parts : Parts (before_zero file)
  text_parts = parts (before_zero file)

  whole : file ≡ stored_lines file ++ (text_parts.end ++ drop (length (before_zero file)) file)
  whole =
      let rest = drop (length (before_zero file)) file in
      sym (take-append-drop (length (before_zero file)) file)
      ∙ ap (λ (l : List ℕ). l ++ rest) (front file ∙ text_parts.split)
      ∙ append_assoc (stored_lines file) text_parts.end rest

  pub lines_front : take (length (stored_lines file)) file ≡ stored_lines file
  lines_front =
      let lines = stored_lines file in
      let rest = text_parts.end ++ drop (length (before_zero file)) file in
      ap (λ (l : List ℕ). take (length lines) l) whole ∙ take_at lines rest (length lines) refl

  lines_all : All (λ byte. 0 < byte) (stored_lines file)
  lines_all = all_front (stored_lines file) text_parts.end (subst (λ (l : List ℕ). All (λ byte. 0 < byte) l)
      text_parts.split (positive file))

  module _ (end : ℕ) (is_end : end ≡ length (stored_lines file)) where
    at_end : take end file ≡ stored_lines file
    at_end = ap (λ (n : ℕ). take n file) is_end ∙ lines_front

    -- its text is its lines where a zero stands right after them
    pub only_lines : get_or file end 0 ≡ 0 → before_zero file ≡ stored_lines file
    only_lines is_zero = text_ends file end (subst (λ (l : List ℕ). All (λ byte. 0 < byte) l) (sym at_end)
        lines_all) is_zero ∙ at_end

    -- a lost piece's bytes after the last line, up to the first zero
    lost : before_zero (drop end file) ≡ text_parts.end
    lost =
        append_cancel_left (stored_lines file) (before_zero (drop end file)) text_parts.end
        (sym (before_zero-behind (stored_lines file) (drop end file) lines_all)
        ∙ ap before_zero (ap (λ (l : List ℕ). l ++ drop end file) (sym at_end) ∙ take-append-drop end file)
        ∙ text_parts.split)

    -- a file that has zeros instead of some of its bytes has the same lines
    thinner_lines : (c : List ℕ) → take end c ≡ stored_lines file
        → ((i : ℕ) → (get_or (drop end c) i 0 ≡ 0) ⊎ (get_or (drop end c) i 0 ≡ get_or (drop end file) i 0))
        → stored_lines c ≡ stored_lines file
    thinner_lines c kept each =
        let rest = thinner (drop end c) (drop end file) each in
        let text : before_zero c ≡ stored_lines file ++ take rest.0 text_parts.end =
        ap before_zero (sym (take-append-drop end c) ∙ ap (λ (l : List ℕ). l ++ drop end c) kept)
        ∙ before_zero-behind (stored_lines file) (drop end c) lines_all
        ∙ ap (λ (l : List ℕ). stored_lines file ++ l) (rest.1 ∙ ap (λ (l : List ℕ). take rest.0 l) lost) in
        ap whole_lines text ∙ whole_lines-behind (before_zero file) (take rest.0 text_parts.end)
        (none_taken rest.0 text_parts.end text_parts.no_lf)

    module _ (at : ℕ) (after : end ≤ at) (zeros : List ℕ) (blank : (i : ℕ) → get_or zeros i 0 ≡ 0) (fit :
        at + length zeros ≤ length file) where
      -- each outcome of a crash has the same lines
      pub mixed_lines : (c : List ℕ) → Mixed at zeros file c → stored_lines c ≡ stored_lines file
      mixed_lines c mixed = thinner_lines c kept each
        where
          kept : take end c ≡ stored_lines file
          kept = same_front end file c (omega (arith, after, fit)) mixed.no_shorter
              (λ i low before. mixed.below i low (omega (arith, before, after))) ∙ at_end

          byte : (i : ℕ) → (get_or c i 0 ≡ 0) ⊎ (get_or c i 0 ≡ get_or file i 0)
          byte i = ⊎_elim (λ (low : i < at). inr (mixed.below i (omega (arith, low, fit)) low))
              (λ (high : at ≤ i). ⊎_elim (λ (in_zeros : i < at + length zeros). written i high in_zeros)
              (λ (past : at + length zeros ≤ i). ⊎_elim (λ (within : i < length file).
              inr (mixed.above i within past)) (λ (behind : length file ≤ i).
              inl (get_or_past c i 0 (omega (arith, behind, fit, mixed.no_longer))))
              (cases_lt i (length file)))
              (cases_lt i (at + length zeros)))
              (cases_lt i at)
            where
              written : (i : ℕ) → at ≤ i → i < at + length zeros
                  → (get_or c i 0 ≡ 0) ⊎ (get_or c i 0 ≡ get_or file i 0)
              written i high in_zeros =
                  let back : at + (i - at) ≡ i = omega (arith, high) in
                  subst (λ (n : ℕ). (get_or c n 0 ≡ 0) ⊎ (get_or c n 0 ≡ get_or file n 0)) back
                  (⊎_elim (λ (was : get_or c (at + (i - at)) 0 ≡ get_or file (at + (i - at)) 0). inr was)
                  (λ (new : get_or c (at + (i - at)) 0 ≡ get_or zeros (i - at) 0). inl (new ∙ blank (i - at)))
                  (mixed.each (i - at) (omega (arith, high, in_zeros)) (omega (arith, high, in_zeros, fit))))

          each : (i : ℕ) → (get_or (drop end c) i 0 ≡ 0)
              ⊎ (get_or (drop end c) i 0 ≡ get_or (drop end file) i 0)
          each i = ⊎_elim (λ (none : get_or c (end + i) 0 ≡ 0). inl (get_or-drop end c i 0 ∙ none))
              (λ (same : get_or c (end + i) 0 ≡ get_or file (end + i) 0). inr (get_or-drop end c i 0 ∙ same
              ∙ sym (get_or-drop end file i 0))) (byte (end + i))

      -- and zeros stand as far as they did, and on
      pub zeros_on : ((i : ℕ) → end ≤ i → i < at → get_or file i 0 ≡ 0) → (new : List ℕ)
          → Holds file at zeros new
          → (i : ℕ) → end ≤ i → i < at + length zeros → get_or new i 0 ≡ 0
      zeros_on so_far new holds i past low = ⊎_elim (λ (before : i < at).
          (holds_mixed file zeros new at (omega (arith, fit)) holds).below i (omega (arith, before, fit))
          before
          ∙ so_far i past before) (λ (from : at ≤ i).
          let back : at + (i - at) ≡ i = omega (arith, from) in
          ap (λ (n : ℕ). get_or new n 0) (sym back) ∙ written_there file zeros new at (omega (arith, fit))
          holds
          (i - at) (omega (arith, from, low)) ∙ blank (i - at)) (cases_lt i at)
