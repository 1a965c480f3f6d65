-- What the bytes of a file come to that are cut into lines piece by piece.
use Rattle.std.proofs.Common.{◌≡◌, ℕ, ◌+◌, ◌-◌, ◌<◌, ◌≤◌, true, false, List, [], ◌++◌, length}
use Rattle.std.proofs.Common.{take, drop, sym, ◌∙◌, ap, subst, arith, append_assoc, length-append}
use Rattle.std.specs.List.{All}
use Rattle.std.proofs.lemmas.Bool.{false≢true}
use Rattle.std.proofs.lemmas.List.{append-nil, append_cancel_left, length-take-le, take_all}
use Rattle.std.proofs.Math.Seq.{take-add}
use Rattle.rv_journal.specs.Cutter.{HasTakenLines, RefusesFront, RefusesOn}
use Rattle.rv_journal.specs.Faults.{IfRefused}
use Rattle.rv_journal.specs.Text.{before_zero, stored_lines, whole_lines, IsLines}
use Rattle.rv_journal.specs.declared.cutter.LineCutter.{LineCutter}
use Rattle.rv_journal.specs.declared.fault.OpenFault.{OpenFault}
use Rattle.rv_journal.proofs.Causes.{if_refused}
use Rattle.rv_journal.proofs.Lines.{Parts, parts, has_lf, lines_end, lines_only, more_lines, whole_lines-none}
use Rattle.rv_journal.proofs.Texts.{all_front, all_text, before_zero-behind, more_text, no_zero, positive}
use Rattle.rv_journal.proofs.Texts.{zero_stays}

-- the lines of a front are a front of the lines
pub lines_of_more : (file rest : List ℕ)
    → (more : List ℕ) × (stored_lines (file ++ rest) ≡ stored_lines file ++ more)
lines_of_more file rest =
    let text = more_text file rest in
    let lines = more_lines (before_zero file) text.0 in (lines.0, ap whole_lines text.1 ∙ lines.1)

-- a text, and what comes after it
pub behind_text : (text rest : List ℕ) → before_zero text ≡ text
    → before_zero (text ++ rest) ≡ text ++ before_zero rest
behind_text text rest is = before_zero-behind text rest (no_zero text is)

pub refuses_sooner : {R F : Type 0} (refuses : R → List ℕ → F → Type 0) (first : R) (file rest : List ℕ)
    (why : F) → RefusesFront refuses first (stored_lines file) why
    → RefusesFront refuses first (stored_lines (file ++ rest)) why
refuses_sooner refuses first file rest why is =
    let lines = lines_of_more file rest in record {
      front = is.front;
      whole_lines = is.whole_lines;
      more = is.more ++ lines.0;
      whole = sym (append_assoc is.front is.more lines.0) ∙ ap (λ (l : List ℕ). l ++ lines.0) is.whole
          ∙ sym lines.1;
      refused = is.refused;
    }

-- and of what goes on with them
pub refused_sooner : {R F : Type 0} (takes : R → List ℕ → R → Type 0) (refuses : R → List ℕ → F → Type 0)
    (piece whole rest : List ℕ) → piece ++ rest ≡ whole → (old : LineCutter) (was : R) (fault : OpenFault F)
    → IfRefused fault (RefusesOn takes refuses piece old was)
    → IfRefused fault (RefusesOn takes refuses whole old was)
refused_sooner takes refuses piece whole rest is old was fault =
    if_refused fault (RefusesOn takes refuses piece old was) (RefusesOn takes refuses whole old was)
    (λ why refused first front had. subst (λ (l : List ℕ). RefusesFront refuses first (stored_lines l) why)
    (append_assoc front piece rest ∙ ap (λ (l : List ℕ). front ++ l) is)
    (refuses_sooner refuses first (front ++ piece) rest why (refused first front had)))

module _ {R : Type 0} (takes : R → List ℕ → R → Type 0) (first : R) (front : List ℕ) (cutter : LineCutter)
    (was : R) (had : HasTakenLines takes first front cutter was) where
  -- once a zero came, no more counts
  pub after_zero : (piece : List ℕ) → cutter.ended ≡ true
      → HasTakenLines takes first (front ++ piece) cutter was
  after_zero piece ended =
      let same : before_zero (front ++ piece) ≡ before_zero front = zero_stays front piece
      (had.cut.zero ended) in
      let lines : stored_lines (front ++ piece) ≡ stored_lines front = ap whole_lines same in record {
        cut = record {
          end = had.cut.end ∙ ap length (sym lines);
          text = λ going. absurd (false≢true (sym going ∙ ended));
          rest = λ going. absurd (false≢true (sym going ∙ ended));
          zero = λ _. omega (arith, ap length same, had.cut.zero ended, length-append front piece);
        };
        lines = subst (λ (l : List ℕ). takes first l was) (sym lines) had.lines;
      }

  module _ (going : cutter.ended ≡ false) (lines : List ℕ) (is : IsLines lines) (text : All (λ byte. 0 < byte)
      lines) where
    is_text : before_zero (front ++ lines) ≡ front ++ lines
    is_text = behind_text front lines (had.cut.text going) ∙ ap (λ (l : List ℕ). front ++ l)
        (all_text lines text)

    handed : (stored_lines front ++ (cutter.rest.items ++ lines)) ≡ front ++ lines
    handed = sym (append_assoc (stored_lines front) cutter.rest.items lines)
        ∙ ap (λ (l : List ℕ). l ++ lines) (had.cut.rest going)

    module _ (some : 0 < length lines) where
      stored : stored_lines (front ++ lines) ≡ front ++ lines
      stored = ap whole_lines is_text ∙ lines_end front lines is some

      -- they and the rest before them are whole lines
      pub rest_lines : IsLines (cutter.rest.items ++ lines)
      rest_lines = lines_end cutter.rest.items lines is some

      pub lines_taken : (joined : (old mid new : R) (l m : List ℕ) → IsLines l → takes old l mid → takes mid m
          new
          → takes old (l ++ m) new) (now : R) → takes was (cutter.rest.items ++ lines) now
          → (new : LineCutter) → new.end ≡ cutter.end + length (cutter.rest.items ++ lines)
          → new.rest.items ≡ []
          → new.ended ≡ cutter.ended → HasTakenLines takes first (front ++ lines) new now
      lines_taken joined now took new end rest same = record {
        cut = record {
          end = omega (
            arith,
            end,
            had.cut.end,
            length-append (stored_lines front) (cutter.rest.items ++ lines),
            ap length (handed ∙ sym stored),
          );
          text = λ _. is_text;
          rest = λ _. ap (λ (l : List ℕ). stored_lines (front ++ lines) ++ l) rest
              ∙ append-nil (stored_lines (front ++ lines)) ∙ stored;
          zero = λ ended. absurd (false≢true (sym (same ∙ going) ∙ ended));
        };
        lines = subst (λ (l : List ℕ). takes first l now) (handed ∙ sym stored)
            (joined first was now (stored_lines front) (cutter.rest.items ++ lines)
            (lines_only (before_zero front)) had.lines took);
      }

      pub lines_refused : {F : Type 0} (refuses : R → List ℕ → F → Type 0) (joined : (old mid : R)
          (l m : List ℕ)
          (why : F) → IsLines l → takes old l mid → refuses mid m why → refuses old (l ++ m) why) (why : F)
          → refuses was (cutter.rest.items ++ lines) why
          → RefusesFront refuses first (stored_lines (front ++ lines)) why
      lines_refused refuses joined why refused = record {
        front = stored_lines front ++ (cutter.rest.items ++ lines);
        whole_lines = subst (λ (l : List ℕ). IsLines l) (sym handed)
            (ap (λ (l : List ℕ). whole_lines l) (sym stored) ∙ lines_only (before_zero (front ++ lines))
            ∙ stored);
        more = [];
        whole = append-nil (stored_lines front ++ (cutter.rest.items ++ lines)) ∙ handed ∙ sym stored;
        refused = joined first was (stored_lines front) (cutter.rest.items ++ lines) why
            (lines_only (before_zero front)) had.lines refused;
      }

-- where the lines of a piece end, and its text
module _ (piece : List ℕ) (lines text : ℕ) (below : lines ≤ text) (is_lines : take lines piece ≡
    stored_lines piece) (is_text : take text piece ≡ before_zero piece) where
  cut_text : Parts (before_zero piece)
  cut_text = parts (before_zero piece)

  pub piece_lines : IsLines (take lines piece)
  piece_lines = subst (λ (l : List ℕ). IsLines l) (sym is_lines) (lines_only (before_zero piece))

  joins : take lines piece ++ take (text - lines) (drop lines piece) ≡ before_zero piece
  joins =
      let back : lines + (text - lines) ≡ text = omega (arith, below) in
      sym (take-add lines (text - lines) piece) ∙ ap (λ (n : ℕ). take n piece) back ∙ is_text

  is_late : take (text - lines) (drop lines piece) ≡ cut_text.end
  is_late = append_cancel_left (stored_lines piece) (take (text - lines) (drop lines piece)) cut_text.end
      (ap (λ (l : List ℕ). l ++ take (text - lines) (drop lines piece)) (sym is_lines) ∙ joins
      ∙ cut_text.split)

  pub piece_text : All (λ byte. 0 < byte) (take lines piece)
  piece_text = subst (λ (l : List ℕ). All (λ byte. 0 < byte) l) (sym is_lines) (all_front (stored_lines piece)
      cut_text.end (subst (λ (l : List ℕ). All (λ byte. 0 < byte) l) cut_text.split (positive piece)))

  module _ {R : Type 0} (takes : R → List ℕ → R → Type 0) (first : R) (front : List ℕ) (mid : LineCutter)
      (now : R) (had : HasTakenLines takes first (front ++ take lines piece) mid now) (going :
      mid.ended ≡ false)
    where
      front_text : before_zero front ≡ front
      front_text = all_text front (all_front front (take lines piece) (no_zero (front ++ take lines piece)
          (had.cut.text going)))

      is_all : before_zero (front ++ piece) ≡ front ++ before_zero piece
      is_all = behind_text front piece front_text

      grown : (front ++ take lines piece) ++ take (text - lines) (drop lines piece) ≡ front ++ before_zero
          piece
      grown = append_assoc front (take lines piece) (take (text - lines) (drop lines piece))
          ∙ ap (λ (l : List ℕ). front ++ l) joins

      same_lines : stored_lines (front ++ piece) ≡ stored_lines (front ++ take lines piece)
      same_lines = ap whole_lines (is_all ∙ sym grown)
          ∙ whole_lines-none (front ++ take lines piece) (take (text - lines) (drop lines piece))
          (ap has_lf is_late ∙ cut_text.no_lf)
          ∙ ap whole_lines (sym (had.cut.text going))

      to_end : length piece ≤ text → before_zero piece ≡ piece
      to_end whole = sym is_text ∙ take_all text piece whole

      pub piece_taken : (new : LineCutter) → new.end ≡ mid.end
          → new.rest.items ≡ mid.rest.items ++ take (text - lines) (drop lines piece)
          → (new.ended ≡ false → length piece ≤ text) → (new.ended ≡ true → text < length piece)
          → text ≤ length piece → HasTakenLines takes first (front ++ piece) new now
      piece_taken new end rest whole short inside = record {
        cut = record {
          end = end ∙ had.cut.end ∙ ap length (sym same_lines);
          text = λ goes. is_all ∙ ap (λ (l : List ℕ). front ++ l) (to_end (whole goes));
          rest = λ goes. ap (λ (l : List ℕ). l ++ new.rest.items) same_lines
              ∙ ap (λ (l : List ℕ). stored_lines (front ++ take lines piece) ++ l) rest
              ∙ sym (append_assoc (stored_lines (front ++ take lines piece)) mid.rest.items
              (take (text - lines) (drop lines piece)))
              ∙ ap (λ (l : List ℕ). l ++ take (text - lines) (drop lines piece)) (had.cut.rest going) ∙ grown
              ∙ ap (λ (l : List ℕ). front ++ l) (to_end (whole goes));
          zero = λ ended. omega (
            arith,
            short ended,
            ap length is_all,
            length-append front (before_zero piece),
            length-append front piece,
            ap length is_text,
            length-take-le text piece inside,
          );
        };
        lines = subst (λ (l : List ℕ). takes first l now) (sym same_lines) had.lines;
      }
