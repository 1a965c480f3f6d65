-- A scan for the end of the last line before the first zero.
use Rattle.std.proofs.Common.{◌≡◌, ◌≢◌, ℕ, ◌+◌, ◌<◌, List, [], ◌∷◌, ◌++◌, length, get_or, take, drop, sym}
use Rattle.std.proofs.Common.{◌∙◌, ap, arith, take-append-drop}
use Rattle.std.specs.List.{All}
use Rattle.std.proofs.lemmas.List.{get_or-drop, take_more, append-nil}
use Rattle.rv_journal.specs.Text.{before_zero, whole_lines, stored_lines}
use Rattle.rv_journal.proofs.Texts.{before_zero-behind, none_before}
use Rattle.rv_journal.proofs.Lines.{whole_lines-lf, whole_lines-other}

pub text_ends : (bytes : List ℕ) (i : ℕ) → All (λ byte. 0 < byte) (take i bytes) → get_or bytes i 0 ≡ 0
    → before_zero bytes ≡ take i bytes
text_ends bytes i all is_zero =
    let at_i : i + 0 ≡ i = omega arith in
    ap before_zero (sym (take-append-drop i bytes)) ∙ before_zero-behind (take i bytes) (drop i bytes) all
    ∙ ap (λ (l : List ℕ). take i bytes ++ l) (none_before (drop i bytes) (get_or-drop i bytes 0 0
    ∙ ap (λ (n : ℕ). get_or bytes n 0) at_i ∙ is_zero)) ∙ append-nil (take i bytes)

pub stops : (bytes : List ℕ) (i end : ℕ) → All (λ byte. 0 < byte) (take i bytes) → get_or bytes i 0 ≡ 0
    → take end bytes ≡ whole_lines (take i bytes) → take end bytes ≡ stored_lines bytes
stops bytes i end all is_zero so_far = so_far ∙ ap whole_lines (sym (text_ends bytes i all is_zero))

pub at_lf : (bytes : List ℕ) (i : ℕ) → i < length bytes → get_or bytes i 0 ≡ 10
    → take (i + 1) bytes ≡ whole_lines (take (i + 1) bytes)
at_lf bytes i low is_lf =
    let more : take (i + 1) bytes ≡ take i bytes ++ 10 ∷ [] = take_more bytes i 0 low
    ∙ ap (λ (b : ℕ). take i bytes ++ b ∷ []) is_lf in
    more ∙ sym (whole_lines-lf (take i bytes)) ∙ ap whole_lines (sym more)

pub at_other : (bytes : List ℕ) (i end : ℕ) → i < length bytes → get_or bytes i 0 ≢ 10
    → take end bytes ≡ whole_lines (take i bytes) → take end bytes ≡ whole_lines (take (i + 1) bytes)
at_other bytes i end low other so_far =
    so_far ∙ sym (whole_lines-other (take i bytes) (get_or bytes i 0) other) ∙ ap whole_lines
    (sym (take_more bytes i 0 low))
