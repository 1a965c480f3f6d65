-- What stands after the first line of an input.
use Rattle.std.proofs.Common.{◌≡◌, ◌+◌, ◌-◌, ℕ, List, ◌∷◌, drop, length, length-append, arith, ap, sym}
use Rattle.std.proofs.Common.{inl, inr, subst, ◌∙◌}
use Rattle.std.proofs.Math.Seq.{drop-append-add, drop-length}
use Rattle.rv_book.specs.lines.Lines.{BeginsWithLine}

-- what stands after the first line is the end of the bytes
rest_is : (bytes line rest : List ℕ) → BeginsWithLine bytes line rest
    → drop (length bytes - length rest) bytes ≡ rest
rest_is bytes line rest cut = elim cut.parts [
  | inl p ↦ (
      let count : length bytes - length rest ≡ length line + 1 =
      omega (arith, ap length p, length-append line (10 ∷ rest)) in
      ap (λ n. drop n bytes) count ∙ ap (drop (length line + 1)) p ∙ drop-append-add line (10 ∷ rest) 1
      )
  | inr p ↦ (
      let count : length bytes - length rest ≡ length bytes = omega (arith, ap length p.1) in
      ap (λ n. drop n bytes) count ∙ drop-length bytes ∙ sym p.1
      )
]

-- the bytes that are kept of an input, so many as stand after its first line
pub kept_is : (input bytes line rest : List ℕ) (left : ℕ) → bytes ≡ input → left ≡ length rest
    → BeginsWithLine bytes line rest → drop (length input - left) input ≡ rest
kept_is input bytes line rest left same count cut =
    ap (λ n. drop (length input - n) input) count
    ∙ subst (λ l. drop (length l - length rest) l ≡ rest) same (rest_is bytes line rest cut)
