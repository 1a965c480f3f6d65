-- Bytes that lack one, piece after piece.
use Rattle.std.proofs.Common.{◌≡◌, ◌≢◌, ◌∙◌, ◌++◌, ℕ, List, take, drop, length, slice_index_or}
use Rattle.std.proofs.Common.{false, eqb, ap, sym, arith}
use Rattle.std.specs.List.{All, AllWithin}
use Rattle.std.proofs.lemmas.Bool.{eqb-false}
use Rattle.std.proofs.lemmas.List.{take-append-drop, append_assoc}
use Rattle.std.proofs.lemmas.List.Elements.{All-append}
use Rattle.rv_book.specs.lines.Pieces.{BehindLacking}

-- after a further piece, of n bytes, in which no byte is this one
pub behind_piece : (n byte : ℕ) (bytes rest piece after : List ℕ) → BehindLacking byte bytes rest
    → piece ≡ take n rest → after ≡ drop n rest
    → AllWithin (λ b. eqb b byte ≡ false) piece 0 (length piece)
    → BehindLacking byte bytes after
behind_piece n byte bytes rest piece after (front, parts, lacks) is_piece is_after absent =
    let split = take-append-drop n rest in
    let whole : piece ++ after ≡ rest = cc in
    let lacking : All (λ b. b ≢ byte) piece = λ k d inside. eqb-false (slice_index_or piece k d) byte
    (absent k d (omega arith) inside) in (
      front ++ piece,
      parts ∙ ap (λ r. front ++ r) (sym whole) ∙ sym (append_assoc front piece after),
      All-append (λ b. b ≢ byte) front piece lacks lacking,
    )
