-- Words that begin as those of a record.
use Rattle.std.proofs.Common.{◌≡◌, ◌≤◌, ◌-◌, ◌∷◌, [], Bor, List, arith, codes, drop, length, slice_index_or}
use Rattle.std.proofs.Common.{sym, take}
use Rattle.std.proofs.lemmas.List.{take_rest}
use Rattle.clap.specs.Words.{Text}
use Rattle.clap.specs.Walk.{texts}

pub record_words : (words : List (Bor Text)) (d : Bor Text) → 4 ≤ length words
    → (slice_index_or words 1 d).now ≡ codes "record" → (slice_index_or words 2 d).now ≡ codes "--to"
    → (name : Text) × (texts words ≡ name ∷ codes "record" ∷ codes "--to" ∷ (slice_index_or words 3 d).now
    ∷ texts (take (length words - 4) (drop 4 words)))
record_words [] d long record_is to_is = absurd (omega (arith, long))
record_words (a ∷ []) d long record_is to_is = absurd (omega (arith, long))
record_words (a ∷ b ∷ []) d long record_is to_is = absurd (omega (arith, long))
record_words (a ∷ b ∷ c ∷ []) d long record_is to_is = absurd (omega (arith, long))
record_words (a ∷ b ∷ c ∷ e ∷ rest) d long record_is to_is =
    let whole : rest ≡ take (length (a ∷ b ∷ c ∷ e ∷ rest) - 4) rest = sym
    (take_rest (a ∷ b ∷ c ∷ e ∷ rest) 4) in
    (a.now, λ i. a.now ∷ record_is i ∷ to_is i ∷ e.now ∷ texts (whole i))
