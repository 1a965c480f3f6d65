-- Words that begin by a command's name.
use Rattle.std.proofs.Common.{◌≡◌, ◌≤◌, ◌<◌, ◌-◌, ◌∷◌, ◌∙◌, [], Bor, List, ap, arith, drop, length}
use Rattle.std.proofs.Common.{slice_index_or, take}
use Rattle.std.proofs.lemmas.List.{take_rest}
use Rattle.clap.specs.Words.{Text}
use Rattle.clap.specs.Walk.{texts}
use Rattle.rv_words.specs.Beginning.{BeginWithout}

pub begin_by : (word : Text) (words : List (Bor Text)) (d : Bor Text) → 2 ≤ length words
    → (slice_index_or words 1 d).now ≡ word
    → (name : Text) × (rest : List Text) × (texts words ≡ name ∷ word ∷ rest)
    × (texts (take (length words - 1) (drop 1 words)) ≡ word ∷ rest)
begin_by word [] d long is = absurd (omega (arith, long))
begin_by word (a ∷ []) d long is = absurd (omega (arith, long))
begin_by word (a ∷ b ∷ rest) d long is = (
  a.now,
  texts rest,
  λ i. a.now ∷ is i ∷ texts rest,
  (λ i. texts (take_rest (a ∷ b ∷ rest) 1 i)) ∙ (λ i. is i ∷ texts rest),
)

pub two_words : (word : Text) (words : List (Bor Text)) (d : Bor Text) → 2 ≤ length words → length words < 3
    → (slice_index_or words 1 d).now ≡ word
    → (name : Text) × (texts words ≡ name ∷ word ∷ [])
two_words word [] d long short is = absurd (omega (arith, long))
two_words word (a ∷ []) d long short is = absurd (omega (arith, long))
two_words word (a ∷ b ∷ []) d long short is = (a.now, λ i. a.now ∷ is i ∷ [])
two_words word (a ∷ b ∷ c ∷ rest) d long short is = absurd (omega (arith, short))

pub begin_otherwise : (word : Text) (words : List (Bor Text)) (d : Bor Text)
    → (1 < length words → ¬ ((slice_index_or words 1 d).now ≡ word)) → BeginWithout word (texts words)
begin_otherwise word [] d other name rest same = absurd (omega (arith, ap length same))
begin_otherwise word (a ∷ []) d other name rest same = absurd (omega (arith, ap length same))
begin_otherwise word (a ∷ b ∷ more) d other name rest same =
    other (omega arith) (ap (λ (ts : List Text). slice_index_or ts 1 []) same)
