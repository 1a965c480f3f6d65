-- What a read through the next LF gives.
use Rattle.std.proofs.Common.{◌≡◌, ◌≢◌, ◌⊎◌, ◌∷◌, ◌++◌, ◌∙◌, ℕ, List, [], cond, length, length-append}
use Rattle.std.proofs.Common.{Option, None, Some, IfSome}
use Rattle.std.proofs.Common.{refl, sym, ap, subst, eq-eqb, ne_eqb, inl, inr, arith, append_assoc}
use Rattle.std.specs.Io.BufRead.{drop_through, take_through}
use Rattle.std.proofs.lemmas.Bool.{cases_order}
use Rattle.std.proofs.lemmas.List.{same_from_push}
use Rattle.std.proofs.lemmas.List.Elements.{All-cons, All-nil}
use Rattle.rv_book.proofs.OfLines.Cutting.{Lacks, not_lacking}
use Rattle.rv_book.proofs.OfLines.OneLine.{line_append}
use Rattle.rv_verify.specs.Reading.{IsNext}
use Rattle.rv_verify.specs.declared.parts.NextPart.TheVariants as next

-- the bytes have a first LF (10), through which all is taken; or they have none
pub record Cut (bytes : List ℕ) : Type 0 where
  pub front : List ℕ
  pub lacks : Lacks 10 front
  pub taken : take_through 10 bytes ≡ front ++ 10 ∷ []
  pub parts : bytes ≡ front ++ 10 ∷ drop_through 10 bytes

pub record Uncut (bytes : List ℕ) : Type 0 where
  pub lacks : Lacks 10 bytes
  pub taken : take_through 10 bytes ≡ bytes
  pub left : drop_through 10 bytes ≡ []

cut_or_not : (bytes : List ℕ) → Cut bytes ⊎ Uncut bytes
cut_or_not [] = inr (record { lacks = All-nil (λ byte. byte ≢ 10); taken = refl; left = refl })
cut_or_not (x ∷ xs) = elim (cases_order x 10) [
  | inl same ↦ inl (record {
    front = [];
    lacks = All-nil (λ byte. byte ≢ 10);
    taken = ap (λ b. cond b (x ∷ []) (x ∷ take_through 10 xs)) (eq-eqb x 10 same) ∙ ap (λ n. n ∷ []) same;
    parts = ap (λ n. n ∷ xs) same
        ∙ ap (λ l. 10 ∷ l) (sym (ap (λ b. cond b xs (drop_through 10 xs)) (eq-eqb x 10 same)));
  })
  | inr differ ↦
      let other : x ≢ 10 = λ same. elim differ [
        | inl less ↦ omega (arith, less, same)
        | inr more ↦ omega (arith, more, same)
      ] in
      let no = ne_eqb x 10 other in
      elim (cut_or_not xs) [
        | inl cut ↦ inl (record {
          front = x ∷ cut.front;
          lacks = All-cons (λ byte. byte ≢ 10) x cut.front other cut.lacks;
          taken = ap (λ b. cond b (x ∷ []) (x ∷ take_through 10 xs)) no ∙ ap (λ l. x ∷ l) cut.taken;
          parts = ap (λ l. x ∷ l) cut.parts
              ∙ ap (λ l. x ∷ (cut.front ++ 10 ∷ l)) (sym (ap (λ b. cond b xs (drop_through 10 xs)) no));
        })
        | inr uncut ↦ inr (record {
          lacks = All-cons (λ byte. byte ≢ 10) x xs other uncut.lacks;
          taken = ap (λ b. cond b (x ∷ []) (x ∷ take_through 10 xs)) no ∙ ap (λ l. x ∷ l) uncut.taken;
          left = ap (λ b. cond b xs (drop_through 10 xs)) no ∙ uncut.left;
        })
      ]
]

-- after these bytes, which have no LF, what is taken through the next LF gives a line, a last piece or none
module _ (old xs read : List ℕ) (begun : Lacks 10 old) (is : read ≡ old ++ take_through 10 xs) where
  cut_there : (cut : Cut xs) → read ≡ (old ++ cut.front) ++ 10 ∷ []
  cut_there cut = is ∙ ap (λ l. old ++ l) cut.taken ∙ sym (append_assoc old cut.front (10 ∷ []))

  uncut_there : Uncut xs → read ≡ old ++ xs
  uncut_there uncut = is ∙ ap (λ l. old ++ l) uncut.taken

  pub line_next : (line : List ℕ) → read ≡ line ++ 10 ∷ []
      → IsNext (old ++ xs) (drop_through 10 xs) line next.Line
  line_next line ends = elim (cut_or_not xs) [
    | inl cut ↦
        let same : line ≡ old ++ cut.front =
        (same_from_push line (old ++ cut.front) 10 10 (sym ends ∙ cut_there cut)).0 in (
          ap (λ l. old ++ l) cut.parts ∙ sym (append_assoc old cut.front (10 ∷ drop_through 10 xs))
              ∙ ap (λ l. l ++ 10 ∷ drop_through 10 xs) (sym same),
          subst (Lacks 10) (sym same) (line_append old cut.front begun cut.lacks),
        )
    | inr uncut ↦
        absurd (not_lacking 10 line [] (subst (Lacks 10) (sym (uncut_there uncut) ∙ ends)
        (line_append old xs begun uncut.lacks)))
  ]

  pub piece_next : read ≢ [] → ((front : List ℕ) → read ≢ front ++ 10 ∷ [])
      → IsNext (old ++ xs) (drop_through 10 xs) read next.Piece
  piece_next some no_end = elim (cut_or_not xs) [
    | inl cut ↦ absurd (no_end (old ++ cut.front) (cut_there cut))
    | inr uncut ↦ (
      sym (uncut_there uncut),
      record {
        some = some;
        no_lf = subst (Lacks 10) (sym (uncut_there uncut)) (line_append old xs begun uncut.lacks);
      },
      uncut.left,
    )
  ]

  pub end_next : read ≡ [] → IsNext (old ++ xs) (drop_through 10 xs) read next.End
  end_next none = elim (cut_or_not xs) [
    | inl cut ↦
        let many = ap length (sym none ∙ cut_there cut) in
        absurd (omega (arith, many, length-append (old ++ cut.front) (10 ∷ [])))
    | inr uncut ↦ (sym (uncut_there uncut) ∙ none, none, uncut.left)
  ]

-- what holds of known bytes
pub known : (left : Option (List ℕ)) (Holds : List ℕ → Type 0) (bytes : List ℕ) → left ≡ Some bytes
    → IfSome left Holds → Holds bytes
known left Holds bytes is holds = subst (λ o. IfSome o Holds) is holds

pub known_or : (left : Option (List ℕ)) (Holds : List ℕ → Type 0)
    → ((bytes : List ℕ) → left ≡ Some bytes → Holds bytes) → IfSome left Holds
known_or None Holds told = tt
known_or (Some bytes) Holds told = told bytes refl
