-- The text of a list, one text after another.
use Rattle.std.proofs.Common.{◌≡◌, ℕ, ◌-◌, ◌<◌, ◌≤◌, List, [], ◌∷◌, ◌++◌, length, map, take, drop, get_or}
use Rattle.std.proofs.Common.{true, false, refl, sym, ap, ◌∙◌, arith, append_assoc, append-nil, length-append}
use Rattle.std.proofs.Common.{length-drop}
use Rattle.std.proofs.lemmas.List.{drop_all}
use Rattle.std.proofs.Math.Seq.{take-append_seam}
use Rattle.json.specs.Print.{quoted}
use Rattle.serde_json.specs.Data.{string}
use Rattle.serde_json.specs.Read.{read}
use Rattle.serde_json.specs.View.{items_of}
use Rattle.serde_json.specs.Written.{compact_text, items_text}
use Rattle.rv_json.specs.Listed.{list_of, texts_read}
use Rattle.rv_json.specs.Scan.{IsListText, BeginsByList}
use Rattle.rv_json.proofs.FewTexts.{texts_read_of}
use Rattle.rv_json.proofs.ReadBack.{list_again}

-- each with a comma after it
abbrev pub each_quoted : List (List ℕ) → List ℕ
each_quoted [] = []
each_quoted (s ∷ texts) = quoted s ++ (44 ∷ each_quoted texts)

quoted_push : (texts : List (List ℕ)) (s : List ℕ)
    → each_quoted (texts ++ s ∷ []) ≡ each_quoted texts ++ (quoted s ++ 44 ∷ [])
quoted_push [] s = refl
quoted_push (t ∷ texts) s = ap (λ l. quoted t ++ (44 ∷ l)) (quoted_push texts s)
    ∙ sym (append_assoc (quoted t) (44 ∷ each_quoted texts) (quoted s ++ 44 ∷ []))

with_comma : (texts : List (List ℕ)) (s : List ℕ) → items_text true (items_of (map string (texts ++ s ∷ [])))
    ≡ 44 ∷ items_text false (items_of (map string (texts ++ s ∷ [])))
with_comma [] s = refl
with_comma (t ∷ texts) s = refl

closed : (texts : List (List ℕ)) (s : List ℕ)
    → each_quoted texts ++ (quoted s ++ 93 ∷ []) ≡ items_text false (items_of (map string (texts ++ s ∷ [])))
closed [] s = refl
closed (t ∷ texts) s =
    append_assoc (quoted t) (44 ∷ each_quoted texts) (quoted s ++ 93 ∷ [])
    ∙ ap (λ l. quoted t ++ l) (ap (λ l. 44 ∷ l) (closed texts s) ∙ sym (with_comma texts s))

module _ (bytes : List ℕ) (texts : List (List ℕ)) (s here after : List ℕ) where
  -- a text more, with its comma
  pub text_more : bytes ≡ each_quoted texts ++ here → here ≡ quoted s ++ (44 ∷ after)
      → bytes ≡ each_quoted (texts ++ s ∷ []) ++ after
  text_more before is =
      before
      ∙ ap (λ l. each_quoted texts ++ l) (is ∙ sym (append_assoc (quoted s) (44 ∷ []) after))
      ∙ sym (append_assoc (each_quoted texts) (quoted s ++ 44 ∷ []) after)
      ∙ ap (λ l. l ++ after) (sym (quoted_push texts s))

  -- the last one, with the bracket
  pub text_last : bytes ≡ each_quoted texts ++ here → here ≡ quoted s ++ (93 ∷ after)
      → 91 ∷ bytes ≡ compact_text (list_of (texts ++ s ∷ [])) ++ after
  text_last before is =
      ap (λ l. 91 ∷ l)
      (before
      ∙ ap (λ l. each_quoted texts ++ l) (is ∙ sym (append_assoc (quoted s) (93 ∷ []) after))
      ∙ sym (append_assoc (each_quoted texts) (quoted s ++ 93 ∷ []) after)
      ∙ ap (λ l. l ++ after) (closed texts s))

-- the texts that a compact text is read as
pub compact_read : (text : List ℕ) (texts : List (List ℕ)) → length texts ≤ 16
    → text ≡ compact_text (list_of texts) → texts_read text ≡ texts
compact_read text texts few is = texts_read_of text texts few (ap (λ t. read t) is ∙ list_again texts)

pub opened : (text : List ℕ) → get_or text 0 0 ≡ 91 → text ≡ 91 ∷ drop 1 text
opened [] is = absurd (let no : ⊥ = omega (arith, is) in no)
opened (x ∷ text) is = ap (λ y. y ∷ text) is

-- a text whose last one ends it is read as its texts
pub whole_read : (text : List ℕ) (texts : List (List ℕ)) (s here : List ℕ) (after : ℕ)
    → text ≡ 91 ∷ drop 1 text → drop 1 text ≡ each_quoted texts ++ here → length texts < 16
    → here ≡ quoted s ++ (93 ∷ drop after text) → after ≡ length text → texts_read text ≡ texts ++ s ∷ []
whole_read text texts s here after opens before few is ends =
    let all = texts ++ s ∷ [] in
    let none : drop after text ≡ [] = drop_all after text (omega arith) in
    compact_read text all (omega (arith, length-append texts (s ∷ [])))
    (opens ∙ text_last (drop 1 text) texts s here (drop after text) before is
    ∙ ap (λ rest. compact_text (list_of all) ++ rest) none ∙ append-nil (compact_text (list_of all)))

-- the range of a text in the one around it
pub own_range : (d own : List ℕ) (at end : ℕ) → at ≤ end → end ≤ length d → drop at d ≡ own ++ drop end d
    → take (end - at) (drop at d) ≡ own
own_range d own at end le within begins =
    let long : end - at ≡ length own = omega (
      arith,
      ap (λ l. length l) begins,
      length-append own (drop end d),
      length-drop at d,
      length-drop end d,
    ) in
    ap (take (end - at)) begins ∙ ap (λ n. take n (own ++ drop end d)) long
    ∙ take-append_seam own (drop end d)

-- that of a list
pub list_range : (d : List ℕ) (at end : ℕ) → at ≤ end → end ≤ length d
    → BeginsByList (drop at d) (drop end d) → IsListText (take (end - at) (drop at d))
list_range d at end le within begins = record {
  texts = begins.texts;
  few = begins.few;
  text = own_range d (compact_text (list_of begins.texts)) at end le within begins.text;
}
