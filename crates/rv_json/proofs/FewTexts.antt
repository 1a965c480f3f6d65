-- Lists of at most 16 texts.
use Rattle.std.proofs.Common.{◌≡◌, ℕ, suc, ◌≤◌, List, [], ◌∷◌, length, map, Bool, true, false, true≢false}
use Rattle.std.proofs.Common.{if◌then◌else◌, Option, Some, None, unwrap_or, refl, sym, ap, ◌∙◌, arith}
use Rattle.std.specs.Prelude.{nat_le}
use Rattle.std.proofs.lemmas.Bool.{leb-true, le-leb}
use Rattle.serde_json.specs.Data.{Data, null, boolean, number, string, array, object, Items, no_items, item}
use Rattle.serde_json.specs.Events.{items_len}
use Rattle.serde_json.specs.Find.{as_str}
use Rattle.serde_json.specs.Read.{read}
use Rattle.serde_json.specs.View.{items_of}
use Rattle.rv_json.specs.Listed.{◌>>=◌, texts_of, texts_in, list_of, texts_read}

as_many : (texts : List (List ℕ)) → items_len (items_of (map string texts)) ≡ length texts
as_many [] = refl
as_many (s ∷ texts) = ap suc (as_many texts)

each_is_one : (texts : List (List ℕ)) → texts_of (items_of (map string texts)) ≡ Some texts
each_is_one [] = refl
each_is_one (s ∷ texts) = ap (λ rest. rest >>= λ later. Some (s ∷ later)) (each_is_one texts)

if_few : (few : Bool) (values : Items) → few ≡ true → (if few then Some values else None) ≡ Some values
if_few true values is = refl
if_few false values is = absurd (true≢false (sym is))

-- a list of few texts has these
pub texts_in_list : (texts : List (List ℕ)) → length texts ≤ 16 → texts_in (Some (list_of texts)) ≡ Some texts
texts_in_list texts few =
    let values = items_of (map string texts) in
    ap (λ found. found >>= texts_of) (if_few (nat_le (items_len values) 16) values (le-leb (items_len values)
    16
    (omega (arith, as_many texts, few))))
    ∙ each_is_one texts

-- the texts that a text is read as
pub texts_read_of : (text : List ℕ) (texts : List (List ℕ)) → length texts ≤ 16
    → read text ≡ Some (list_of texts) → texts_read text ≡ texts
texts_read_of text texts few is =
    ap (λ found. unwrap_or (texts_in found) []) is ∙ ap (λ found. unwrap_or found [])
    (texts_in_list texts few)

-- ---- what is read has few

no_more : (first : Option (List ℕ)) (later : Option (List (List ℕ))) (n : ℕ)
    → length (unwrap_or later []) ≤ n
    → length (unwrap_or (first >>= λ text. later >>= λ texts. Some (text ∷ texts)) []) ≤ suc n
no_more None later n h = omega arith
no_more (Some text) None n h = omega arith
no_more (Some text) (Some texts) n h = omega (arith, h)

texts_of_no_more : (values : Items) → length (unwrap_or (texts_of values) []) ≤ items_len values
texts_of_no_more no_items = omega arith
texts_of_no_more (item d values) = no_more (as_str d) (texts_of values) (items_len values)
    (texts_of_no_more values)

if_few_no_more : (few : Bool) (values : Items) → nat_le (items_len values) 16 ≡ few
    → length (unwrap_or ((if few then Some values else None) >>= texts_of) []) ≤ 16
if_few_no_more true values is = omega (arith, texts_of_no_more values, leb-true (items_len values) 16 is)
if_few_no_more false values is = omega arith

few_read : (found : Option Data) → length (unwrap_or (texts_in found) []) ≤ 16
few_read None = omega arith
few_read (Some null) = omega arith
few_read (Some (boolean b)) = omega arith
few_read (Some (number n)) = omega arith
few_read (Some (string s)) = omega arith
few_read (Some (array values)) = if_few_no_more (nat_le (items_len values) 16) values refl
few_read (Some (object ms)) = omega arith

-- so they are found in the list of them
pub read_texts_in_list : (text : List ℕ)
    → texts_in (Some (list_of (texts_read text))) ≡ Some (texts_read text)
read_texts_in_list text = texts_in_list (texts_read text) (few_read (read text))
