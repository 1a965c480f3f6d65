-- The compact text of a list of texts, and of an object of flat members, is read back.
use Rattle.std.proofs.Common.{◌≡◌, ℕ, ◌≤◌, List, [], ◌∷◌, ◌++◌, map, Option, option_map, option_and_then}
use Rattle.std.proofs.Common.{Some, true, false, refl, sym, ap, ◌∙◌, arith, append_assoc, append-nil}
use Rattle.json.specs.Token.{Token}
use Rattle.json.specs.Json as json
use Rattle.json.specs.Lex.{tokens}
use Rattle.json.specs.Print.{quoted}
use Rattle.json.specs.Tree as tree
use Rattle.json.proofs.Printed.Decimals.{IsNumber-decimal}
use Rattle.json.proofs.Printed.Tokens.{tokens-print}
use Rattle.json.proofs.Printed.Trees.{ArePrintable-json_tokens, value-json_tokens}
use Rattle.serde_json.specs.Data.{Data, array, number, object, item, string, Members, no_members, member, put}
use Rattle.serde_json.specs.Read.{of_json, of_items, of_members, read, max_depth}
use Rattle.serde_json.specs.View.{items_of}
use Rattle.serde_json.specs.Written.{outline, items_outline, members_outline, compact_text, members_text}
use Rattle.serde_json.proofs.Numbers.{number_of-decimal}
use Rattle.serde_json.proofs.Texts.{print-outline}
use Rattle.rv_json.specs.declared.flat.Plain.{Plain}
use Rattle.rv_json.specs.declared.flat.Plain.TheVariants.{Whole, Text, Texts}
use Rattle.rv_json.specs.declared.flat.FlatMember.{FlatMember}
use Rattle.rv_json.specs.Flat.{plain_data, put_each, flat_members}
use Rattle.rv_json.specs.Listed.{list_of, texts_read}
use Rattle.rv_json.specs.Pair.{pair_text}
use Rattle.rv_json.specs.Scan.{plain_text, field_text, each_text, FitsPlain, FitEach}
use Rattle.rv_json.proofs.FewTexts.{texts_read_of}

-- the value of a text that has been read
abbrev data_of : Option (json.Json × List Token) → Option Data
data_of found = option_and_then of_json (option_and_then (λ p. json.if_last p.0 p.1) found)

-- a text is read as what its value makes
read_again : (d e : Data) → tree.HasNumbers (outline d) → tree.depth (outline d) ≤ 3
    → of_json (outline d) ≡ Some e → read (compact_text d) ≡ Some e
read_again d e numbers shallow again =
    let written = outline d in
    let printed : tokens (compact_text d) ≡ tree.json_tokens written =
    ap tokens (sym (print-outline d)) ∙ tokens-print (tree.json_tokens written)
    (ArePrintable-json_tokens written numbers) in
    let parsed = value-json_tokens written max_depth [] (omega (arith, shallow)) in
    ap data_of (ap (json.value max_depth) (printed ∙ sym (append-nil (tree.json_tokens written))) ∙ parsed)
    ∙ again

-- ---- a list of texts

texts_numbers : (texts : List (List ℕ)) → tree.ItemsHaveNumbers (items_outline (items_of (map string texts)))
texts_numbers [] = tt
texts_numbers (s ∷ texts) = (tt, texts_numbers texts)

texts_again : (texts : List (List ℕ))
    → of_items (items_outline (items_of (map string texts))) ≡ Some (items_of (map string texts))
texts_again [] = refl
texts_again (s ∷ texts) = ap (option_map (item (string s))) (texts_again texts)

texts_shallow : (texts : List (List ℕ)) → tree.items_depth (items_outline (items_of (map string texts))) ≤ 0
texts_shallow [] = omega arith
texts_shallow (s ∷ texts) = omega (arith, texts_shallow texts)

pub list_again : (texts : List (List ℕ)) → read (compact_text (list_of texts)) ≡ Some (list_of texts)
list_again texts = read_again (list_of texts) (list_of texts) (texts_numbers texts)
    (omega (arith, texts_shallow texts)) (ap (option_map array) (texts_again texts))

-- ---- the value of a flat member

value_text : (p : Plain) → FitsPlain p → plain_text p ≡ compact_text (plain_data p)
value_text (Whole n) h = refl
value_text (Text s) h = refl
value_text (Texts s) h =
    h.text ∙ ap (λ texts. compact_text (list_of texts))
    (sym (texts_read_of s.now h.texts h.few (ap read h.text ∙ list_again h.texts)))

value_numbers : (p : Plain) → FitsPlain p → tree.HasNumbers (outline (plain_data p))
value_numbers (Whole n) h = IsNumber-decimal n h
value_numbers (Text s) h = tt
value_numbers (Texts s) h = texts_numbers (texts_read s.now)

value_shallow : (p : Plain) → tree.depth (outline (plain_data p)) ≤ 1
value_shallow (Whole n) = omega arith
value_shallow (Text s) = omega arith
value_shallow (Texts s) = omega (arith, texts_shallow (texts_read s.now))

value_again : (p : Plain) → FitsPlain p → of_json (outline (plain_data p)) ≡ Some (plain_data p)
value_again (Whole n) h = ap (option_map number) (number_of-decimal n h)
value_again (Text s) h = refl
value_again (Texts s) h = ap (option_map array) (texts_again (texts_read s.now))

-- ---- flat members

-- as they stand in the text: a name may stand twice
abbrev written_each : List FlatMember → Members
written_each [] = no_members
written_each (f ∷ fs) = member f.name.now (plain_data f.value) (written_each fs)

numbers_each : (fs : List FlatMember) → FitEach fs
    → tree.MembersHaveNumbers (members_outline (written_each fs))
numbers_each [] h = tt
numbers_each (f ∷ fs) h = (value_numbers f.value h.0, numbers_each fs h.1)

shallow_each : (fs : List FlatMember) → tree.members_depth (members_outline (written_each fs)) ≤ 1
shallow_each [] = omega arith
shallow_each (f ∷ fs) = omega (arith, value_shallow f.value, shallow_each fs)

again_each : (fs : List FlatMember) (old : Members) → FitEach fs
    → of_members (members_outline (written_each fs)) old ≡ Some (put_each fs old)
again_each [] old h = refl
again_each (f ∷ fs) old h =
    ap (option_and_then (λ d. of_members (members_outline (written_each fs)) (put f.name.now d old)))
    (value_again f.value h.0)
    ∙ again_each fs (put f.name.now (plain_data f.value) old) h.1

-- ---- their text

field_printed : (f : FlatMember) (rest : List ℕ) → FitsPlain f.value
    → field_text f ++ rest ≡ quoted f.name.now ++ 58 ∷ (compact_text (plain_data f.value) ++ rest)
field_printed f rest fits =
    append_assoc (quoted f.name.now) (58 ∷ plain_text f.value) rest
    ∙ ap (λ t. quoted f.name.now ++ 58 ∷ (t ++ rest)) (value_text f.value fits)

with_comma : (fs : List FlatMember) (f : FlatMember) → members_text true (written_each (fs ++ f ∷ []))
    ≡ 44 ∷ members_text false (written_each (fs ++ f ∷ []))
with_comma [] f = refl
with_comma (g ∷ fs) f = refl

printed_each : (fs : List FlatMember) (f : FlatMember) → FitEach (fs ++ f ∷ [])
    → each_text fs ++ (field_text f ++ 125 ∷ []) ≡ members_text false (written_each (fs ++ f ∷ []))
printed_each [] f h = field_printed f (125 ∷ []) h.0
printed_each (g ∷ fs) f h =
    append_assoc (field_text g) (44 ∷ each_text fs) (field_text f ++ 125 ∷ [])
    ∙ ap (λ l. field_text g ++ l) (ap (λ l. 44 ∷ l) (printed_each fs f h.1) ∙ sym (with_comma fs f))
    ∙ field_printed g (members_text true (written_each (fs ++ f ∷ []))) h.0

-- the text is that of a value of two levels at most, and is read as this one
pub record Makes (text : List ℕ) (value : Data) : Type 0 where
  pub written : Data
  pub is : text ≡ compact_text written
  pub numbers : tree.HasNumbers (outline written)
  pub shallow : tree.depth (outline written) ≤ 2
  pub again : of_json (outline written) ≡ Some value

pub makes_read : (text : List ℕ) (value : Data) → Makes text value → read text ≡ Some value
makes_read text value m =
    ap read m.is ∙ read_again m.written value m.numbers (omega (arith, m.shallow)) m.again

-- the whole text
pub flat_makes : (fs : List FlatMember) (f : FlatMember) (text : List ℕ) → FitEach (fs ++ f ∷ [])
    → text ≡ 123 ∷ (each_text fs ++ (field_text f ++ 125 ∷ []))
    → Makes text (object (flat_members (fs ++ f ∷ [])))
flat_makes fs f text fit is =
    let all = fs ++ f ∷ [] in
    record {
      written = object (written_each all);
      is = is ∙ ap (λ l. 123 ∷ l) (printed_each fs f fit);
      numbers = numbers_each all fit;
      shallow = omega (arith, shallow_each all);
      again = ap (option_map object) (again_each all no_members fit);
    }

pub flat_text : (fs : List FlatMember) (f : FlatMember) (text : List ℕ) → FitEach (fs ++ f ∷ [])
    → text ≡ 123 ∷ (each_text fs ++ (field_text f ++ 125 ∷ []))
    → read text ≡ Some (object (flat_members (fs ++ f ∷ [])))
flat_text fs f text fit is =
    makes_read text (object (flat_members (fs ++ f ∷ []))) (flat_makes fs f text fit is)

-- ---- two texts, each after its name

behind_name : (name text rest : List ℕ) (written : Data) → text ≡ compact_text written
    → (quoted name ++ (58 ∷ text)) ++ rest ≡ quoted name ++ 58 ∷ (compact_text written ++ rest)
behind_name name text rest written is =
    append_assoc (quoted name) (58 ∷ text) rest ∙ ap (λ t. quoted name ++ 58 ∷ (t ++ rest)) is

module _ (first one second other : List ℕ) (value next : Data) (m : Makes one value) (n : Makes other next)
  where
    abbrev written_pair : Members
    written_pair = member first m.written (member second n.written no_members)

    abbrev both : Members
    both = put second next (put first value no_members)

    printed_pair : pair_text first one second other ≡ compact_text (object written_pair)
    printed_pair =
        ap (λ l. 123 ∷ ((quoted first ++ (58 ∷ one)) ++ (44 ∷ l)))
        (behind_name second other (125 ∷ []) n.written n.is)
        ∙ ap (λ l. 123 ∷ l)
        (behind_name first one
        (44 ∷ (quoted second ++ 58 ∷ (compact_text n.written ++ 125 ∷ []))) m.written m.is)

    pair_again : of_json (outline (object written_pair)) ≡ Some (object both)
    pair_again =
        ap (λ o. option_map object (option_and_then (λ d. of_members
        (members_outline (member second n.written no_members)) (put first d no_members)) o)) m.again
        ∙ ap (λ o. option_map object (option_and_then (λ d. Some (put second d (put first value
        no_members))) o)) n.again

    pub pair_read : (text : List ℕ) → text ≡ pair_text first one second other
        → read text ≡ Some (object (put second next (put first value no_members)))
    pair_read text is =
        ap read (is ∙ printed_pair)
        ∙ read_again (object written_pair) (object both) (m.numbers, (n.numbers, tt))
        (omega (arith, m.shallow, n.shallow)) pair_again
