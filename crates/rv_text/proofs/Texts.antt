-- The text of an object of whole numbers, texts and lists of texts is UTF-8, and is read back as that object.
use Rattle.std.proofs.Common.{◌≡◌, ℕ, ◌^◌, ◌<◌, ◌≤◌, List, [], ◌∷◌, ◌++◌, map, Bool, true, false, Option}
use Rattle.std.proofs.Common.{Some, option_map, option_and_then, IsUtf8, refl, sym, ap, ◌∙◌, subst, arith}
use Rattle.std.proofs.Common.{append-nil}
use Rattle.std.proofs.lemmas.Fmt.{IsAscii-decimal}
use Rattle.std.proofs.lemmas.List.Elements.{recursion_from_All}
use Rattle.std.proofs.lemmas.Str.{IsUtf8-append, IsUtf8-from_ascii}
use Rattle.std.specs.List.{All, AllByRecursion}
use Rattle.json.specs.Token.{Token}
use Rattle.json.specs.Json as json
use Rattle.json.specs.Lex.{tokens}
use Rattle.json.specs.Print.{quoted}
use Rattle.json.specs.Tree as tree
use Rattle.json.proofs.Printed.Decimals.{IsNumber-decimal}
use Rattle.json.proofs.Printed.Tokens.{tokens-print}
use Rattle.json.proofs.Printed.Trees.{ArePrintable-json_tokens, value-json_tokens}
use Rattle.json.proofs.Printed.Utf8.{IsUtf8-are_ascii, IsUtf8-quoted}
use Rattle.serde_json.specs.Data.{unsigned, negative, float, Data, null, boolean, number, string, array}
use Rattle.serde_json.specs.Data.{object, item, Members, no_members, member, put}
use Rattle.serde_json.specs.Read.{of_json, of_items, of_members, read, max_depth}
use Rattle.serde_json.specs.View.{items_of}
use Rattle.serde_json.specs.Written.{outline, items_outline, members_outline, comma_if, compact_text}
use Rattle.serde_json.specs.Written.{items_text, members_text}
use Rattle.serde_json.proofs.Numbers.{number_of-decimal}
use Rattle.serde_json.proofs.Texts.{print-outline}
use Rattle.rv_text.proofs.Objects.{AllMembers}
use Rattle.rv_text.proofs.Sizes.{IsFlat, IsFlatMember}

-- ---- reading back

texts_numbers : (texts : List (List ℕ)) → tree.ItemsHaveNumbers (items_outline (items_of (map string texts)))
texts_numbers [] = tt
texts_numbers (s ∷ texts) = (tt, texts_numbers texts)

value_numbers : (d : Data) → IsFlat d → tree.HasNumbers (outline d)
value_numbers (number (unsigned n)) h = IsNumber-decimal n h
value_numbers (string s) h = tt
value_numbers (number (negative z)) h = absurd h
value_numbers (number (float x)) h = absurd h
value_numbers null h = absurd h
value_numbers (boolean b) h = absurd h
value_numbers (array ds) h = subst (λ es. tree.ItemsHaveNumbers (items_outline es)) (sym h.1)
    (texts_numbers h.0)
value_numbers (object ms) h = absurd h

members_numbers : (ms : Members) → AllMembers IsFlatMember ms → tree.MembersHaveNumbers (members_outline ms)
members_numbers no_members h = tt
members_numbers (member k d ms) h = (value_numbers d h.0, members_numbers ms h.1)

texts_again : (texts : List (List ℕ)) → of_items (items_outline (items_of (map string texts))) ≡ Some
    (items_of (map string texts))
texts_again [] = refl
texts_again (s ∷ texts) = ap (option_map (item (string s))) (texts_again texts)

value_again : (d : Data) → IsFlat d → of_json (outline d) ≡ Some d
value_again (number (unsigned n)) h = ap (option_map number) (number_of-decimal n h)
value_again (string s) h = refl
value_again (number (negative z)) h = absurd h
value_again (number (float x)) h = absurd h
value_again null h = absurd h
value_again (boolean b) h = absurd h
value_again (array ds) h = ap (option_map array) (subst (λ es. of_items (items_outline es) ≡ Some es)
    (sym h.1) (texts_again h.0))
value_again (object ms) h = absurd h

-- the members, put in one after another
abbrev pub put_all : Members → Members → Members
put_all no_members found = found
put_all (member k d ms) found = put_all ms (put k d found)

members_again : (ms found : Members) → AllMembers IsFlatMember ms
    → of_members (members_outline ms) found ≡ Some (put_all ms found)
members_again no_members found h = refl
members_again (member k d ms) found h =
    ap (option_and_then (λ e. of_members (members_outline ms) (put k e found))) (value_again d h.0)
    ∙ members_again ms (put k d found) h.1

texts_shallow : (texts : List (List ℕ)) → tree.items_depth (items_outline (items_of (map string texts))) ≤ 0
texts_shallow [] = omega arith
texts_shallow (s ∷ texts) = omega (arith, texts_shallow texts)

value_shallow : (d : Data) → IsFlat d → tree.depth (outline d) ≤ 1
value_shallow (number (unsigned n)) h = omega arith
value_shallow (string s) h = omega arith
value_shallow (number (negative z)) h = absurd h
value_shallow (number (float x)) h = absurd h
value_shallow null h = absurd h
value_shallow (boolean b) h = absurd h
value_shallow (array ds) h = subst (λ es. tree.depth (outline (array es)) ≤ 1) (sym h.1)
    (omega (arith, texts_shallow h.0))
value_shallow (object ms) h = absurd h

members_shallow : (ms : Members) → AllMembers IsFlatMember ms → tree.members_depth (members_outline ms) ≤ 1
members_shallow no_members h = omega arith
members_shallow (member k d ms) h = omega (arith, value_shallow d h.0, members_shallow ms h.1)

-- the value of a text that has been read
abbrev data_of : Option (json.Json × List Token) → Option Data
data_of found = option_and_then of_json (option_and_then (λ p. json.if_last p.0 p.1) found)

-- an object that its own members make again is read back from its text
pub read-compact_text : (ms : Members) → AllMembers IsFlatMember ms → put_all ms no_members ≡ ms
    → read (compact_text (object ms)) ≡ Some (object ms)
read-compact_text ms flat again =
    let written = outline (object ms) in
    let printed : tokens (compact_text (object ms)) ≡ tree.json_tokens written =
    ap tokens (sym (print-outline (object ms))) ∙ tokens-print (tree.json_tokens written)
    (ArePrintable-json_tokens written (members_numbers ms flat)) in
    let parsed = value-json_tokens written max_depth [] (omega (arith, members_shallow ms flat)) in
    ap data_of (ap (json.value max_depth) (printed ∙ sym (append-nil (tree.json_tokens written))) ∙ parsed)
    ∙ ap (option_map object) (members_again ms no_members flat ∙ ap Some again)

-- ---- UTF-8

abbrev pub IsTextValue : Data → Type 0
IsTextValue (number (unsigned n)) = n < 2 ^ 64
IsTextValue (string s) = IsUtf8 s
IsTextValue (number (negative z)) = ⊥
IsTextValue (number (float x)) = ⊥
IsTextValue null = ⊥
IsTextValue (boolean b) = ⊥
IsTextValue (array ds) = (texts : List (List ℕ)) × (ds ≡ items_of (map string texts)) × All IsUtf8 texts
IsTextValue (object ms) = ⊥

-- the name and the value are UTF-8
abbrev pub IsTextMember : List ℕ → Data → Type 0
IsTextMember name value = IsUtf8 name × IsTextValue value

comma_utf8 : (later : Bool) → IsUtf8 (comma_if later)
comma_utf8 true = IsUtf8-are_ascii (44 ∷ []) refl
comma_utf8 false = IsUtf8-are_ascii [] refl

texts_utf8 : (later : Bool) (texts : List (List ℕ)) → AllByRecursion IsUtf8 texts
    → IsUtf8 (items_text later (items_of (map string texts)))
texts_utf8 later [] h = IsUtf8-are_ascii (93 ∷ []) refl
texts_utf8 later (s ∷ texts) h =
    let rest = items_text true (items_of (map string texts)) in
    IsUtf8-append (comma_if later) (quoted s ++ rest) (comma_utf8 later) (IsUtf8-append (quoted s) rest
    (IsUtf8-quoted s h.0) (texts_utf8 true texts h.1))

list_utf8 : (texts : List (List ℕ)) → All IsUtf8 texts
    → IsUtf8 (compact_text (array (items_of (map string texts))))
list_utf8 texts h =
    let each = recursion_from_All IsUtf8 texts h in
    IsUtf8-append (91 ∷ []) (items_text false (items_of (map string texts))) (IsUtf8-are_ascii (91 ∷ []) refl)
    (texts_utf8 false texts each)

value_utf8 : (d : Data) → IsTextValue d → IsUtf8 (compact_text d)
value_utf8 (number (unsigned n)) h = IsUtf8-from_ascii _ (IsAscii-decimal n h)
value_utf8 (string s) h = IsUtf8-quoted s h
value_utf8 (number (negative z)) h = absurd h
value_utf8 (number (float x)) h = absurd h
value_utf8 null h = absurd h
value_utf8 (boolean b) h = absurd h
value_utf8 (array ds) h = subst (λ es. IsUtf8 (compact_text (array es))) (sym h.1) (list_utf8 h.0 h.2)
value_utf8 (object ms) h = absurd h

members_utf8 : (later : Bool) (ms : Members) → AllMembers IsTextMember ms → IsUtf8 (members_text later ms)
members_utf8 later no_members h = IsUtf8-are_ascii (125 ∷ []) refl
members_utf8 later (member k d ms) h =
    let rest = compact_text d ++ members_text true ms in
    let value = IsUtf8-append (compact_text d) (members_text true ms) (value_utf8 d h.0.1)
    (members_utf8 true ms h.1) in
    IsUtf8-append (comma_if later) (quoted k ++ 58 ∷ rest) (comma_utf8 later)
    (IsUtf8-append (quoted k) (58 ∷ rest) (IsUtf8-quoted k h.0.0) (IsUtf8-append (58 ∷ []) rest
    (IsUtf8-are_ascii (58 ∷ []) refl) value))

pub IsUtf8-compact_text : (ms : Members) → AllMembers IsTextMember ms → IsUtf8 (compact_text (object ms))
IsUtf8-compact_text ms h = IsUtf8-append (123 ∷ []) (members_text false ms) (IsUtf8-are_ascii (123 ∷ []) refl)
    (members_utf8 false ms h)
