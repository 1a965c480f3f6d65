-- The text that is written of a member, and the body that it is.
use Rattle.std.proofs.Common.{◌≡◌, ◌∙◌, ◌≤◌, ◌∷◌, [], ℕ, List, Bool, true, false, Option, Some, None, map}
use Rattle.std.proofs.Common.{Ordering, Less, Equal, Greater, refl, sym, ap, subst, arith, nat_cmp, String}
use Rattle.std.proofs.Common.{Global}
use Rattle.std.proofs.Common.{string_bytes}
use Rattle.std.proofs.lemmas.Option.{same_Some}
use Rattle.std.specs.Prelude.{◌||◌}
use Rattle.std.specs.Cmp.Lexicographic.{slice_cmp}
use Rattle.std.specs.Ordering.{match_ordering}
use Rattle.serde_json.specs.Data.{Data, Members, member, members_depth, no_members, depth, put, string}
use Rattle.serde_json.specs.Data.{object}
use Rattle.serde_json.specs.Find.{get_member}
use Rattle.serde_json.specs.Read.{max_depth, read}
use Rattle.serde_json.specs.View.{items_of}
use Rattle.serde_json.specs.Written.{compact_text, has_float, items_have_float, members_have_float}
use Rattle.rv_text.specs.declared.call.Wait.{Wait}
use Rattle.rv_text.specs.declared.call.Wait.TheVariants.{Forever, Millis, Now}
use Rattle.rv_text.specs.Members.{Member, field_of, item_text, item_texts, object_of, wait_time, wait_value}
use Rattle.rv_text.specs.Members.{whole, with_fields, word}
use Rattle.rv_replies.specs.Reading.{HasMemberText, IsTextOf}

-- ---- a member lies no deeper than its object

found_depth : (o : Ordering) (e d : Data) (ms : Members) (rest : Option Data)
    → (rest ≡ Some d → depth d ≤ members_depth ms) → match_ordering o rest (Some e) rest ≡ Some d
    → depth d ≤ members_depth (member [] e ms)
found_depth Less e d ms rest later is = omega (arith, later is)
found_depth Equal e d ms rest later is = omega (arith, ap depth (same_Some _ _ is))
found_depth Greater e d ms rest later is = omega (arith, later is)

pub depth_found : (name : List ℕ) (ms : Members) (d : Data) → get_member name ms ≡ Some d
    → depth d ≤ members_depth ms
depth_found name no_members d is = absurd (let no : ⊥ = cc in no)
depth_found name (member l e ms) d is =
    found_depth (slice_cmp nat_cmp name l) e d ms (get_member name ms) (depth_found name ms d) is

-- ---- no body has a number with a point

or_false : (a b : Bool) → a ≡ false → b ≡ false → (a || b) ≡ false
or_false true b first second = first
or_false false b first second = second

first_false : (a b : Bool) → (a || b) ≡ false → a ≡ false
first_false true b is = is
first_false false b is = refl

second_false : (a b : Bool) → (a || b) ≡ false → b ≡ false
second_false true b is = absurd (let no : ⊥ = cc in no)
second_false false b is = is

put_at : (o : Ordering) (k : List ℕ) (d : Data) (l : List ℕ) (e : Data) (ms placed : Members)
    → has_float d ≡ false → members_have_float (member l e ms) ≡ false → members_have_float placed ≡ false
    → members_have_float (match_ordering o (member k d (member l e ms)) (member l d ms) (member l e placed))
    ≡ false
put_at Less k d l e ms placed own others later = or_false (has_float d) _ own others
put_at Equal k d l e ms placed own others later =
    or_false (has_float d) _ own (second_false (has_float e) _ others)
put_at Greater k d l e ms placed own others later =
    or_false (has_float e) _ (first_false (has_float e) _ others) later

put_whole : (k : List ℕ) (d : Data) (ms : Members) → has_float d ≡ false → members_have_float ms ≡ false
    → members_have_float (put k d ms) ≡ false
put_whole k d no_members own others = or_false (has_float d) false own refl
put_whole k d (member l e ms) own others =
    put_at (slice_cmp nat_cmp k l) k d l e ms (put k d ms) own others
    (put_whole k d ms own (second_false (has_float e) _ others))

texts_whole : (texts : List (List ℕ)) → items_have_float (items_of (map string texts)) ≡ false
texts_whole [] = refl
texts_whole (text ∷ texts) = texts_whole texts

wait_whole : (wait : Wait) → has_float (wait_value wait) ≡ false
wait_whole Now = refl
wait_whole (Millis millis) = refl
wait_whole Forever = refl

member_whole : (m : Member) → has_float (field_of m).1 ≡ false
member_whole (word name bytes) = refl
member_whole (whole name limit n) = refl
member_whole (item_text name bytes) = refl
member_whole (item_texts name texts) = texts_whole texts
member_whole (wait_time name wait) = wait_whole wait

row_whole : (row : List Member) (ms : Members) → members_have_float ms ≡ false
    → members_have_float (with_fields (map field_of row) ms) ≡ false
row_whole [] ms others = others
row_whole (m ∷ row) ms others =
    row_whole row (put (field_of m).0 (field_of m).1 ms)
    (put_whole (field_of m).0 (field_of m).1 ms (member_whole m) others)

-- ---- the text of a member that is a body's object

module _ (name : List ℕ) (ms : Members) where
  -- none is written where no member is
  pub no_text : (text : Option (String Global)) → text ≡ None → HasMemberText (get_member name ms) text
      → (d : Data)
      → get_member name ms ≡ Some d → ⊥
  no_text text none has d is =
      let left : HasMemberText (get_member name ms) None = subst (HasMemberText (get_member name ms)) none has
      in
      let nothing : HasMemberText (Some d) None = subst (λ o. HasMemberText o None) is left in
      nothing

  text_of_some : (o : Option Data) (text : String Global) → get_member name ms ≡ o
      → HasMemberText o (Some text)
      → (d : Data) × (get_member name ms ≡ Some d) × IsTextOf d (string_bytes text)
  text_of_some None text is has = absurd has
  text_of_some (Some d) text is has = (d, is, has)

  -- the text of a member reads as it
  pub text_reads : (text : String Global) → HasMemberText (get_member name ms) (Some text)
      → depth (object ms) ≤ max_depth → (value : Data) → read (string_bytes text) ≡ Some value
      → get_member name ms ≡ Some value
  text_reads text has shallow value reads =
      let there = text_of_some (get_member name ms) text refl has in
      let low : depth there.0 ≤ max_depth = omega (arith, depth_found name ms there.0 there.1) in
      there.1 ∙ sym (there.2.reads_back low) ∙ reads

  -- that of a body's object is its compact text
  pub text_is : (text : String Global) → HasMemberText (get_member name ms) (Some text) → (row : List Member)
      → get_member name ms ≡ Some (object_of row) → string_bytes text ≡ compact_text (object_of row)
  text_is text has row is =
      let its : IsTextOf (object_of row) (string_bytes text) = subst (λ o. HasMemberText o (Some text)) is has
      in
      its.compact (row_whole row no_members refl)
