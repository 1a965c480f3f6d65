-- From what an object's readers answer to what a decoder promises of the bytes.
use Rattle.std.proofs.Common.{◌≡◌, ℕ, List, map, Some, Result, Ok, Err}
use Rattle.std.proofs.Common.{◌≤◌, length, arith, refl, sym, ap, ◌∙◌, inl, inr}
use Rattle.std.proofs.lemmas.List.{length-map}
use Rattle.std.proofs.lemmas.Option.{same_Some}
use Rattle.serde_json.specs.Data.{object, Members}
use Rattle.serde_json.specs.Events.{members_len}
use Rattle.rv_json.specs.Sorted.{IsSorted}
use Rattle.rv_json.specs.declared.fault.TextFault.{TextFault}
use Rattle.rv_json.specs.declared.fault.TextFault.TheVariants.{NotJson, NotMessage, NoMemory}
use Rattle.rv_text.specs.Bodies.{HasBodyLength, IsBody, Decodes}
use Rattle.rv_text.specs.Members.{Field, field_of, members_of, object_of}
use Rattle.rv_text.specs.Laws.{AtMostOne}
use Rattle.rv_json.specs.Alone.{IsAlone, IsAloneIn, HasNone, FindsIn}
use Rattle.rv_text.specs.Reading.{Shape, form_of}
use Rattle.rv_text.proofs.Steps.{IsReader}
use Rattle.rv_text.proofs.Objects.{with_fields-found, found-with_fields}
use Rattle.rv_text.proofs.Objects.{members_len-with_fields, members_len-found}

module _ (A : Type 0) (shape : Shape A) (reader : IsReader A shape) where
  abbrev fields_of : A → List Field
  fields_of x = map field_of (shape.row x)

  -- in the object with its row a value within the limits is alone
  IsAlone-members_of : (x : A) → shape.Fits x → IsAlone A (form_of shape) (members_of (shape.row x)) x
  IsAlone-members_of x fits =
      let distinct = (reader.sound x).distinct in
      record {
        found = reader.finds (members_of (shape.row x)) x fits (found-with_fields (fields_of x) distinct)
            (reader.lacks x);
        whole = members_len-with_fields (fields_of x) distinct ∙ length-map (shape.row x) field_of;
        fits = fits;
      }

  -- what is found among members has no more than they are
  pub has_each : (ms : Members) (x : A) → IsSorted ms → shape.found ms ≡ Some x
      → length (shape.row x) ≤ members_len ms
  has_each ms x sorted found =
      omega (
        arith,
        length-map (shape.row x) field_of,
        members_len-found (fields_of x) ms sorted (reader.sound x).distinct
            (reader.has ms x found),
      )

  -- where a value is alone, the object is that of its row
  alone_object : (ms : Members) (x : A) → IsSorted ms → IsAlone A (form_of shape) ms x
      → object ms ≡ object_of (shape.row x)
  alone_object ms x sorted alone =
      ap object (with_fields-found (fields_of x) ms sorted
      (reader.sound x).distinct
      (reader.has ms x alone.found) (alone.whole ∙ sym (length-map (shape.row x) field_of)))

  -- each value is found again in its object
  pub at_most_one : AtMostOne (IsBody shape.row shape.Fits)
  at_most_one bytes x y p q =
      let same : Some (object_of (shape.row x)) ≡ Some (object_of (shape.row y)) = sym p.1.1 ∙ q.1.1 in
      let members : members_of (shape.row x) ≡ members_of (shape.row y) = cc in
      same_Some _ _ (sym (IsAlone-members_of x p.2).found ∙ ap shape.found members
      ∙ (IsAlone-members_of y q.2).found)

  -- what the bytes read as is the object of the row of what is alone in it
  body_of : (bytes : List ℕ) (x : A) → HasBodyLength bytes → IsAloneIn A (form_of shape) bytes x
      → IsBody shape.row shape.Fits bytes x
  body_of bytes x long alone = (
    long,
    (alone.reads.0, alone.reads.1 ∙ ap Some (alone_object alone.members x alone.sorted alone.alone)),
    alone.alone.fits,
  )

  -- bytes that have a body hold no object in which nothing is alone
  has_some : (bytes : List ℕ) (x : A) → IsBody shape.row shape.Fits bytes x
      → HasNone A (form_of shape) bytes → ⊥
  has_some bytes x body has =
      let same : Some has.value ≡ Some (object_of (shape.row x)) = sym has.reads.1 ∙ body.1.1 in
      has.none (members_of (shape.row x)) (same_Some _ _ same) x (IsAlone-members_of x body.2)

  module _ (bytes : List ℕ) where
    abbrev Is : A → Type 0
    Is = IsBody shape.row shape.Fits bytes

    abbrev Right : Result A TextFault → Type 0
    Right answer = Decodes A (IsBody shape.row shape.Fits) bytes answer

    -- what is found among the members is what the bytes are the body of
    pub decodes : (answer : Result A TextFault) → FindsIn (form_of shape) bytes answer → Right answer
    decodes (Ok x) h =
        let body : Is x = body_of bytes x h.0 h.1 in
        record {
          found = body;
          only = λ y other. inl (ap Ok (at_most_one bytes x y body other));
          length_first = λ short. absurd (short h.0);
          not_json = λ e. absurd (let no : ⊥ = cc in no);
          json_first = λ unread long. absurd (unread _ h.1.reads);
          not_message = λ e. absurd (let no : ⊥ = cc in no);
          is_json = λ e. absurd (let no : ⊥ = cc in no);
        }
    decodes (Err NotJson) h =
        record {
          found = tt;
          only = λ y other. absurd (h.1 _ other.1);
          length_first = λ short. absurd (short h.0);
          not_json = λ e. h;
          json_first = λ unread long. inl refl;
          not_message = λ e. absurd (let no : ⊥ = cc in no);
          is_json = λ e. absurd (let no : ⊥ = cc in no);
        }
    decodes (Err NotMessage) h =
        record {
          found = tt;
          only = λ y other. absurd (has_some bytes y other (h other.0));
          length_first = λ short. refl;
          not_json = λ e. absurd (let no : ⊥ = cc in no);
          json_first = λ unread long. absurd (let has = h long in unread has.value has.reads);
          not_message = λ e y other. has_some bytes y other (h other.0);
          is_json = λ e long unread. let has = h long in unread has.value has.reads;
        }
    decodes (Err NoMemory) h =
        record {
          found = tt;
          only = λ y other. inr refl;
          length_first = λ short. absurd (short h);
          not_json = λ e. absurd (let no : ⊥ = cc in no);
          json_first = λ unread long. inr refl;
          not_message = λ e. absurd (let no : ⊥ = cc in no);
          is_json = λ e. absurd (let no : ⊥ = cc in no);
        }
