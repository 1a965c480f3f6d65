-- The text of two flat objects, part by part.
use Rattle.std.proofs.Common.{◌≡◌, ℕ, ◌-◌, ◌≤◌, List, [], ◌∷◌, ◌++◌, length, take, drop}
use Rattle.std.proofs.Common.{IsUtf8, ap, ◌∙◌}
use Rattle.json.specs.Print.{quoted}
use Rattle.serde_json.specs.Data.{Data, object}
use Rattle.rv_json.specs.Flat.{flat_members}
use Rattle.rv_json.specs.Pair.{BeginsByFlat, IsFlatText, ReadsPair, object_text, pair_text}
use Rattle.rv_json.proofs.ListText.{own_range}
use Rattle.rv_json.proofs.ReadBack.{Makes, flat_makes, makes_read, pair_read}

-- the range of a flat object in the text around it
pub flat_range : (d : List ℕ) (at end : ℕ) → at ≤ end → end ≤ length d
    → BeginsByFlat (drop at d) (drop end d) → IsFlatText (take (end - at) (drop at d))
flat_range d at end le within begins = record {
  fields = begins.fields;
  last = begins.last;
  fit = begins.fit;
  text = own_range d (object_text begins.fields begins.last) at end le within begins.text;
}

-- the text of a pair, from one part to the next
pub pair_parts : (first one second other text inside comma next close rest : List ℕ)
    → text ≡ 123 ∷ inside → inside ≡ (quoted first ++ (58 ∷ one)) ++ comma → comma ≡ 44 ∷ next
    → next ≡ (quoted second ++ (58 ∷ other)) ++ close → close ≡ 125 ∷ rest → rest ≡ []
    → text ≡ pair_text first one second other
pair_parts first one second other text inside comma next close rest opens is parted then closes ends =
    opens
    ∙ ap (λ l. 123 ∷ l)
    (is ∙ ap (λ l. (quoted first ++ (58 ∷ one)) ++ l) (parted ∙ ap (λ l. 44 ∷ l)
    (then ∙ ap (λ l. (quoted second ++ (58 ∷ other)) ++ l) (closes ∙ ap (λ l. 125 ∷ l) ends))))

-- the value of a flat object
abbrev own_value : (text : List ℕ) → IsFlatText text → Data
own_value text flat = object (flat_members (flat.fields ++ flat.last ∷ []))

own_makes : (text : List ℕ) (flat : IsFlatText text) → Makes text (own_value text flat)
own_makes text flat = flat_makes flat.fields flat.last text flat.fit flat.text

-- two are read, each by itself and both together
pub reads_pair : (bytes first one second other : List ℕ) → IsUtf8 bytes → IsUtf8 one → IsUtf8 other
    → bytes ≡ pair_text first one second other → IsFlatText one → IsFlatText other
    → ReadsPair bytes first one second other
reads_pair bytes first one second other utf8 utf8_one utf8_other is flat next =
    let m = own_makes one flat in
    let n = own_makes other next in
    record {
      value = own_value one flat;
      next = own_value other next;
      reads_one = (utf8_one, makes_read one (own_value one flat) m);
      reads_other = (utf8_other, makes_read other (own_value other next) n);
      reads = (utf8, pair_read first one second other _ _ m n bytes is);
    }
