-- The members that `serde_json` reads where a flat object's text has these, one after another.
use Rattle.std.specs.Prelude.{List, [], ◌∷◌}
use Rattle.serde_json.specs.View.{members_view}
use Rattle.rv_json.specs.declared.members.Members.{Members as Object}
use Rattle.rv_json.specs.declared.members.Members.TheVariants.{Flat, Tree}
use Rattle.serde_json.specs.Data.{Data, number, unsigned, string, Members, no_members, put}
use Rattle.rv_json.specs.declared.flat.Plain.{Plain}
use Rattle.rv_json.specs.declared.flat.Plain.TheVariants.{Whole, Text, Texts}
use Rattle.rv_json.specs.declared.flat.FlatMember.{FlatMember}
use Rattle.rv_json.specs.Listed.{list_of, texts_read}

abbrev pub plain_data : Plain → Data
plain_data (Whole n) = number (unsigned n)
plain_data (Text s) = string s.now
plain_data (Texts s) = list_of (texts_read s.now)

-- each of them put in; if a name occurs twice, its last value counts
abbrev pub put_each : List FlatMember → Members → Members
put_each [] ms = ms
put_each (f ∷ fs) ms = put_each fs (put f.name.now (plain_data f.value) ms)

abbrev pub flat_members : List FlatMember → Members
flat_members fs = put_each fs no_members

-- the members of an object, be they flat or a map
abbrev pub seen : Object → Members
seen (Flat fields) = flat_members fields.now
seen (Tree map) = members_view map.entries
