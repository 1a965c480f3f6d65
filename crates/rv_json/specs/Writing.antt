-- What is written of an object, one member after another.
use Rattle.std.specs.Prelude.{◌≡◌, ℕ, List, [], ◌∷◌, ◌++◌}
use Rattle.json.specs.Print.{print}
use Rattle.json.specs.Tree.{members_tokens}
use Rattle.serde_json.specs.Data.{Data, Members, member, object}
use Rattle.serde_json.specs.Written.{compact_text, members_outline}
use Rattle.rv_json.specs.declared.writer.ObjectText.{ObjectText}

-- the text of the whole object, if these members are all that is still to be written
unfoldable pub text_with : Members → ObjectText → List ℕ
text_with rest text = print (text.writer.tokens ++ members_tokens (members_outline rest))

-- no member was written yet
abbrev pub IsBlank : ObjectText → Type 0
IsBlank text = (members : Members) → text_with members text ≡ compact_text (object members)

-- these members, in their order, before the others
abbrev pub ahead_of : Members → List (List ℕ × Data) → Members
ahead_of rest [] = rest
ahead_of rest (field ∷ fields) = member field.0 field.1 (ahead_of rest fields)

-- the new text has these members after those of the old, in their order
abbrev pub Writes : List (List ℕ × Data) → ObjectText → ObjectText → Type 0
Writes fields old new = (rest : Members) → text_with rest new ≡ text_with (ahead_of rest fields) old
