-- The bytes of a body.
use Rattle.std.specs.Prelude.{ℕ, List, string_bytes}
use Rattle.rv_text.specs.Bodies.{HasBodyLength, refused_text}
use Rattle.rv_text.specs.declared.answer.Refusal as refusal
use Rattle.rv_run.specs.declared.turns.turn.LineBody.{LineBody}
use Rattle.rv_run.specs.declared.turns.turn.LineBody.TheVariants.{BadText, NoMemory, Text}

abbrev pub body_text : LineBody → List ℕ
body_text BadText = refused_text refusal.TheVariants.BadText
body_text NoMemory = refused_text refusal.TheVariants.NoMemory
body_text (Text text) = string_bytes text

-- a text of the book has a body's length
abbrev pub HasTextOfBody : LineBody → Type 0
HasTextOfBody BadText = Unit {0}
HasTextOfBody NoMemory = Unit {0}
HasTextOfBody (Text text) = HasBodyLength (string_bytes text)
