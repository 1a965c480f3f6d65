-- What a line of the book's input says.
use Rattle.std.specs.Prelude.{ℕ, List, ◌∷◌, ◌++◌, ◌≡◌}
use Rattle.rv_text.specs.declared.message.Message.{Message}
use Rattle.rv_text.specs.Bodies.{HasBodyLength, IsMessageBody}
pub use Rattle.rv_book.specs.lines.Lines.{lines}
use Rattle.rv_text.specs.Number.{IsDigits, WritesNumber}

-- the line is the digits of a moment, one space (32) and a body of the message
pub record ReadsLine (line : List ℕ) (moment : ℕ) (message : Message) : Type 0 where
  pub digits : List ℕ
  pub body : List ℕ
  pub parts : line ≡ digits ++ 32 ∷ body
  pub says_moment : WritesNumber digits moment
  pub says_message : IsMessageBody body message

-- the line is the digits of a moment, one space (32) and bytes of a body's length
pub record HasForm (line : List ℕ) : Type 0 where
  pub digits : List ℕ
  pub body : List ℕ
  pub parts : line ≡ digits ++ 32 ∷ body
  pub are_digits : IsDigits digits
  pub is_long : HasBodyLength body

-- no moment and message are read from the line
abbrev pub IsBadLine : List ℕ → Type 0
IsBadLine line = (moment : ℕ) (message : Message) → ¬ ReadsLine line moment message
