-- Laws of the lines of the book's input.
use Rattle.std.specs.Prelude.{ℕ, List, ◌≡◌}
use Rattle.rv_text.specs.declared.message.Message.{Message}
use Rattle.rv_run.specs.turns.Lines.{ReadsLine}

-- a line is read as one moment and one message at most
abbrev pub OneReading : Type 0
OneReading = (line : List ℕ) (t u : ℕ) (m n : Message) → ReadsLine line t m → ReadsLine line u n
    → (t ≡ u) × (m ≡ n)
