-- Words that begin with a command's name.
use Rattle.std.specs.Prelude.{List, ◌∷◌, ◌≡◌}
use Rattle.clap.specs.Words.{Text}

-- the word after the program's name is another one, or there is none
abbrev pub BeginWithout : Text → List Text → Type 0
BeginWithout word words = (name : Text) (rest : List Text) → ¬ (words ≡ name ∷ word ∷ rest)
