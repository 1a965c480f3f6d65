-- The words of a run of calls that keeps a record.
use Rattle.std.specs.Prelude.{codes, List, ◌∷◌, ◌≡◌}
use Rattle.clap.specs.Words.{Text}

-- after the program's name come `record`, `--to`, this file, and then options: those of this call
pub record NamesRecord (words : List Text) (file : Text) (call : List Text) : Type 0 where
  pub name : Text
  pub options : List Text
  pub words_are : words ≡ name ∷ codes "record" ∷ codes "--to" ∷ file ∷ options
  pub call_is : call ≡ codes "rv" ∷ codes "call" ∷ options

abbrev pub NamesNoRecord : List Text → Type 0
NamesNoRecord words = (file : Text) (call : List Text) → ¬ NamesRecord words file call
