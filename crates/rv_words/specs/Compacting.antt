-- The words of `rv compact`.
use Rattle.std.specs.Prelude.{codes, List, Some, true, [], ◌∷◌, ◌≡◌}
use Rattle.clap.specs.Words.{App, Text, fault_of, first_of, matches_of, new_app, new_rule, with_rule}
use Rattle.clap.specs.declared.builder.ArgAction.TheVariants.{Set}
use Rattle.rv_words.specs.Beginning.{BeginWithout}

abbrev pub folder_word : Text
folder_word = codes "FOLDER"

-- `compact FOLDER`, as `clap` reads it
abbrev pub compact_app : App
compact_app = with_rule (new_app (codes "compact"))
    (record (new_rule folder_word) { action = Some Set; required = true })

-- `clap` finds no fault in the words from `compact` on, and this is the value that they give
pub record SaysFolder (own : List Text) (folder : Text) : Type 0 where
  pub taken : fault_of compact_app own ≡ []
  pub value : first_of folder_word (matches_of compact_app own) ≡ Some folder

-- after the program's name comes `compact`, and the words from there on name this folder
pub record NamesCompact (words : List Text) (folder : Text) : Type 0 where
  pub name : Text
  pub rest : List Text
  pub words_are : words ≡ name ∷ codes "compact" ∷ rest
  pub own : SaysFolder (codes "compact" ∷ rest) folder

abbrev pub NamesNoFolder : List Text → Type 0
NamesNoFolder words = (folder : Text) → ¬ NamesCompact words folder

-- the word after the program's name isn't `compact`, or there is none
abbrev pub BeginsNoCompact : List Text → Type 0
BeginsNoCompact = BeginWithout (codes "compact")
