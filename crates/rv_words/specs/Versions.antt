-- The words of `rv version`, and the answer.
use Rattle.std.specs.Prelude.{codes, List, ℕ, [], ◌∷◌, ◌++◌, ◌≡◌}
use Rattle.clap.specs.Words.{Text}
use Rattle.rv_words.specs.declared.options.version.TheConstants.{VERSION}

-- the program's name and `version` alone
abbrev pub AsksVersion : List Text → Type 0
AsksVersion words = (name : Text) × (words ≡ name ∷ codes "version" ∷ [])

abbrev pub version_words : List ℕ
version_words = codes "rv " ++ VERSION.now
