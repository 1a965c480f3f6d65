-- The words of `rv verify`.
use Rattle.std.specs.Prelude.{codes, List, Some, true, IsTrue, [], ◌∷◌, ◌≡◌, ◌≢◌, ◌↔◌, option_map}
use Rattle.clap.specs.Words.{App, Row, Rule, Text, fault_of, first_of, matches_of, new_app, new_rule}
use Rattle.clap.specs.Words.{with_rule}
use Rattle.clap.specs.declared.builder.ArgAction.TheVariants.{Set, SetTrue}
use Rattle.rv_words.specs.Beginning.{BeginWithout}
use Rattle.rv_words.specs.declared.verifying.VerifyWords.{VerifyWords}

-- a value that has to be given, with no option before it
abbrev pub file_rule : Rule
file_rule = record (new_rule (codes "FILE")) { action = Some Set; required = true }

-- `--replies FILE`, which may be left out
abbrev pub replies_rule : Rule
replies_rule = record (new_rule (codes "replies")) { long = Some (codes "replies"); action = Some Set }

-- `--follow`, which has no value
abbrev pub follow_rule : Rule
follow_rule = record (new_rule (codes "follow")) { long = Some (codes "follow"); action = Some SetTrue }

-- `verify FILE --replies FILE`, as `clap` reads it
abbrev pub files_app : App
files_app = with_rule (with_rule (new_app (codes "verify")) file_rule) replies_rule

-- and `--follow`
abbrev pub verify_app : App
verify_app = with_rule files_app follow_rule

-- the values and the flag, by their rows, are these, and standard input isn't followed
pub record SaysVerify (rows : List Row) (v : VerifyWords) : Type 0 where
  pub file : first_of (codes "FILE") rows ≡ Some v.file.now
  pub replies : option_map (λ f. f.now) v.replies ≡ first_of (codes "replies") rows
  pub follow : IsTrue v.follow ↔ (first_of (codes "follow") rows ≡ Some (codes "true"))
  pub no_input : IsTrue v.follow → v.file.now ≢ codes "-"

-- `clap` finds no fault in the words from `verify` on, and this is what they say
pub record ClapSays (own : List Text) (v : VerifyWords) : Type 0 where
  pub taken : fault_of verify_app own ≡ []
  pub says : SaysVerify (matches_of verify_app own) v

-- after the program's name comes `verify`, and the words from there on say this
pub record NamesVerify (words : List Text) (v : VerifyWords) : Type 0 where
  pub name : Text
  pub rest : List Text
  pub words_are : words ≡ name ∷ codes "verify" ∷ rest
  pub own : ClapSays (codes "verify" ∷ rest) v

abbrev pub NamesNoVerify : List Text → Type 0
NamesNoVerify words = (v : VerifyWords) → ¬ NamesVerify words v

-- the word after the program's name isn't `verify`, or there is none
abbrev pub BeginOtherwise : List Text → Type 0
BeginOtherwise = BeginWithout (codes "verify")
