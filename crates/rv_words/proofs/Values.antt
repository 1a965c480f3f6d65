-- From what a getter of clap gives to the rows that the specs speak of.
use Rattle.std.proofs.Common.{◌≡◌, ◌∙◌, Bor, option_map, Option}
use Rattle.clap.proofs.WalkLemmas.{first_value-rows}
use Rattle.clap.specs.Words.{Text, first_of, first_value, rows_of}
use Rattle.clap.specs.declared.parser.matches.Found.{Found}

-- the value that `get_str` gives
pub value_in_rows : (f : Found) (name : Text) (value : Option (Bor Text))
    → option_map (λ v. v.now) value ≡ first_value f name
    → option_map (λ v. v.now) value ≡ first_of name (rows_of f)
value_in_rows f name value got = got ∙ first_value-rows f name
