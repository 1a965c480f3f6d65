-- The numbers that options give: the word of each, and its limits.
use Rattle.std.specs.Prelude.{codes, List, ℕ, Option, ◌≡◌}
use Rattle.std.specs.Int.{IsInRange}
use Rattle.std.specs.Str.Parse.{IsNumeral, digits_value, without_leading_plus}
use Rattle.std.specs.Option.{IsSomeAnd}
use Rattle.clap.specs.Words.{Row, Text, first_of}
use Rattle.rv_words.specs.declared.options.number.HostNumber.{HostNumber}
use Rattle.rv_words.specs.declared.options.number.HostNumber.TheVariants as number

abbrev pub option_word : HostNumber → Text
option_word number.Epoch = codes "epoch"
option_word number.EpochAbove = codes "epoch-above"
option_word number.Clients = codes "clients"
option_word number.Open = codes "open"
option_word number.Connections = codes "connections"
option_word number.ConnectionsFrom = codes "connections-from"
option_word number.Memory = codes "memory"
option_word number.Idle = codes "idle"
option_word number.Stall = codes "stall"

-- a number has a default; that of an epoch is given or not
abbrev pub IsAlwaysThere : HostNumber → Type 0
IsAlwaysThere number.Epoch = ⊥
IsAlwaysThere number.EpochAbove = ⊥
IsAlwaysThere _ = Unit {0}

abbrev pub least_of : HostNumber → ℕ
least_of number = 1

abbrev pub most_of : HostNumber → ℕ
most_of number.Epoch = 9007199254740991
most_of number.EpochAbove = 9007199254740990
most_of number.Clients = 65536
most_of number.Open = 100000
most_of number.Connections = 1000000
most_of number.ConnectionsFrom = 1000000
most_of number.Memory = 1048576
most_of number.Idle = 31536000
most_of number.Stall = 31536000

-- the number is within the option's limits
abbrev pub Fits : HostNumber → ℕ → Type 0
Fits number n = IsInRange (least_of number) (most_of number) n

-- the text is decimal digits of this number, with or without a plus in front, and the number is within the
-- option's limits
pub record WritesWithin (number : HostNumber) (text : Text) (n : ℕ) : Type 0 where
  pub digits : IsNumeral 10 (without_leading_plus text)
  pub of_number : digits_value 10 (without_leading_plus text) ≡ n
  pub fits : Fits number n

-- what the options' rows give for a number
abbrev pub given_for : HostNumber → List Row → Option Text
given_for number = first_of (option_word number)

-- the option's value is there, and is this number
abbrev pub GivesNumber : HostNumber → List Row → ℕ → Type 0
GivesNumber number rows n = IsSomeAnd (given_for number rows) (λ text. WritesWithin number text n)
