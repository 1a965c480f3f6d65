-- The rules by which a server chooses its epoch.
use Rattle.std.specs.Prelude.{List, None, ℕ, suc, ◌≡◌}
use Rattle.clap.specs.Words.{Row}
use Rattle.rv_words.specs.options.Numbers.{Fits, GivesNumber, given_for}
use Rattle.rv_words.specs.declared.options.epoch.EpochRule.{EpochRule}
use Rattle.rv_words.specs.declared.options.epoch.EpochRule.TheVariants.{Above, Clock, Exactly}
use Rattle.rv_words.specs.declared.options.number.HostNumber.TheVariants as number

-- the rule allows an epoch
abbrev pub FitsRule : EpochRule → Type 0
FitsRule Clock = Unit {0}
FitsRule (Exactly epoch) = Fits number.Epoch epoch
FitsRule (Above n) = Fits number.EpochAbove n

-- the least epoch that a rule allows
abbrev pub least_epoch : EpochRule → ℕ
least_epoch Clock = 1
least_epoch (Exactly epoch) = epoch
least_epoch (Above n) = suc n

-- the greatest
abbrev pub most_epoch : EpochRule → ℕ
most_epoch Clock = 9007199254740991
most_epoch (Exactly epoch) = epoch
most_epoch (Above n) = 9007199254740991

-- the options, by their rows, say this rule
abbrev pub SaysRule : List Row → EpochRule → Type 0
SaysRule rows Clock = (given_for number.Epoch rows ≡ None) × (given_for number.EpochAbove rows ≡ None)
SaysRule rows (Exactly epoch) = GivesNumber number.Epoch rows epoch
    × (given_for number.EpochAbove rows ≡ None)
SaysRule rows (Above n) = (given_for number.Epoch rows ≡ None) × GivesNumber number.EpochAbove rows n
