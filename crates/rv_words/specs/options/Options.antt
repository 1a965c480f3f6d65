-- The options that words name.
use Rattle.std.specs.Prelude.{Bool, codes, List, None, Some, true, is_some, option_map, [], ◌≡◌, ◌↔◌}
use Rattle.clap.specs.Words.{Row, Text, fault_of, first_of, matches_of}
use Rattle.rv_words.specs.options.Words.{host_app}
use Rattle.rv_words.specs.options.Numbers.{Fits, GivesNumber}
use Rattle.rv_words.specs.options.Epochs.{FitsRule, SaysRule}
use Rattle.rv_words.specs.declared.options.number.HostNumber.TheVariants as number
use Rattle.rv_words.specs.declared.options.HostLimits.{HostLimits}
use Rattle.rv_words.specs.declared.options.HostOptions.{HostOptions}

-- an account in a file of its own isn't beside a store
abbrev pub HasOneAccount : HostOptions → Type 0
HasOneAccount options = is_some options.account ≡ true → options.store ≡ None

-- only where there is a store does a new epoch begin in it, and isn't it synced
pub record HasItsStore (options : HostOptions) : Type 0 where
  pub begins : options.new_epoch ≡ true → is_some options.store ≡ true
  pub unsynced : options.no_sync ≡ true → is_some options.store ≡ true

-- the row of a flag says whether it is there
abbrev pub SaysFlag : List Row → Text → Bool → Type 0
SaysFlag rows word flag = (flag ≡ true) ↔ (first_of word rows ≡ Some (codes "true"))

-- the rows say these limits
pub record SaysLimits (rows : List Row) (limits : HostLimits) : Type 0 where
  pub clients : GivesNumber number.Clients rows limits.clients
  pub opens : GivesNumber number.Open rows limits.open_places
  pub connects : GivesNumber number.Connections rows limits.connections
  pub connects_from : GivesNumber number.ConnectionsFrom rows limits.connections_from
  pub holds : GivesNumber number.Memory rows limits.memory
  pub idles : GivesNumber number.Idle rows limits.idle
  pub stalls : GivesNumber number.Stall rows limits.stall

-- the rows, each with the values of an option, say these options
pub record SaysOptions (rows : List Row) (options : HostOptions) : Type 0 where
  pub listens : first_of (codes "listen") rows ≡ Some options.listen.now
  pub keeps : first_of (codes "account") rows ≡ option_map (λ file. file.now) options.account
  pub stores : first_of (codes "store") rows ≡ option_map (λ folder. folder.now) options.store
  pub one_account : HasOneAccount options
  pub tells : first_of (codes "status") rows ≡ option_map (λ address. address.now) options.status
  pub tells_as : first_of (codes "status-name") rows ≡ option_map (λ names. names.now) options.status_names
  pub in_epoch : SaysRule rows options.epoch
  pub begins : SaysFlag rows (codes "new-epoch") options.new_epoch
  pub unsynced : SaysFlag rows (codes "no-sync") options.no_sync
  pub in_store : HasItsStore options
  pub boots : first_of (codes "boot") rows ≡ option_map (λ boot. boot.now) options.boot
  pub limits : SaysLimits rows options.limits
  pub is_quiet : SaysFlag rows (codes "quiet") options.quiet

-- `clap` finds no fault in the words, the first of which is the command's name, and their options are these
pub record NamesOptions (words : List Text) (options : HostOptions) : Type 0 where
  pub taken : fault_of host_app words ≡ []
  pub said : SaysOptions (matches_of host_app words) options

-- each number is within its option's limits
pub record FitLimits (limits : HostLimits) : Type 0 where
  pub clients : Fits number.Clients limits.clients
  pub opens : Fits number.Open limits.open_places
  pub connects : Fits number.Connections limits.connections
  pub connects_from : Fits number.ConnectionsFrom limits.connections_from
  pub holds : Fits number.Memory limits.memory
  pub idles : Fits number.Idle limits.idle
  pub stalls : Fits number.Stall limits.stall

-- each number of the options is within its option's limits, there is an epoch by their rule, and one account
-- at most, which is a store where a flag wants one
pub record FitOptions (options : HostOptions) : Type 0 where
  pub in_epoch : FitsRule options.epoch
  pub in_store : HasItsStore options
  pub one_account : HasOneAccount options
  pub limits : FitLimits options.limits
