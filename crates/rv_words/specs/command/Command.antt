-- The commands that the words of a command line name.
use Rattle.std.specs.Prelude.{codes, List, ℕ, Option, Some, [], ◌≡◌, ◌≤◌}
use Rattle.std.specs.Option.{IsSomeAnd}
use Rattle.clap.specs.Words.{Row, Text, fault_of, first_of, subcommand_of}
use Rattle.rv_text.specs.declared.version.Version.{Version}
use Rattle.rv_text.specs.Versions.{number_of_version}
use Rattle.rv_text.specs.Limits.{FitsIdentifier}
use Rattle.rv_text.specs.Number.{WritesBetween, WritesIdentifier}
use Rattle.rv_words.specs.Durations.{WritesDuration}
use Rattle.rv_words.specs.Program.{rv_app}
use Rattle.rv_words.specs.declared.command.Command.{Command}
use Rattle.rv_words.specs.declared.command.Command.TheVariants.{Audit, Book, Call, End, Play, Serve}

-- the value of an option is there, and is the digits of an identifier
abbrev pub GivesIdentifier : Option Text → ℕ → Type 0
GivesIdentifier value n = IsSomeAnd value (λ text. WritesIdentifier text n)

-- it is there, and is the digits of a number within these limits
abbrev pub GivesBetween : ℕ → ℕ → Option Text → ℕ → Type 0
GivesBetween least most value n = IsSomeAnd value (λ text. WritesBetween least most text n)

-- it is there, and is the digits of the version's number
abbrev pub GivesVersion : Option Text → Version → Type 0
GivesVersion value version = GivesBetween 1 2 value (number_of_version version)

-- it is there, and writes a span of this many milliseconds
abbrev pub GivesDuration : Option Text → ℕ → Type 0
GivesDuration value n = IsSomeAnd value (λ text. WritesDuration text n)

-- the greatest count, which is that of a `u32`
abbrev pub max_count : ℕ
max_count = 4294967295

-- the options of `rv serve`, by their rows, have these values
pub record SaysServe (rows : List Row) (listen : Text) (epoch workers connections : ℕ) : Type 0 where
  pub to_listen : first_of (codes "listen") rows ≡ Some listen
  pub in_epoch : GivesIdentifier (first_of (codes "epoch") rows) epoch
  pub with_workers : GivesBetween 1 64 (first_of (codes "workers") rows) workers
  pub for_connections : GivesBetween 0 max_count (first_of (codes "connections") rows) connections

-- the options of `rv call` have these values
pub record SaysCall (rows : List Row) (connect : Text) (client incarnation tries : ℕ) (speak : Version)
    : Type 0 where
  pub to_connect : first_of (codes "connect") rows ≡ Some connect
  pub of_client : GivesIdentifier (first_of (codes "client") rows) client
  pub in_incarnation : GivesIdentifier (first_of (codes "incarnation") rows) incarnation
  pub with_tries : GivesBetween 0 max_count (first_of (codes "tries") rows) tries
  pub to_speak : GivesVersion (first_of (codes "speak") rows) speak

-- the options of `rv end` have these values
pub record SaysEnd (rows : List Row) (status connect : Text) (older : ℕ) : Type 0 where
  pub of_status : first_of (codes "status") rows ≡ Some status
  pub to_connect : first_of (codes "connect") rows ≡ Some connect
  pub of_age : GivesDuration (first_of (codes "older") rows) older

-- a subcommand, with this name and these options, is the command
abbrev pub SaysCommand : Text × List Row → Command → Type 0
SaysCommand subcommand (Book epoch) = (subcommand.0 ≡ codes "book")
    × GivesIdentifier (first_of (codes "epoch") subcommand.1) epoch
SaysCommand subcommand Play = subcommand.0 ≡ codes "play"
SaysCommand subcommand Audit = subcommand.0 ≡ codes "audit"
SaysCommand subcommand (Serve listen epoch workers connections) = (subcommand.0 ≡ codes "serve")
    × SaysServe subcommand.1 listen.now epoch workers connections
SaysCommand subcommand (Call connect client incarnation tries speak) = (subcommand.0 ≡ codes "call")
    × SaysCall subcommand.1 connect.now client incarnation tries speak
SaysCommand subcommand (End status connect older) = (subcommand.0 ≡ codes "end")
    × SaysEnd subcommand.1 status.now connect.now older

-- the words, the program's name first, name the command: `clap` finds no fault in them, and the
-- subcommand that it finds is the command
pub record NamesCommand (words : List Text) (command : Command) : Type 0 where
  pub taken : fault_of rv_app words ≡ []
  pub said : IsSomeAnd (subcommand_of rv_app words) (λ subcommand. SaysCommand subcommand command)

-- the words name no command
abbrev pub NamesNone : List Text → Type 0
NamesNone words = (command : Command) → ¬ NamesCommand words command

-- the numbers of the command keep their limits
abbrev pub FitsCommand : Command → Type 0
FitsCommand (Book epoch) = FitsIdentifier epoch
FitsCommand Play = Unit {0}
FitsCommand Audit = Unit {0}
FitsCommand (Serve listen epoch workers connections) =
    FitsIdentifier epoch × (1 ≤ workers) × (workers ≤ 64)
FitsCommand (Call connect client incarnation tries speak) =
    FitsIdentifier client × FitsIdentifier incarnation
FitsCommand (End status connect older) = Unit {0}
