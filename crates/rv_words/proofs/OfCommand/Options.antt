-- What a subcommand's name tells.
use Rattle.std.proofs.Common.{◌≡◌, ap, arith, Box, codes, get_or, List, option_map, Option, None}
use Rattle.std.proofs.Common.{Some, subst, sym, ℕ}
use Rattle.std.proofs.lemmas.Option.{same_Some}
use Rattle.std.specs.Box.{box_value}
use Rattle.std.specs.Option.{IsSomeAnd}
use Rattle.clap.specs.Simple.{subcommand_rows}
use Rattle.clap.specs.Words.{Row, Text}
use Rattle.clap.specs.declared.parser.matches.SubCommand.{SubCommand}
use Rattle.clap.specs.declared.parser.matches.ArgMatches.TheViews.{out-SubCommand}
use Rattle.rv_text.specs.declared.version.Version.{Version}
use Rattle.rv_words.specs.command.Command.{SaysCall, SaysCommand, SaysEnd, SaysServe}
use Rattle.rv_words.specs.declared.command.Command.{Command}
use Rattle.rv_words.specs.declared.command.Command.TheVariants.{Audit, Book, Call, End, Play, Serve}

-- the first letter of a command's word: no two have the same
abbrev pub letter_of : Command → ℕ
letter_of (Book epoch) = 98
letter_of Play = 112
letter_of Audit = 97
letter_of (Serve listen epoch workers connections) = 115
letter_of (Call connect client incarnation tries speak) = 99
letter_of (End status connect older) = 101

pub first_letter : (name : Text) (options : List Row) (command : Command)
    → SaysCommand (name, options) command → get_or name 0 0 ≡ letter_of command
first_letter name options (Book epoch) said = ap (λ (letters : List ℕ). get_or letters 0 0) said.0
first_letter name options Play said = ap (λ (letters : List ℕ). get_or letters 0 0) said
first_letter name options Audit said = ap (λ (letters : List ℕ). get_or letters 0 0) said
first_letter name options (Serve listen epoch workers connections) said =
    ap (λ (letters : List ℕ). get_or letters 0 0) said.0
first_letter name options (Call connect client incarnation tries speak) said =
    ap (λ (letters : List ℕ). get_or letters 0 0) said.0
first_letter name options (End status connect older) said =
    ap (λ (letters : List ℕ). get_or letters 0 0) said.0

-- the subcommand that clap entered, by the name and the options that it gives
pub says_entered : {Z : Type 0} (entered : Option (Box SubCommand Z)) (name : Text) (options : List Row)
    → Some name ≡ option_map (λ (b : Box SubCommand Z). (out-SubCommand (box_value b)).name.now) entered
    → Some options ≡ option_map (λ (s : Text × List Row). s.1) (subcommand_rows entered) → (command : Command)
    → IsSomeAnd (subcommand_rows entered) (λ s. SaysCommand s command)
    → SaysCommand (name, options) command
says_entered None name options named rowed command said = absurd said
says_entered (Some b) name options named rowed command said =
    let text = (out-SubCommand (box_value b)).name.now in
    subst (λ (n : Text). SaysCommand (n, options) command) (sym (same_Some _ _ named))
    (subst (λ (r : List Row). SaysCommand (text, r) command) (sym (same_Some _ _ rowed)) said)

-- the subcommand `serve` is no other command
pub serve_alone : (options : List Row) (command : Command) → SaysCommand (codes "serve", options) command
    → (listen : Text) × (epoch : ℕ) × (workers : ℕ) × (connections : ℕ) × SaysServe options listen epoch
    workers connections
serve_alone options (Serve listen epoch workers connections) said = (
  listen.now,
  epoch,
  workers,
  connections,
  said.1,
)
serve_alone options command said = let same : 115 ≡ letter_of command = first_letter (codes "serve") options
    command said in absurd (omega (arith, same))

-- nor is `call`
pub call_alone : (options : List Row) (command : Command) → SaysCommand (codes "call", options) command
    → (connect : Text) × (client : ℕ) × (incarnation : ℕ) × (tries : ℕ) × (speak : Version) × SaysCall options
    connect client incarnation tries speak
call_alone options (Call connect client incarnation tries speak) said =
    (connect.now, client, incarnation, tries, speak, said.1)
call_alone options command said = let same : 99 ≡ letter_of command = first_letter (codes "call") options
    command said in absurd (omega (arith, same))

-- nor is `end`
pub end_alone : (options : List Row) (command : Command) → SaysCommand (codes "end", options) command
    → (status : Text) × (connect : Text) × (older : ℕ) × SaysEnd options status connect older
end_alone options (End status connect older) said = (status.now, connect.now, older, said.1)
end_alone options command said = let same : 101 ≡ letter_of command = first_letter (codes "end") options
    command said in absurd (omega (arith, same))
