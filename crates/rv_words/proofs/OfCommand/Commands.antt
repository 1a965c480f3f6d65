-- Words name at most one command.
use Rattle.std.proofs.Common.{ap, arith, refl, sym, ◌≡◌, ◌∙◌, ℕ, List, Option, Some, None}
use Rattle.std.specs.Option.{IsSomeAnd}
use Rattle.std.proofs.lemmas.Option.{same_Some}
use Rattle.clap.specs.Words.{Row, Text, subcommand_of}
use Rattle.rv_text.specs.Versions.{number_of_version, version_of}
use Rattle.rv_text.specs.declared.version.Version.{Version}
use Rattle.rv_text.specs.declared.version.Version.TheVariants.{One, Two}
use Rattle.rv_words.specs.Program.{rv_app}
use Rattle.rv_words.specs.command.Command.{GivesBetween, GivesDuration, GivesIdentifier, GivesVersion}
use Rattle.rv_words.specs.command.Command.{SaysCommand}
use Rattle.rv_words.specs.command.Laws.{OneCommand, SameCommand}
use Rattle.rv_words.proofs.Cutting.{one_duration}
use Rattle.rv_words.proofs.OfCommand.Options.{first_letter, letter_of}
use Rattle.rv_words.specs.declared.command.Command.{Command}
use Rattle.rv_words.specs.declared.command.Command.TheVariants.{Audit, Book, Call, End, Play, Serve}

number_one : (value : Option Text) (m n : ℕ) → GivesIdentifier value m → GivesIdentifier value n → m ≡ n
number_one None m n a b = absurd a
number_one (Some text) m n a b = a.0.1 ∙ sym b.0.1

between_one : (least most : ℕ) (value : Option Text) (m n : ℕ) → GivesBetween least most value m
    → GivesBetween least most value n → m ≡ n
between_one least most None m n a b = absurd a
between_one least most (Some text) m n a b = a.0.1 ∙ sym b.0.1

-- a version is found by its number, so no two have the same
by_number : (v : Version) → version_of (number_of_version v) ≡ Some v
by_number One = refl
by_number Two = refl

one_numbered : (v w : Version) → number_of_version v ≡ number_of_version w → v ≡ w
one_numbered v w same = same_Some _ _ (sym (by_number v) ∙ ap version_of same ∙ by_number w)

version_one : (value : Option Text) (v w : Version) → GivesVersion value v → GivesVersion value w → v ≡ w
version_one value v w a b = one_numbered v w (between_one 1 2 value (number_of_version v)
    (number_of_version w) a b)

duration_one : (value : Option Text) (m n : ℕ) → GivesDuration value m → GivesDuration value n → m ≡ n
duration_one None m n a b = absurd a
duration_one (Some text) m n a b = one_duration text m n a b

text_one : (value : Option Text) (a b : Text) → value ≡ Some a → value ≡ Some b → a ≡ b
text_one value a b first second = cc

-- a subcommand is no two commands of two words
one_letter : (s : Text × List Row) (c d : Command) → SaysCommand s c → SaysCommand s d
    → letter_of c ≡ letter_of d
one_letter s c d a b = sym (first_letter s.0 s.1 c a) ∙ first_letter s.0 s.1 d b

says_one : (s : Text × List Row) (c d : Command) → SaysCommand s c → SaysCommand s d → SameCommand c d
says_one s (Book m) (Book n) a b = ap Book (number_one _ m n a.1 b.1)
says_one s (Book m) d a b = let same : 98 ≡ letter_of d = one_letter s (Book m) d a b in
    absurd (omega (arith, same))
says_one s Play Play a b = refl
says_one s Play d a b = let same : 112 ≡ letter_of d = one_letter s Play d a b in absurd (omega (arith, same))
says_one s Audit Audit a b = refl
says_one s Audit d a b = let same : 97 ≡ letter_of d = one_letter s Audit d a b in
    absurd (omega (arith, same))
says_one s (Serve listen epoch workers connections) (Serve other epoch' workers' connections') a b = (
  text_one _ listen.now other.now a.1.to_listen b.1.to_listen,
  number_one _ epoch epoch' a.1.in_epoch b.1.in_epoch,
  between_one _ _ _ workers workers' a.1.with_workers b.1.with_workers,
  between_one _ _ _ connections connections' a.1.for_connections b.1.for_connections,
)
says_one s (Serve listen epoch workers connections) d a b = let same : 115 ≡ letter_of d =
    one_letter s (Serve listen epoch workers connections) d a b in absurd (omega (arith, same))
says_one s (Call connect client incarnation tries speak) (Call other client' incarnation' tries' speak')
    a b = (
      text_one _ connect.now other.now a.1.to_connect b.1.to_connect,
      number_one _ client client' a.1.of_client b.1.of_client,
      number_one _ incarnation incarnation' a.1.in_incarnation b.1.in_incarnation,
      between_one _ _ _ tries tries' a.1.with_tries b.1.with_tries,
      version_one _ speak speak' a.1.to_speak b.1.to_speak,
    )
says_one s (Call connect client incarnation tries speak) d a b = let same : 99 ≡ letter_of d =
    one_letter s (Call connect client incarnation tries speak) d a b in absurd (omega (arith, same))
says_one s (End status connect older) (End status' connect' older') a b = (
  text_one _ status.now status'.now a.1.of_status b.1.of_status,
  text_one _ connect.now connect'.now a.1.to_connect b.1.to_connect,
  duration_one _ older older' a.1.of_age b.1.of_age,
)
says_one s (End status connect older) d a b = let same : 101 ≡ letter_of d =
    one_letter s (End status connect older) d a b in absurd (omega (arith, same))

said_one : (subcommand : Option (Text × List Row)) (c d : Command)
    → IsSomeAnd subcommand (λ s. SaysCommand s c) → IsSomeAnd subcommand (λ s. SaysCommand s d)
    → SameCommand c d
said_one None c d a b = absurd a
said_one (Some s) c d a b = says_one s c d a b

pub named_one : OneCommand
named_one words c d a b = said_one (subcommand_of rv_app words) c d a.said b.said
