-- Commands and options that are added one after another, as they are listed.
use Rattle.std.proofs.Common.{◌≡◌, ◌∙◌, ◌+◌, ◌<◌, Bool, Bor, List, Some, ap, drop, false, length, map}
use Rattle.std.proofs.Common.{slice_index_or, sym, ℕ}
use Rattle.std.specs.Prelude.{◌||◌}
use Rattle.std.proofs.lemmas.List.{at_drop_more}
use Rattle.clap.specs.Walk.{texts}
use Rattle.clap.specs.Words.{AddsArg, App, Rule, Text, app_of, rule_of, with_rule, with_subcommand}
use Rattle.clap.specs.declared.builder.ArgAction.{ArgAction}
use Rattle.clap.specs.declared.builder.arg.Arg.{Arg}
use Rattle.clap.specs.declared.builder.texts.Texts.TheVariants.{Many}
use Rattle.clap.specs.declared.builder.command.Command.{Command}
use Rattle.clap.specs.declared.builder.command.Command.TheViews.{out-Command}
use Rattle.rv_words.specs.Listed.{listed_rule, with_apps, with_rules}
use Rattle.rv_words.specs.declared.listed.ListedOption.{ListedOption}

-- with the first of the commands that are left, the others bring the same program
pub command_added : {A : Type 0} (app next whole : App) (app_for : A → App) (commands : List A) (i : ℕ)
    (d : A) → i < length commands → next ≡ with_subcommand app (app_for (slice_index_or commands i d)).top
    → with_apps app (map app_for (drop i commands)) ≡ whole
    → with_apps next (map app_for (drop (i + 1) commands)) ≡ whole
command_added app next whole app_for commands i d here is so_far =
    ap (λ (a : App). with_apps a (map app_for (drop (i + 1) commands))) is
    ∙ sym (at_drop_more (λ xs. with_apps app (map app_for xs)) commands i d here) ∙ so_far

-- with the first of the options that are left, the others bring the same command
pub option_added : (command next : Command) (arg : Arg) (whole : App) (options : List ListedOption) (i : ℕ)
    (d : ListedOption) → i < length options → AddsArg command arg next
    → rule_of arg ≡ listed_rule (slice_index_or options i d) → arg.global ≡ false
    → with_rules (app_of command) (map listed_rule (drop i options)) ≡ whole
    → with_rules (app_of next) (map listed_rule (drop (i + 1) options)) ≡ whole
option_added command next arg whole options i d here adds rule local so_far =
    ap (λ (a : App). with_rules a (map listed_rule (drop (i + 1) options)))
    (adds.shape local ∙ ap (λ (r : Rule). with_rule (app_of command) r) rule)
    ∙ sym (at_drop_more (λ xs. with_rules (app_of command) (map listed_rule xs)) options i d here) ∙ so_far

-- a command to which an option of its own is added has no global one
pub still_local : (command next : Command) (arg : Arg) → AddsArg command arg next → arg.global ≡ false
    → (out-Command command).has_globals ≡ false → (out-Command next).has_globals ≡ false
still_local command next arg adds local was = adds.globals ∙ (λ i. was i || local i)

-- an argument that was built step by step
built : (a b c d e f : Arg) (names usual : Bor (List (Bor Text))) (needed : Bool) (how : ArgAction)
    (told : Bor Text) → b ≡ record a { val_names = Many names } → c ≡ record b { required = needed }
    → d ≡ record c { action = Some how } → e ≡ record d { default_vals = Many usual }
    → f ≡ record e { help = Some told }
    → f ≡ record a {
      val_names = Many names;
      required = needed;
      action = Some how;
      default_vals = Many usual;
      help = Some told;
    }
built a b c d e f names usual needed how told named required acts defaults helps =
    helps ∙ ap (λ (x : Arg). record x { help = Some told }) (defaults
    ∙ ap (λ (x : Arg). record x { default_vals = Many usual }) (acts
    ∙ ap (λ (x : Arg). record x { action = Some how }) (required
    ∙ ap (λ (x : Arg). record x { required = needed }) named)))

-- its rule, and that it is no global one
pub built_rule : (a b c d e f : Arg) (names usual : Bor (List (Bor Text))) (needed : Bool) (how : ArgAction)
    (told : Bor Text) (rule : Rule) → b ≡ record a { val_names = Many names }
    → c ≡ record b { required = needed } → d ≡ record c { action = Some how }
    → e ≡ record d { default_vals = Many usual } → f ≡ record e { help = Some told } → rule_of a ≡ rule
    → a.global ≡ false → (rule_of f ≡ record rule {
      action = Some how;
      value_names = length names.now;
      required = needed;
      defaults = texts usual.now;
    }) × (f.global ≡ false)
built_rule a b c d e f names usual needed how told rule named required acts defaults helps is local =
    let whole = built a b c d e f names usual needed how told named required acts defaults helps in (
      ap rule_of whole ∙ ap (λ (r : Rule). record r {
        action = Some how;
        value_names = length names.now;
        required = needed;
        defaults = texts usual.now;
      }) is,
      ap (λ (x : Arg). x.global) whole ∙ local,
    )
