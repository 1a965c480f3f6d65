-- The options that are left bring the command that all bring.
use Rattle.std.proofs.Common.{◌≡◌, drop, false, map}
use Rattle.clap.specs.Words.{app_of}
use Rattle.clap.specs.declared.Command.TheViews.{out-Command}
use Rattle.rv_words.specs.Listed.{listed_app, listed_rule, with_rules}
use Rattle.rv_words.proofs.listed.listed_command.Given as goal

abbrev pub invariant-loop-option : goal.invariant-loop-option
invariant-loop-option l = record {
  app : with_rules (app_of l.command) (map listed_rule (drop l.option-index l.listed.options.now))
      ≡ listed_app l.listed;
  local : (out-Command l.command).has_globals ≡ false;
}
