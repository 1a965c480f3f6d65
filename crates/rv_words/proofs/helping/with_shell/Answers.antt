-- Each step adds the first of the commands that are left.
use Rattle.std.proofs.Common.{◌∙◌, ap}
use Rattle.clap.specs.Words.{App, app_of, with_subcommand}
use Rattle.rv_words.proofs.Listing.{command_added}
use Rattle.rv_words.specs.shell.Words.{shell_app}
use Rattle.rv_words.proofs.helping.with_shell.Goals as goal

pub loop-word-preserved : goal.loop-word-preserved
loop-word-preserved c =
    command_added _ _ _ shell_app _ _ _ c.loop-word-test.true
    (c.in_ok-program.ensures.shape c.in_ok-command.ensures.local
    ∙ ap (λ (a : App). with_subcommand (app_of c.loop-word.program) a.top)
    (c.in_ok-command.ensures.app ∙ c.listed.ensures))
    c.loop-word.invariant
