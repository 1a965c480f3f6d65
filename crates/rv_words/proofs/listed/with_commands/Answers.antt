-- Each step adds the first of the commands that are left.
use Rattle.std.proofs.Common.{◌∙◌, ap}
use Rattle.clap.specs.Words.{App, app_of, with_subcommand}
use Rattle.rv_words.specs.Listed.{listed_app}
use Rattle.rv_words.proofs.Listing.{command_added}
use Rattle.rv_words.proofs.listed.with_commands.Goals as goal

pub loop-listed-preserved : goal.loop-listed-preserved
loop-listed-preserved c =
    command_added _ _ _ listed_app _ _ _ c.loop-listed-test.true
    (c.in_ok-program.ensures.shape c.in_ok-command.ensures.local
    ∙ ap (λ (a : App). with_subcommand (app_of c.loop-listed.program) a.top) c.in_ok-command.ensures.app)
    c.loop-listed.invariant
