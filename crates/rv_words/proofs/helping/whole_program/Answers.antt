-- The commands that are added are those of the program with all its commands.
use Rattle.std.proofs.Common.{◌≡◌, ◌∙◌, ap}
use Rattle.std.proofs.lemmas.Result.{IfOk-weaker}
use Rattle.clap.specs.Simple.{app_of_fields}
use Rattle.clap.specs.Words.{App, app_of, with_subcommand}
use Rattle.rv_words.specs.options.Words.{host_app}
use Rattle.rv_words.specs.Listed.{with_apps}
use Rattle.rv_words.specs.Helping.{other_apps, own_apps, shell_apps}
use Rattle.rv_words.specs.Program.{rv_app}
use Rattle.rv_words.proofs.helping.whole_program.Goals as goal

pub returns : goal.returns
returns c =
    let named : app_of c.in_ok-program-2.program ≡ rv_app =
    ap app_of_fields c.in_ok-program-2.ensures.0 ∙ c.in_ok-program.ensures in
    let others : app_of c.in_ok-program-4.program ≡ with_apps rv_app other_apps =
    c.in_ok-program-4.ensures ∙ ap (λ (a : App). with_apps a shell_apps) (c.in_ok-program-3.ensures
    ∙ ap (λ (a : App). with_apps a own_apps) named) in
    IfOk-weaker c.subcommand.result _ _ (λ whole adds. adds.shape c.in_ok-host.ensures.local
    ∙ ap (λ (a : App). with_subcommand (app_of c.in_ok-program-4.program) a.top) c.in_ok-host.ensures.app
    ∙ ap (λ (a : App). with_subcommand a host_app.top) others) c.subcommand.ensures
