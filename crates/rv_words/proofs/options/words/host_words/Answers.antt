-- Its name in help changes nothing of what is read.
use Rattle.std.proofs.Common.{◌∙◌, ap}
use Rattle.std.proofs.lemmas.Result.{IfOk-weaker}
use Rattle.clap.specs.Simple.{app_of_fields}
use Rattle.rv_words.proofs.options.words.host_words.Goals as goal

pub returns-clause-app : goal.returns-clause-app
returns-clause-app c = IfOk-weaker c.bin_name.result _ _ (λ named e. ap app_of_fields e.0
    ∙ c.in_ok-listed_command.ensures.app)
    c.bin_name.ensures
