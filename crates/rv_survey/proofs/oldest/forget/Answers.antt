-- What is left are the rows of other clients.
use Rattle.std.proofs.Common.{rules}
use Rattle.std.specs.Prelude.{◌==◌, not}
use Rattle.std.proofs.lemmas.Fn.{filter_same}
use Rattle.rv_status.specs.declared.status.WaitingRow.{WaitingRow}
use Rattle.rv_survey.proofs.oldest.forget.Goals as goal

pub returns : goal.returns
returns c =
    filter_same _ (λ (row : WaitingRow). not (row.client == c.args.client)) _ (λ x b f' k. search rules) _ _
    c.retain.ensures.filtered
