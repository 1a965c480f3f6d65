-- The text is short.
use Rattle.std.proofs.Common.{codes, lit≤, rules, string_bytes}
use Rattle.std.proofs.lemmas.Result.{IfOk-weaker}
use Rattle.rv_run.proofs.ShortTexts.{number_is_short}
use Rattle.rv_run.proofs.calls.end_word.EndWord.text.Goals as goal

pub returns-in-Refused-clause-short : goal.returns-in-Refused-clause-short
returns-in-Refused-clause-short c = IfOk-weaker c.format.result _ _ (λ s same.
    number_is_short (string_bytes s) (codes "refused ") c.code.result same (lit≤ tt) (search rules))
    c.format.ensures.ok

pub returns-in-Unsettled-clause-short : goal.returns-in-Unsettled-clause-short
returns-in-Unsettled-clause-short c = IfOk-weaker c.format-in-Unsettled.result _ _ (λ s same.
    number_is_short (string_bytes s) (codes "unsettled ") c.in-Unsettled.number same (lit≤ tt) (search rules))
    c.format-in-Unsettled.ensures.ok

pub returns-in-EpochEnded-clause-short : goal.returns-in-EpochEnded-clause-short
returns-in-EpochEnded-clause-short c = IfOk-weaker c.format-in-EpochEnded.result _ _ (λ s same.
    number_is_short (string_bytes s) (codes "epoch ended ") c.in-EpochEnded.current same (lit≤ tt)
    (search rules)) c.format-in-EpochEnded.ensures.ok

pub returns-in-Replaced-clause-short : goal.returns-in-Replaced-clause-short
returns-in-Replaced-clause-short c = IfOk-weaker c.format-in-Replaced.result _ _ (λ s same.
    number_is_short (string_bytes s) (codes "replaced ") c.in-Replaced.current same (lit≤ tt) (search rules))
    c.format-in-Replaced.ensures.ok
