-- Both histograms, one after the other.
use Rattle.std.proofs.Common.{codes}
use Rattle.std.proofs.lemmas.Result.{on_ok_weaker}
use Rattle.rv_status.specs.Texts.{histogram_text}
use Rattle.rv_status.proofs.Told.{headed}
use Rattle.rv_status.proofs.metrics.put_times.Goals as goal

pub returns : goal.returns
returns c =
    on_ok_weaker c.put_histogram-2.result
    (headed (histogram_text (codes "rv_turn_seconds")
    (codes "How long turns took, from the end of their poll to their end.") c.args.times.now.turns)
    (histogram_text (codes "rv_answer_seconds")
    (codes "How long requests stood first of their connection until their answer left.")
    c.args.times.now.answers) _ _ _ c.in_ok-put_histogram.ensures) c.put_histogram-2.ensures
