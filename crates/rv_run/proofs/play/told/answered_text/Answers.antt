-- The text tells the answer.
use Rattle.std.proofs.lemmas.Result.{IfOk-weaker}
use Rattle.rv_run.proofs.OfPlay.Results.{answered_result}
use Rattle.rv_run.proofs.play.told.answered_text.Goals as goal

pub returns : goal.returns
returns c = IfOk-weaker c.format.result _ _ (λ s same.
    answered_result c.args.world.now c.args.packet c.in_ok-body.body c.in_ok-body.ensures s same
    c.ranges.packet.fits) c.format.ensures.ok
