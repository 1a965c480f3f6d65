-- The text tells the reply that is held.
use Rattle.std.proofs.Common.{subst}
use Rattle.std.proofs.lemmas.Result.{IfOk-weaker}
use Rattle.rv_run.specs.play.Told.{HoldsAnswer, SettlesBy}
use Rattle.rv_run.proofs.OfPlay.Results.{settled_result}
use Rattle.rv_run.proofs.play.told.settled_text.Goals as goal

pub returns : goal.returns
returns c key settles =
    let holds : HoldsAnswer c.args.world.now c.in-ToClient.packet key = subst (λ e. SettlesBy c.args.world.now
    e key) c.in-ToClient.is settles in
    IfOk-weaker c.format.result _ _ (λ s same.
    settled_result c.args.world.now c.in-ToClient.packet c.in_ok-body-in-ToClient.body
    c.in_ok-body-in-ToClient.ensures key s holds same) c.format.ensures.ok
