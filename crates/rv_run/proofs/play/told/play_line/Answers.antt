-- A line's event is given to the world, and one that says none is told as bad.
use Rattle.std.proofs.lemmas.Result.{IfOk-weaker}
use Rattle.rv_run.proofs.Faulting.{kept_ok}
use Rattle.rv_run.proofs.OfPlay.Results.{bad_turn, event_turn}
use Rattle.rv_run.proofs.OfPlay.Saying.{said_fits}
use Rattle.rv_run.proofs.play.told.play_line.Goals as goal

pub play_event-requires : goal.play_event-requires
play_event-requires c = said_fits c.args.line.now c.in-Ok.event c.in-Ok.ensures.says

pub returns-in-Ok : goal.returns-in-Ok
returns-in-Ok c = IfOk-weaker c.map_err.result _ _ (λ s plays. event_turn c.args.world.now
    c.play_event.new.world c.args.line.now c.in-Ok.event s c.in-Ok.ensures.says plays)
    (kept_ok _ c.play_event.result c.map_err.result _ c.map_err.ensures.cases c.play_event.ensures)

pub returns-in-Err-Bad : goal.returns-in-Err-Bad
returns-in-Err-Bad c = IfOk-weaker c.map_err-in-Err-Bad.result _ _ (λ s is. bad_turn c.args.world.now
    c.args.line.now s (c.in-Err-Bad.ensures.bad (cc)) is) (kept_ok _ c.from_str.result
    c.map_err-in-Err-Bad.result _ c.map_err-in-Err-Bad.ensures.cases c.from_str.ensures.ok)
