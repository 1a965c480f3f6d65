-- The desk handled the message, and its stamp is listed.
use Rattle.rv_server.proofs.OfLocked.Getting.{asked_told, pushed_shown}
use Rattle.std.proofs.Common.{refl}
use Rattle.rv_server.proofs.context.WorkerContext.ask_message.Goals as goal

pub returns : goal.returns
returns g c = λ body is.
    asked_told g.D.Desk.stamped c.args.number body c.args.message c.args.seat.now
    c.ask-stamp.new.seat _ _ c.ask-stamp.result is c.ask-stamp.ensures
    (pushed_shown g.D.Desk.stamped c.args.number c.ask-stamp.result.0 c.args.stamps.now.items
    c.args.stamps.now.items c.push_reserved.new.self.items refl c.push_reserved.ensures.items)
