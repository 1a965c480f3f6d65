-- The frame is taken, and its answer comes after all, or the connection is closed.
use Rattle.rv_hub.proofs.OfDispatcher.Answering.{answered_it, not_answered}
use Rattle.rv_hub.proofs.OfDispatcher.Noting.{still_open}
use Rattle.rv_hub.proofs.dispatcher.Dispatcher.answer_by.Goals as goal

pub returns-in-Ok : goal.returns-in-Ok
returns-in-Ok c =
    let both = answered_it c.args.self.now c.args.connection c.args.entries c.args.body.now
    c.answer.new.self c.requires.sound c.requires.due c.in-Ok.ensures.answers c.in-Ok.ensures.noted in
    record { sound = both.0; answers = both.1 }

pub returns-in-Err : goal.returns-in-Err
returns-in-Err c =
    let both = not_answered c.args.self.now c.args.connection c.args.entries c.args.body.now
    c.answer.new.self c.close.new.self c.requires.sound c.requires.due c.in-Err.ensures.refused
    c.in-Err.ensures.kept c.close.ensures.closed
    (c.close.ensures.noted (still_open _ _ c.args.connection c.requires.due.wire c.in-Err.ensures.refused
    c.requires.due.there)) in
    record { sound = both.0; answers = both.1 }
