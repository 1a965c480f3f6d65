-- The frame is taken, and its connection waits, or is closed.
use Rattle.rv_hub.proofs.OfDispatcher.Answering.{not_waited, waited_it}
use Rattle.rv_hub.proofs.OfDispatcher.Noting.{is_some_of}
use Rattle.rv_hub.proofs.dispatcher.Dispatcher.wait.Goals as goal

pub returns-in-Ok : goal.returns-in-Ok
returns-in-Ok c =
    let both = waited_it c.args.self.now c.args.connection c.args.key c.take_frame.new.self c.add.new.self
    c.requires.sound c.requires.waits
    (record {
      due = c.requires.due;
      takes = c.take_frame.ensures.changes;
      noted = c.take_frame.ensures.noted;
    })
    c.in-Ok.ensures.added c.in-Ok.ensures.count in
    record { sound = both.0; waits = both.1 }

pub returns-in-Err : goal.returns-in-Err
returns-in-Err c =
    let both = not_waited c.args.self.now c.args.connection c.args.key c.take_frame.new.self
    c.close.new.self c.add.new.self c.requires.sound
    (record {
      due = c.requires.due;
      takes = c.take_frame.ensures.changes;
      noted = c.take_frame.ensures.noted;
    })
    c.in-Err.ensures.refused c.in-Err.ensures.count c.close.ensures.closed
    (c.close.ensures.noted (is_some_of _ _ c.take_frame.ensures.changes.sets.own)) in
    record { sound = both.0; waits = both.1 }
