-- All whom it ends are told, and then those that have waited as long as they may.
use Rattle.rv_hub.proofs.OfDispatcher.Passed.{passed, passed_waits}
use Rattle.rv_hub.proofs.dispatcher.Dispatcher.pass.Goals as goal

pub tell_overdue-requires-clause-waits : goal.tell_overdue-requires-clause-waits
tell_overdue-requires-clause-waits c =
    passed_waits c.args.self.now c.elapse.new.self c.tell_settled.new.self c.args.now c.elapse.ensures.elapses
    c.elapse.ensures.still c.tell_settled.ensures.tells

pub returns : goal.returns
returns c =
    let both = passed c.args.self.now c.elapse.new.self c.tell_settled.new.self c.tell_overdue.new.self
    c.args.now c.requires.ready c.requires.begun c.elapse.ensures.elapses c.elapse.ensures.still
    c.tell_settled.ensures.tells
    (passed_waits c.args.self.now c.elapse.new.self c.tell_settled.new.self c.args.now
    c.elapse.ensures.elapses c.elapse.ensures.still c.tell_settled.ensures.tells)
    c.tell_overdue.ensures.sound c.tell_overdue.ensures.tells c.tell_overdue.ensures.in_time
    c.tell_overdue.ensures.waits in
    record { steady = both.0; passes = both.1 }
