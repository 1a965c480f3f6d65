-- What `work` says of the sink over the held bytes is said of the writer and of what it did not take.
use Rattle.std.proofs.Common.{[], ap, false, None, refl, Some, subst, sym, true}
use Rattle.std.specs.Io.Buffered.{writer_contents}
use Rattle.rv_frame.specs.Sink.{sink_over}
use Rattle.rv_server.specs.Sending.{WorksThrough, passing, passing_contents}
use Rattle.rv_server.specs.Works.{Listed, listing_of}
use Rattle.rv_server.proofs.Passing.{begins_empty, told_along}
use Rattle.rv_server.proofs.context.WorkerContext.answer_through.Goals as goal

pub returns-in-Ok-clause-worked : goal.returns-in-Ok-clause-worked
returns-in-Ok-clause-worked g c =
    let passed = c.closed.result in
    subst (λ (l : Listed). WorksThrough g.R.Read.remaining g.W.Write.contents c.args.source.now
    c.work-ended.new.source c.args.writer passed.writer passed.held.items c.args.seat.now
    c.work-ended.new.seat l passed.fault)
    (sym (ap (listing_of g.D.Desk.stamped) c.closed.ensures.served))
    (told_along g.R.Read.remaining (writer_contents g.W.Write.contents) (passing_contents g.W.Write.contents)
    c.args.source.now c.work-ended.new.source
    c.new-sink.result c.work-ended.new.sink (sink_over (passing c.args.writer []) false)
    (sink_over (passing passed.writer passed.held.items) true) c.args.seat.now c.work-ended.new.seat
    (listing_of g.D.Desk.stamped c.in-Ok.served)
    (begins_empty g.W.Write.contents c.in_ok-with_capacity.field-0 c.args.writer c.new-sink.result
    c.new-sink.ensures.device c.in_ok-with_capacity.ensures.inner c.in_ok-with_capacity.ensures.empty)
    c.closed.ensures.sent refl None passed.fault passed.held.items c.closed.ensures.fault
    c.in-Ok.ensures.ended)

pub returns-in-Err-clause-worked : goal.returns-in-Err-clause-worked
returns-in-Err-clause-worked g c =
    let passed = c.closed-in-Err.result in
    subst (λ (l : Listed). WorksThrough g.R.Read.remaining g.W.Write.contents c.args.source.now
    c.work-ended.new.source c.args.writer passed.writer passed.held.items c.args.seat.now
    c.work-ended.new.seat l passed.fault)
    (sym (ap (listing_of g.D.Desk.stamped) c.closed-in-Err.ensures.served))
    (told_along g.R.Read.remaining (writer_contents g.W.Write.contents) (passing_contents g.W.Write.contents)
    c.args.source.now c.work-ended.new.source
    c.new-sink.result c.work-ended.new.sink (sink_over (passing c.args.writer []) false)
    (sink_over (passing passed.writer passed.held.items) true) c.args.seat.now c.work-ended.new.seat
    (listing_of g.D.Desk.stamped c.in-Err.served)
    (begins_empty g.W.Write.contents c.in_ok-with_capacity.field-0 c.args.writer c.new-sink.result
    c.new-sink.ensures.device c.in_ok-with_capacity.ensures.inner c.in_ok-with_capacity.ensures.empty)
    c.closed-in-Err.ensures.sent refl (Some c.in-Err.fault) passed.fault passed.held.items
    c.closed-in-Err.ensures.fault c.in-Err.ensures.stopped)
