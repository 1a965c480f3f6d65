-- Asked again and again: all but the last answer waited.
use Rattle.std.proofs.Common.{◌≡◌, ◌∙◌}
use Rattle.std.proofs.KnownBytes.{Appends-nil, Appends-trans}
use Rattle.std.proofs.lemmas.Result.{IfOk-weaker}
use Rattle.rv_frame.specs.Sink.{sink_failed}
use Rattle.rv_server.specs.locked.Stamps.{shown_stamps}
use Rattle.rv_server.proofs.Answering.{fault_gives}
use Rattle.rv_server.proofs.Getting.{lacks_at, none_waited, told_behind, unsent_behind}
use Rattle.rv_server.proofs.Getting.{waiting_behind}
use Rattle.rv_server.proofs.context.WorkerContext.ask.Goals as goal

pub loop-paused-init : goal.loop-paused-init
loop-paused-init g c = record { waited = none_waited _ _ _ _; none_written = Appends-nil _ }

pub returns-then-not-waits-clause-told : goal.returns-then-not-waits-clause-told
returns-then-not-waits-clause-told g c =
    IfOk-weaker c.ask_once-asked.result _ _ (λ told gets. told_behind c.args.number c.args.body.now
    c.args.seat.now c.loop-paused.seat c.ask_once-asked.new.seat
    (shown_stamps g.D.Desk.stamped c.args.stamps.now.items)
    (shown_stamps g.D.Desk.stamped c.loop-paused.stamps.items)
    (shown_stamps g.D.Desk.stamped c.ask_once-asked.new.stamps.items) told
    c.loop-paused.invariant.waited gets) c.ask_once-asked.ensures.told

pub returns-then-not-waits-clause-stopped : goal.returns-then-not-waits-clause-stopped
returns-then-not-waits-clause-stopped g c =
    lacks_at g.D.Desk.stamped c.args.number c.args.body.now c.args.seat.now c.loop-paused.seat
    c.ask_once-asked.new.seat (shown_stamps g.D.Desk.stamped c.args.stamps.now.items)
    c.loop-paused.stamps.items c.ask_once-asked.new.stamps.items (sink_failed c.loop-paused.sink)
    c.ask_once-asked.result c.loop-paused.invariant.waited c.ask_once-asked.ensures.fault
    c.ask_once-asked.ensures.refused

pub returns-in_err-flush_and_pause-clause-stopped : goal.returns-in_err-flush_and_pause-clause-stopped
returns-in_err-flush_and_pause-clause-stopped g c =
    fault_gives c.from_residual.result
    (λ fault. fault ≡ c.in_err-flush_and_pause.field-0.0) _ c.from_residual.ensures.1
    (λ fault is. unsent_behind c.args.number c.args.body.now c.args.seat.now c.ask_once-asked.new.seat
    (shown_stamps g.D.Desk.stamped c.args.stamps.now.items)
    (shown_stamps g.D.Desk.stamped c.ask_once-asked.new.stamps.items) (sink_failed c.flush_and_pause.new.sink)
    fault
    (is ∙ c.in_err-flush_and_pause.ensures.fault)
    (waiting_behind c.args.number c.args.body.now c.args.seat.now c.loop-paused.seat c.ask_once-asked.new.seat
    (shown_stamps g.D.Desk.stamped c.args.stamps.now.items)
    (shown_stamps g.D.Desk.stamped c.loop-paused.stamps.items)
    (shown_stamps g.D.Desk.stamped c.ask_once-asked.new.stamps.items) c.ask_once-asked.result
    c.loop-paused.invariant.waited (c.waits.ensures c.if-not-waits.false) c.ask_once-asked.ensures.told)
    c.in_err-flush_and_pause.ensures.failed)

pub returns-in_err-flush_and_pause-clause-none_written :
    goal.returns-in_err-flush_and_pause-clause-none_written
returns-in_err-flush_and_pause-clause-none_written g c =
    Appends-trans _ _ _ _ _ c.loop-paused.invariant.none_written c.in_err-flush_and_pause.ensures.bytes

pub loop-paused-preserved : goal.loop-paused-preserved
loop-paused-preserved g c = record {
  waited = waiting_behind c.args.number c.args.body.now c.args.seat.now c.loop-paused.seat
      c.ask_once-asked.new.seat
      (shown_stamps g.D.Desk.stamped c.args.stamps.now.items)
      (shown_stamps g.D.Desk.stamped c.loop-paused.stamps.items)
      (shown_stamps g.D.Desk.stamped c.ask_once-asked.new.stamps.items) c.ask_once-asked.result
      c.loop-paused.invariant.waited (c.waits.ensures c.if-not-waits.false) c.ask_once-asked.ensures.told;
  none_written = Appends-trans _ _ _ _ _ c.loop-paused.invariant.none_written
      c.in_ok-flush_and_pause.ensures.bytes;
}

pub returns-clause-told : goal.returns-clause-told
returns-clause-told g c =
    IfOk-weaker c.ask_once.result _ _ (λ told gets. told_behind c.args.number c.args.body.now
    c.args.seat.now c.loop-paused.seat c.ask_once.new.seat
    (shown_stamps g.D.Desk.stamped c.args.stamps.now.items)
    (shown_stamps g.D.Desk.stamped c.loop-paused.stamps.items)
    (shown_stamps g.D.Desk.stamped c.ask_once.new.stamps.items) told
    c.loop-paused.invariant.waited gets) c.ask_once.ensures.told

pub returns-clause-stopped : goal.returns-clause-stopped
returns-clause-stopped g c =
    lacks_at g.D.Desk.stamped c.args.number c.args.body.now c.args.seat.now c.loop-paused.seat
    c.ask_once.new.seat (shown_stamps g.D.Desk.stamped c.args.stamps.now.items) c.loop-paused.stamps.items
    c.ask_once.new.stamps.items (sink_failed c.loop-paused.sink) c.ask_once.result
    c.loop-paused.invariant.waited c.ask_once.ensures.fault c.ask_once.ensures.refused
