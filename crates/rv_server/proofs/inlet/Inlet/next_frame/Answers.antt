-- Each turn flushes the sink and reads one piece after those of the turns before it.
use Rattle.std.proofs.Common.{[], Ok, false, rules, subst, sym, true, ◌≡◌, ◌<◌}
use Rattle.std.proofs.KnownBytes.{Appends-nil, Appends-trans}
use Rattle.rv_frame.specs.Sink.{sink_failed}
use Rattle.rv_frame.specs.Stream.{IsOpen, Stream}
use Rattle.rv_server.specs.Reading.{FailsAtSink, ReadsOn, TakesWhole}
use Rattle.rv_server.proofs.Answering.{fault_gives}
use Rattle.rv_server.proofs.Intake.{end_then, lacks_whole_then, none_read, read_fails, read_then}
use Rattle.rv_server.proofs.Intake.{stopped_then}
use Rattle.rv_server.proofs.Intake.{unsent_then, wanted, wants_less, whole_fails, whole_then}
use Rattle.rv_server.proofs.inlet.Inlet.next_frame.Goals as goal

pub loop-body-preserved : goal.loop-body-preserved
loop-body-preserved g c =
    let same : c.whole_frame.new.self ≡ c.loop-body.self = search rules in
    let first = subst (λ (t : Stream). ReadsOn g.R.Read.remaining c.args.source.now c.loop-body.source
    c.args.self.now t []) (sym same) c.loop-body.invariant.reads in
    let came : c.in_ok-read_on.field-0 ≡ true = search rules in
    record {
      reads = read_then g.R.Read.remaining c.args.source.now c.loop-body.source c.read_on.new.source
          c.args.self.now c.whole_frame.new.self c.read_on.new.self c.in_ok-read_on.field-0
          came first c.in_ok-read_on.ensures;
      none_written = Appends-trans _ _ _ _ _ c.loop-body.invariant.none_written c.in_ok-flush.ensures.bytes;
    }

pub returns-in_err-flush-clause-taken : goal.returns-in_err-flush-clause-taken
returns-in_err-flush-clause-taken g c =
    let same : c.whole_frame.new.self ≡ c.loop-body.self = search rules in
    let first = subst (λ (t : Stream). ReadsOn g.R.Read.remaining c.args.source.now c.loop-body.source
    c.args.self.now t []) (sym same) c.loop-body.invariant.reads in
    let none : c.whole_frame.new.self.frames ≡ [] = search rules in
    unsent_then g.R.Read.remaining _ _ _ _ c.in_err-flush.field-0.0.sent c.from_residual-in_err-flush.result
    c.from_residual-in_err-flush.ensures.1 c.in_err-flush.ensures.none none first

pub returns-in_err-read_on-clause-taken : goal.returns-in_err-read_on-clause-taken
returns-in_err-read_on-clause-taken g c =
    let same : c.whole_frame.new.self ≡ c.loop-body.self = search rules in
    let first = subst (λ (t : Stream). ReadsOn g.R.Read.remaining c.args.source.now c.loop-body.source
    c.args.self.now t []) (sym same) c.loop-body.invariant.reads in
    let none : c.whole_frame.new.self.frames ≡ [] = search rules in
    stopped_then g.R.Read.remaining c.args.source.now c.loop-body.source c.read_on.new.source c.args.self.now
    c.whole_frame.new.self c.read_on.new.self
    c.in_err-read_on.field-0.0 c.from_residual-in_err-read_on.result c.from_residual-in_err-read_on.ensures.1
    none first c.in_err-read_on.ensures

pub loop-body-init : goal.loop-body-init
loop-body-init g c = record {
  reads = none_read g.R.Read.remaining c.args.source.now c.args.self.now;
  none_written = Appends-nil _;
}

pub returns-in_err-body-clause-taken : goal.returns-in_err-body-clause-taken
returns-in_err-body-clause-taken g c =
    lacks_whole_then g.R.Read.remaining c.args.source.now c.loop-body.source c.args.self.now c.loop-body.self
    c.whole_frame.new.self c.in_err-body.field-0.0 c.from_residual.result c.from_residual.ensures.1
    c.loop-body.invariant.reads c.in_err-body.ensures

pub returns-in-Some-clause-taken : goal.returns-in-Some-clause-taken
returns-in-Some-clause-taken g c =
    whole_then g.R.Read.remaining c.args.source.now c.loop-body.source c.args.self.now c.loop-body.self
    c.whole_frame.new.self c.in-Some.body c.loop-body.invariant.reads
    (subst (λ o. TakesWhole c.loop-body.self c.whole_frame.new.self (Ok o)) c.in-Some.is
    c.in_ok-body.ensures)

pub returns-then-not-branch-clause-taken : goal.returns-then-not-branch-clause-taken
returns-then-not-branch-clause-taken g c =
    let same : c.whole_frame.new.self ≡ c.loop-body.self = search rules in
    let first = subst (λ (t : Stream). ReadsOn g.R.Read.remaining c.args.source.now c.loop-body.source
    c.args.self.now t []) (sym same) c.loop-body.invariant.reads in
    let none : c.whole_frame.new.self.frames ≡ [] = search rules in
    let came : c.in_ok-read_on.field-0 ≡ false = search rules in
    end_then g.R.Read.remaining c.args.source.now c.loop-body.source c.read_on.new.source c.args.self.now
    c.whole_frame.new.self c.read_on.new.self c.in_ok-read_on.field-0 c.at_end.result came none first
    c.in_ok-read_on.ensures c.at_end.ensures.none c.at_end.ensures.cut

pub returns-in_err-body-clause-failed : goal.returns-in_err-body-clause-failed
returns-in_err-body-clause-failed g c =
    fault_gives c.from_residual.result (λ fault. fault ≡ c.in_err-body.field-0.0) _ c.from_residual.ensures.1
    (λ fault is. subst (FailsAtSink (sink_failed c.loop-body.sink)) (sym is)
    (whole_fails (sink_failed c.loop-body.sink) c.loop-body.self c.whole_frame.new.self
    c.in_err-body.field-0.0 c.in_err-body.ensures))

pub returns-in_err-read_on-clause-failed : goal.returns-in_err-read_on-clause-failed
returns-in_err-read_on-clause-failed g c =
    fault_gives c.from_residual-in_err-read_on.result (λ fault. fault ≡ c.in_err-read_on.field-0.0) _
    c.from_residual-in_err-read_on.ensures.1
    (λ fault is. subst (FailsAtSink (sink_failed c.flush.new.self)) (sym is)
    (read_fails g.R.Read.remaining (sink_failed c.flush.new.self) c.loop-body.source c.read_on.new.source
    c.whole_frame.new.self c.read_on.new.self c.in_err-read_on.field-0.0 c.in_err-read_on.ensures))

pub loop-body-smaller : goal.loop-body-smaller
loop-body-smaller g c =
    let same : c.whole_frame.new.self ≡ c.loop-body.self = search rules in
    let none : c.whole_frame.new.self.frames ≡ [] = search rules in
    let follows : IsOpen c.whole_frame.new.self.end = search rules in
    let came : c.in_ok-read_on.field-0 ≡ true = search rules in
    subst (λ (t : Stream). wanted c.read_on.new.self < wanted t) same
    (wants_less g.R.Read.remaining c.loop-body.source c.read_on.new.source c.whole_frame.new.self
    c.read_on.new.self c.in_ok-read_on.field-0 came none follows c.in_ok-read_on.ensures)

pub returns-in_err-flush-clause-none_written : goal.returns-in_err-flush-clause-none_written
returns-in_err-flush-clause-none_written g c =
    Appends-trans _ _ _ _ _ c.loop-body.invariant.none_written c.in_err-flush.ensures.bytes

pub returns-in_err-read_on-clause-none_written : goal.returns-in_err-read_on-clause-none_written
returns-in_err-read_on-clause-none_written g c =
    Appends-trans _ _ _ _ _ c.loop-body.invariant.none_written c.in_ok-flush.ensures.bytes

pub returns-then-not-branch-clause-none_written : goal.returns-then-not-branch-clause-none_written
returns-then-not-branch-clause-none_written g c =
    Appends-trans _ _ _ _ _ c.loop-body.invariant.none_written c.in_ok-flush.ensures.bytes
