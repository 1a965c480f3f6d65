-- Frame after frame, to the end or to a fault.
use Rattle.std.proofs.Common.{◌≡◌, ◌∷◌, [], ℕ, List, Ok, Some, arith, subst, sym}
use Rattle.rv_server.specs.Reading.{ReadsOn, TakesFrame}
use Rattle.rv_server.proofs.Advancing.{advance, begin, ended_whole, ends, flushed, stopped_frame}
use Rattle.rv_server.proofs.Advancing.{stopped_whole, stops_reading}
use Rattle.rv_server.proofs.Answering.{fault_gives}
use Rattle.rv_server.proofs.context.WorkerContext.serve_frames.Goals as goal

pub loop-number-init : goal.loop-number-init
loop-number-init g c =
    begin g.R.Read.remaining g.W.Write.contents _ _ c.new-inlet.result c.requires c.new-inlet.ensures.fed

pub loop-number-preserved : goal.loop-number-preserved
loop-number-preserved g c =
    let took : TakesFrame g.R.Read.remaining c.loop-number.source c.next_frame.new.source c.loop-number.inlet
    c.next_frame.new.self (Ok (Some c.in-Ok-Some.body)) =
    subst (λ o. TakesFrame g.R.Read.remaining c.loop-number.source c.next_frame.new.source c.loop-number.inlet
    c.next_frame.new.self (Ok o)) c.in-Ok-Some.field-0-is c.in-Ok-Some.ensures.taken in
    let reads = subst (λ (b : List ℕ). ReadsOn g.R.Read.remaining c.loop-number.source c.next_frame.new.source
    c.loop-number.inlet c.next_frame.new.self (b ∷ []))
    (sym c.as_slice.ensures.value) took.0 in
    advance g.R.Read.remaining g.W.Write.contents _ _ _ _ _ _ _ _ _ _ (flushed g.R.Read.remaining
    g.W.Write.contents _ _ _ _ _ _ c.loop-number.invariant c.next_frame.ensures.none_written) reads
    c.in_ok-serve_frame-in-Ok-Some.ensures.ok

pub returns-in-Err-clause-fault : goal.returns-in-Err-clause-fault
returns-in-Err-clause-fault g c =
    stops_reading g.R.Read.remaining g.W.Write.contents _ _ _ _ _ _ _ c.in-Err.fault
    (flushed g.R.Read.remaining g.W.Write.contents _ _ _ _ _ _ c.loop-number.invariant
    c.next_frame.ensures.none_written)
    (omega (arith, c.loop-number.auto.number-end)) c.in-Err.ensures.taken c.in-Err.ensures.failed

pub returns-in_err-serve_frame-in-Ok-Some-clause-fault :
    goal.returns-in_err-serve_frame-in-Ok-Some-clause-fault
returns-in_err-serve_frame-in-Ok-Some-clause-fault g c =
    let took : TakesFrame g.R.Read.remaining c.loop-number.source c.next_frame.new.source c.loop-number.inlet
    c.next_frame.new.self (Ok (Some c.in-Ok-Some.body)) =
    subst (λ o. TakesFrame g.R.Read.remaining c.loop-number.source c.next_frame.new.source c.loop-number.inlet
    c.next_frame.new.self (Ok o)) c.in-Ok-Some.field-0-is c.in-Ok-Some.ensures.taken in
    let reads = subst (λ (b : List ℕ). ReadsOn g.R.Read.remaining c.loop-number.source c.next_frame.new.source
    c.loop-number.inlet c.next_frame.new.self (b ∷ []))
    (sym c.as_slice.ensures.value) took.0 in
    fault_gives c.from_residual.result
    (λ fault. fault ≡ c.in_err-serve_frame-in-Ok-Some.field-0.0) _
    c.from_residual.ensures.1
    (λ fault is. stopped_frame g.R.Read.remaining g.W.Write.contents _ _ _ _ _ _ _ _ _ _ _ fault is
    (flushed g.R.Read.remaining g.W.Write.contents _ _ _ _ _ _ c.loop-number.invariant
    c.next_frame.ensures.none_written)
    c.loop-number-test.true reads c.in_err-serve_frame-in-Ok-Some.ensures.fault)

pub returns-in-Ok-None-clause-ok : goal.returns-in-Ok-None-clause-ok
returns-in-Ok-None-clause-ok g c =
    ends g.R.Read.remaining g.W.Write.contents _ _ _ _ _ _ _ (flushed g.R.Read.remaining g.W.Write.contents _
    _ _ _ _ _ c.loop-number.invariant c.next_frame.ensures.none_written)
    (omega (arith, c.loop-number.auto.number-end))
    (subst (λ o. TakesFrame g.R.Read.remaining c.loop-number.source c.next_frame.new.source
    c.loop-number.inlet c.next_frame.new.self (Ok o)) c.in-Ok-None.field-0-is c.in-Ok-None.ensures.taken)

pub returns-clause-ok : goal.returns-clause-ok
returns-clause-ok g c =
    ended_whole g.R.Read.remaining g.W.Write.contents _ _ _ _ _ _ _ c.expect_end.result
    (omega (arith, c.loop-number.auto.number-end)) (flushed g.R.Read.remaining g.W.Write.contents _ _ _ _ _ _
    c.loop-number.invariant c.expect_end.ensures.none_written) c.expect_end.ensures.ended

pub returns-clause-fault : goal.returns-clause-fault
returns-clause-fault g c =
    stopped_whole g.R.Read.remaining g.W.Write.contents _ _ _ _ _ _ _ c.expect_end.result
    (omega (arith, c.loop-number.auto.number-end)) (flushed g.R.Read.remaining g.W.Write.contents _ _ _ _ _ _
    c.loop-number.invariant c.expect_end.ensures.none_written) c.expect_end.ensures.stopped
    c.expect_end.ensures.failed
