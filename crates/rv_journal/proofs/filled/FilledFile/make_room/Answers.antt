use Rattle.std.proofs.Common.{ap, arith}
use Rattle.rv_journal.proofs.Causes.{store_number}
use Rattle.rv_journal.proofs.Rooming.{begun, goes_further}
use Rattle.rv_journal.proofs.filled.FilledFile.make_room.Goals as goal

pub loop-self-init : goal.loop-self-init
loop-self-init g c = (c.requires.ready, begun g.D.Device.disk c.args.self.now c.requires.ready)

pub overflow_sub-self : goal.overflow_sub-self
overflow_sub-self g c = omega (arith, c.loop-self.invariant.0.behind)

pub returns-then-self-ge-MOST-clause-text : goal.returns-then-self-ge-MOST-clause-text
returns-then-self-ge-MOST-clause-text g c = c.loop-self.invariant.1

pub returns-then-self-ge-MOST-clause-full : goal.returns-then-self-ge-MOST-clause-full
returns-then-self-ge-MOST-clause-full g c _ = omega (
  arith,
  c.if-self-ge-MOST.true,
  c.loop-self-test.true,
  c.loop-self.invariant.0.behind,
  c.loop-self.invariant.1.end,
)

pub fill-requires-clause-ready : goal.fill-requires-clause-ready
fill-requires-clause-ready g c = c.loop-self.invariant.0

pub fill-requires-clause-fits : goal.fill-requires-clause-fits
fill-requires-clause-fits g c = omega (arith, c.if-self-ge-MOST.false)

pub loop-self-smaller : goal.loop-self-smaller
loop-self-smaller g c = omega (arith, c.in_ok-fill.ensures.filled, c.if-self-ge-MOST.false)

pub loop-self-preserved : goal.loop-self-preserved
loop-self-preserved g c = (
  c.in_ok-fill.ensures.ready,
  goes_further g.D.Device.disk c.args.self.now c.loop-self.self c.fill.new.self
      c.loop-self.invariant.1 c.fill.ensures.text,
)

pub returns-in_err-fill-clause-text : goal.returns-in_err-fill-clause-text
returns-in_err-fill-clause-text g c = goes_further g.D.Device.disk c.args.self.now c.loop-self.self
    c.fill.new.self c.loop-self.invariant.1 c.fill.ensures.text

pub returns-clause-ready : goal.returns-clause-ready
returns-clause-ready g c = c.loop-self.invariant.0

pub returns-clause-room : goal.returns-clause-room
returns-clause-room g c = omega (arith, c.loop-self-test.false)

pub returns-clause-text : goal.returns-clause-text
returns-clause-text g c = c.loop-self.invariant.1

pub returns-then-self-ge-MOST-clause-goes_on : goal.returns-then-self-ge-MOST-clause-goes_on
returns-then-self-ge-MOST-clause-goes_on g c _ = c.loop-self.invariant.0

pub returns-then-self-ge-MOST-clause-cause : goal.returns-then-self-ge-MOST-clause-cause
returns-then-self-ge-MOST-clause-cause g c is = absurd (omega (arith, ap store_number is))
