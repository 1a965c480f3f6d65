-- One wait more is over at each pass.
use Rattle.std.proofs.Common.{refl, ◌∙◌}
use Rattle.rv_machine.proofs.InTurn.{ends_more, ends_none, ends_one}
use Rattle.rv_machine.proofs.tables.Holdings.end_due.Goals as goal

pub loop-init : goal.loop-init
loop-init c = record {
  ready = c.requires.ready;
  numbered = c.requires.numbered;
  moment = refl;
  ends = ends_none c.args.self.now c.args.moment;
  room = refl;
}

pub loop-preserved : goal.loop-preserved
loop-preserved c = record {
  ready = c.end_next.ensures.ready;
  numbered = c.end_next.ensures.numbered;
  moment = refl;
  ends = ends_more c.args.self.now c.loop.self c.end_next.new.self c.args.moment c.loop.invariant.ends
      (ends_one c.loop.self c.end_next.new.self c.args.moment (c.end_next.ensures.one c.loop-test.true));
  room = c.end_next.ensures.room ∙ c.loop.invariant.room;
}
