-- Each turn reads on, up to the first fault.
use Rattle.std.proofs.Common.{refl, ◌∙◌}
use Rattle.std.proofs.lemmas.Option.{IfSome_then}
use Rattle.rv_app.proofs.Following.{begins, ends_at, goes_on}
use Rattle.rv_app.proofs.growing.follow.Goals as goal

pub loop-init : goal.loop-init
loop-init g c = record {
  ready = c.new-audit.ensures.ready;
  lines = refl;
  read = begins c.new-audit.result c.args.records.now (g.F.Read.remaining c.args.file) _
      c.in_ok-reader.ensures
      c.new-audit.ensures.piece (c.new-audit.ensures.read c.args.records.now c.requires);
}

pub loop-preserved : goal.loop-preserved
loop-preserved g c = record {
  ready = c.in-Ok-End.ensures.ready;
  lines = c.read_on.ensures.lines ∙ c.loop.invariant.lines;
  read = IfSome_then (g.F.Read.remaining c.args.file) c.loop.invariant.read
      (λ bytes so_far. goes_on so_far c.read_on.new.self c.read_on.new.records _ _ c.in-Ok-End.field-0-is
      (c.in-Ok-End.ensures.read _ so_far.ahead so_far.read so_far.is_left));
}

pub returns-in-Ok-Fault-clause-first : goal.returns-in-Ok-Fault-clause-first
returns-in-Ok-Fault-clause-first g c =
    IfSome_then (g.F.Read.remaining c.args.file) c.loop.invariant.read
    (λ bytes so_far. ends_at so_far c.read_on.new.self c.read_on.new.records _ _ c.in-Ok-Fault.field-0-is
    (c.in-Ok-Fault.ensures.read _ so_far.ahead so_far.read so_far.is_left) c.break_off.result
    c.break_off.ensures.torn.0 c.break_off.ensures.found c.break_off.ensures.fault)
