use Rattle.std.proofs.Common.{arith}
use Rattle.rv_journal.proofs.Clearing.{cleared_on, keeps_lines}
use Rattle.rv_journal.proofs.opening.clear_piece.Goals as goal

pub returns-in_err-rewrite-clause-kept : goal.returns-in_err-rewrite-clause-kept
returns-in_err-rewrite-clause-kept g c =
    keeps_lines g.D.Device.disk c.args.end c.args.at c.args.filled c.args.device.now c.rewrite.new.device
    c.requires.cleared c.requires.after c.args.zeros.now c.requires.zeros c.min-count.result
    (omega (arith, c.min-count.ensures)) (omega (arith, c.min-count.ensures, c.requires.before))
    c.rewrite.ensures.rewrites

pub returns-clause-kept : goal.returns-clause-kept
returns-clause-kept g c =
    keeps_lines g.D.Device.disk c.args.end c.args.at c.args.filled c.args.device.now c.rewrite.new.device
    c.requires.cleared c.requires.after c.args.zeros.now c.requires.zeros c.min-count.result
    (omega (arith, c.min-count.ensures)) (omega (arith, c.min-count.ensures, c.requires.before))
    c.rewrite.ensures.rewrites

pub returns-clause-cleared : goal.returns-clause-cleared
returns-clause-cleared g c told =
    cleared_on g.D.Device.disk c.args.end c.args.at c.args.filled c.args.device.now (c.requires.cleared told)
    c.requires.after c.args.zeros.now c.requires.zeros c.min-count.result (omega (arith, c.min-count.ensures))
    (omega (arith, c.min-count.ensures, c.requires.before)) c.rewrite.new.device
    (c.in_ok-rewrite.ensures.stored told)
