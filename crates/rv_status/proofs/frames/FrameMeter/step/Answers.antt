-- All of a body that is missing, or a part of it.
use Rattle.std.proofs.Common.{◌∙◌, ap, arith, sym}
use Rattle.rv_status.specs.declared.frames.FrameMeter.{FrameMeter}
use Rattle.rv_status.specs.Frames.{after, ends}
use Rattle.rv_status.proofs.Framing.{body_after, body_ends, missing, part_after, part_ends}
use Rattle.rv_status.proofs.frames.FrameMeter.step.Goals as goal

pub returns-in-Body-clause-after : goal.returns-in-Body-clause-after
returns-in-Body-clause-after c =
    ap (λ (m : FrameMeter). after m c.args.rest.now) c.in-Body.is
    ∙ body_after c.in-Body.more c.args.rest.now c.if-more-rest.true

pub returns-in-Body-clause-ends : goal.returns-in-Body-clause-ends
returns-in-Body-clause-ends c =
    ap (λ (m : FrameMeter). ends m c.args.rest.now) c.in-Body.is
    ∙ body_ends c.in-Body.more c.args.rest.now c.if-more-rest.true

pub returns-in-Body-2-clause-after : goal.returns-in-Body-2-clause-after
returns-in-Body-2-clause-after c =
    ap (λ (m : FrameMeter). after m c.args.rest.now) c.in-Body-2.is
    ∙ part_after c.in-Body-2.more c.args.rest.now
    (omega (arith, c.if-more-rest.false, ap missing (sym c.in-Body.is ∙ c.in-Body-2.is)))

pub returns-in-Body-2-clause-ends : goal.returns-in-Body-2-clause-ends
returns-in-Body-2-clause-ends c =
    ap (λ (m : FrameMeter). ends m c.args.rest.now) c.in-Body-2.is
    ∙ part_ends c.in-Body-2.more c.args.rest.now
    (omega (arith, c.if-more-rest.false, ap missing (sym c.in-Body.is ∙ c.in-Body-2.is)))
