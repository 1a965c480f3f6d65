use Rattle.std.proofs.Common.{◌≤◌, length, refl, ◌∙◌, ap, arith}
use Rattle.rv_journal.proofs.Beginning.{looked_zeroed, not_longer, then_zeroed, zeroed}
use Rattle.rv_journal.proofs.Looking.{looked}
use Rattle.rv_journal.proofs.creating.put_zeros.Goals as goal

pub returns-in_err-is_longer-clause-any_moment : goal.returns-in_err-is_longer-clause-any_moment
returns-in_err-is_longer-clause-any_moment g c told =
    looked_zeroed g.D.Device.disk c.args.device.now (length c.args.zeros.now) c.is_longer.new.device
    (looked g.D.Device.disk c.args.device.now c.is_longer.new.device c.is_longer.ensures.kept)

pub returns-then-branch-clause-long : goal.returns-then-branch-clause-long
returns-then-branch-clause-long g c _ = record {
  looks = looked g.D.Device.disk c.args.device.now c.is_longer.new.device c.is_longer.ensures.kept;
  long = λ told. (c.in_ok-is_longer.ensures.longer told).0 c.if-branch.true;
}

pub returns-then-branch-clause-any_moment : goal.returns-then-branch-clause-any_moment
returns-then-branch-clause-any_moment g c told =
    looked_zeroed g.D.Device.disk c.args.device.now (length c.args.zeros.now) c.is_longer.new.device
    (looked g.D.Device.disk c.args.device.now c.is_longer.new.device c.is_longer.ensures.kept)

pub rewrite-requires : goal.rewrite-requires
rewrite-requires g c = record { within = λ told. omega arith }

pub returns-in_err-rewrite-clause-any_moment : goal.returns-in_err-rewrite-clause-any_moment
returns-in_err-rewrite-clause-any_moment g c told =
    then_zeroed g.D.Device.disk c.args.device.now (length c.args.zeros.now) c.is_longer.new.device
    c.rewrite.new.device
    (looked g.D.Device.disk c.args.device.now c.is_longer.new.device c.is_longer.ensures.kept)
    c.args.zeros.now c.requires refl c.rewrite.ensures.rewrites

pub returns-clause-any_moment : goal.returns-clause-any_moment
returns-clause-any_moment g c told =
    then_zeroed g.D.Device.disk c.args.device.now (length c.args.zeros.now) c.is_longer.new.device
    c.rewrite.new.device
    (looked g.D.Device.disk c.args.device.now c.is_longer.new.device c.is_longer.ensures.kept)
    c.args.zeros.now c.requires refl c.rewrite.ensures.rewrites

pub returns-clause-short : goal.returns-clause-short
returns-clause-short g c _ told =
    not_longer (length c.args.zeros.now) (length (g.D.Device.disk.seen c.args.device.now))
    c.in_ok-is_longer.field-0 (c.in_ok-is_longer.ensures.longer told).1 c.if-branch.false

pub returns-clause-zeroed : goal.returns-clause-zeroed
returns-clause-zeroed g c _ told =
    let keeps = c.is_longer.ensures.kept in
    let size = length c.args.zeros.now in
    let short = returns-clause-short g c refl told in
    let still : length (g.D.Device.disk.seen c.is_longer.new.device) ≤ size =
    omega (arith, short, ap length (keeps.seen told)) in
    zeroed g.D.Device.disk c.args.device.now size c.is_longer.new.device c.rewrite.new.device
    (looked g.D.Device.disk c.args.device.now c.is_longer.new.device keeps) c.args.zeros.now c.requires refl
    still (c.in_ok-rewrite.ensures.stored (keeps.tells ∙ told))
