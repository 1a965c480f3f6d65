use Rattle.rv_journal.proofs.Mixing.{rewrites_written, rewrites_synced}
use Rattle.rv_journal.proofs.rewriting.rewrite.Goals as goal

pub returns-in_err-write_at-clause-rewrites : goal.returns-in_err-write_at-clause-rewrites
returns-in_err-write_at-clause-rewrites g c = rewrites_written g.D.Device.disk c.args.at c.args.bytes.now
    c.args.device.now c.write_at.new.self c.write_at.ensures.writes

pub returns-clause-rewrites : goal.returns-clause-rewrites
returns-clause-rewrites g c =
    rewrites_synced g.D.Device.disk c.args.at c.args.bytes.now c.args.device.now c.write_at.new.self
    c.write_at.ensures.writes c.sync.new.self c.sync.ensures.kept
