use Rattle.rv_journal.proofs.Systems.{system_writes}
use Rattle.rv_journal.proofs.system.SystemFileDevice.write_at.Goals as goal

pub returns-in-Ok-clause-writes : goal.returns-in-Ok-clause-writes
returns-in-Ok-clause-writes c = system_writes c.args.at c.args.bytes.now c.args.self.now c.args.self.now

pub returns-in-Err-clause-writes : goal.returns-in-Err-clause-writes
returns-in-Err-clause-writes c =
    system_writes c.args.at c.args.bytes.now c.args.self.now c.fail-in-Err.new.self

pub returns-then-not-is_within-clause-writes : goal.returns-then-not-is_within-clause-writes
returns-then-not-is_within-clause-writes c =
    system_writes c.args.at c.args.bytes.now c.args.self.now c.fail.new.self
