use Rattle.std.proofs.Common.{subst}
use Rattle.rv_journal.specs.Device.{Holds, WritesFile}
use Rattle.rv_journal.specs.Memory.{MemoryState, memory_disk, memory_state}
use Rattle.rv_journal.proofs.Memories.{holds_written, writes_written}
use Rattle.rv_journal.proofs.testing.memory.MemoryDevice.write_at.Goals as goal

pub returns-clause-written : goal.returns-clause-written
returns-clause-written c told =
    let new = memory_state c.write.new.self in
    subst (λ (old : MemoryState). Holds (memory_disk.seen old) c.args.at c.args.bytes.now
    (memory_disk.seen new))
    c.self.view_is (holds_written c.args.at c.args.bytes.now (memory_state c.self.inside.kept) new
    c.in_ok-write.ensures.written)

pub returns-clause-writes : goal.returns-clause-writes
returns-clause-writes c =
    let new = memory_state c.write.new.self in
    subst (λ (old : MemoryState). WritesFile memory_disk c.args.at c.args.bytes.now old new) c.self.view_is
    (writes_written c.args.at c.args.bytes.now (memory_state c.self.inside.kept) new
    c.in_ok-write.ensures.written)
