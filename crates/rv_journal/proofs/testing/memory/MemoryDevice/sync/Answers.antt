use Rattle.std.proofs.Common.{◌∙◌, subst, sym}
use Rattle.rv_journal.specs.Device.{KeepsFile, Only}
use Rattle.rv_journal.specs.Memory.{MemoryState, memory_disk, memory_state}
use Rattle.rv_journal.proofs.Memories.{durable_synced, keeps_synced}
use Rattle.rv_journal.proofs.Unchanged.{nothing_kept}
use Rattle.rv_journal.proofs.testing.memory.MemoryDevice.sync.Goals as goal

pub returns-clause-durable : goal.returns-clause-durable
returns-clause-durable c told =
    let new = memory_state c.sync.new.self in
    subst (λ (old : MemoryState). Only (memory_disk.seen old) (memory_disk.may_leave new)) c.self.view_is
    (durable_synced (memory_state c.self.inside.kept) new c.in_ok-sync.ensures.synced)

pub returns-clause-kept : goal.returns-clause-kept
returns-clause-kept c =
    let new = memory_state c.sync.new.self in
    subst (λ (old : MemoryState). KeepsFile memory_disk old new) c.self.view_is
    (keeps_synced (memory_state c.self.inside.kept) new c.in_ok-sync.ensures.synced)

pub returns-in_err-sync-clause-kept : goal.returns-in_err-sync-clause-kept
returns-in_err-sync-clause-kept c =
    let same = c.in_err-sync.ensures.refused ∙ c.self.view_is in
    subst (λ (new : MemoryState). KeepsFile memory_disk c.args.self.now new) (sym same)
    (nothing_kept memory_disk c.args.self.now)
