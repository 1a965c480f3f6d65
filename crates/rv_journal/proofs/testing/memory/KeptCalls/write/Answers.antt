use Rattle.std.proofs.Common.{List, ℕ, refl, subst}
use Rattle.rv_journal.specs.Device.{Holds}
use Rattle.rv_journal.specs.Memory.{memory_state}
use Rattle.rv_journal.proofs.Memories.{bytes_written}
use Rattle.rv_journal.proofs.testing.memory.KeptCalls.write.Goals as goal

pub returns-clause-bytes : goal.returns-clause-bytes
returns-clause-bytes c =
    bytes_written (memory_state c.args.self.now) _ c.args.at c.in_ok-written.written c.args.bytes.now
    c.args.self.now.bytes.items c.in_ok-next.next.items
    (record { number = refl; first = refl; calls = c.in_ok-record.ensures.kept })
    (c.in_ok-written.ensures.items_if_clones_equal (λ y h is. is)) c.requires.bytes
    (subst (λ (l : List ℕ). Holds l c.args.at c.args.bytes.now c.in_ok-next.next.items) c.deref.ensures.value
    c.in_ok-next.ensures)

pub returns-clause-written : goal.returns-clause-written
returns-clause-written c = (
  c.in_ok-written.written,
  c.in_ok-written.ensures.items_if_clones_equal (λ y h is. is),
  record { number = refl; first = refl; calls = c.in_ok-record.ensures.kept },
)
