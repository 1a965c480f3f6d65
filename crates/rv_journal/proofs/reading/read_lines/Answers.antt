use Rattle.std.proofs.Common.{ℕ, Err, ap, arith}
use Rattle.std.proofs.lemmas.Result.{err_from_is_err_and}
use Rattle.rv_journal.specs.declared.device.DeviceFault.TheVariants.{NoMemory}
use Rattle.rv_journal.proofs.Causes.{memory_not_failed, open_number, reopen_why}
use Rattle.rv_journal.proofs.Handed.{not_read, read_on}
use Rattle.rv_journal.proofs.Looking.{looked}
use Rattle.rv_journal.proofs.reading.read_lines.Goals as goal

pub returns-clause-reads : goal.returns-clause-reads
returns-clause-reads g c =
    read_on g.D.Device.disk g.R.JournalReader.takes g.R.JournalReader.refuses c.sync.new.self
    c.read_pieces.new.device c.args.reader.now c.read_pieces.new.reader c.args.device.now c.sync.ensures.kept
    c.read_pieces.result c.read_pieces.ensures

pub returns-in_err-sync-clause-reads : goal.returns-in_err-sync-clause-reads
returns-in_err-sync-clause-reads g c =
    let exit = err_from_is_err_and c.from_residual.result c.from_residual.ensures.1 in
    rw (exit.1, exit.2) (not_read g.D.Device.disk g.R.JournalReader.takes g.R.JournalReader.refuses
    c.args.device.now c.sync.new.self c.args.reader.now c.args.reader.now {T = ℕ} _
    (looked g.D.Device.disk c.args.device.now c.sync.new.self c.sync.ensures.kept)
    (λ is. c.in_err-sync.ensures.cause.failed (ap Err (reopen_why _ is)))
    (λ is. omega (arith, ap open_number is)) tt)

pub returns-in_err-room-clause-reads : goal.returns-in_err-room-clause-reads
returns-in_err-room-clause-reads g c =
    let exit = err_from_is_err_and c.from_residual-in_err-room.result c.from_residual-in_err-room.ensures.1 in
    rw (exit.1, exit.2) (not_read g.D.Device.disk g.R.JournalReader.takes g.R.JournalReader.refuses
    c.args.device.now c.sync.new.self c.args.reader.now c.args.reader.now {T = ℕ} _
    (looked g.D.Device.disk c.args.device.now c.sync.new.self c.sync.ensures.kept)
    (λ is. absurd (memory_not_failed (reopen_why NoMemory is))) (λ is. omega (arith, ap open_number is)) tt)
