use Rattle.std.proofs.lemmas.Result.{err_from_is_err_and}
use Rattle.rv_journal.proofs.Handed.{stops}
use Rattle.rv_journal.proofs.reading.read_pieces.Goals as goal

pub returns-in_err-count : goal.returns-in_err-count
returns-in_err-count g c =
    let exit = err_from_is_err_and c.from_residual.result c.from_residual.ensures.1 in
    rw (exit.1, exit.2) (stops g.D.Device.disk g.R.JournalReader.takes g.R.JournalReader.refuses
    c.args.device.now c.read_piece.new.device c.args.reader.now c.read_piece.new.reader c.loop-cutter.device
    c.loop-cutter.at c.loop-cutter.cutter c.loop-cutter.reader c.in_err-count.field-0.0
    c.loop-cutter.invariant.looks c.read_piece.ensures.kept c.loop-cutter.invariant.taken
    c.in_err-count.ensures.cause c.in_err-count.ensures.filled c.in_err-count.ensures.refused)
