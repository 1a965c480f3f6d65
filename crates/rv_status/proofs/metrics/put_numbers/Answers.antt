-- The parts come one after another.
use Rattle.std.proofs.Common.{sym, append-nil}
use Rattle.std.proofs.lemmas.Result.{on_ok_weaker}
use Rattle.rv_status.specs.Rows.{number_rows, reading_row}
use Rattle.rv_status.specs.Texts.{row_text}
use Rattle.rv_status.proofs.Told.{part_told}
use Rattle.rv_status.proofs.metrics.put_numbers.Goals as goal

pub returns : goal.returns
returns c =
    let told = part_told row_text reading_row (number_rows c.args.numbers.now) in
    let first = told 0 17 _ c.service_readings.ensures _ _ _ (sym (append-nil _))
    c.in_ok-put_readings.ensures in
    let second = told 17 12 _ c.fault_readings.ensures _ _ _ first c.in_ok-put_readings-2.ensures in
    let third = told 29 14 _ c.refusal_readings.ensures _ _ _ second c.in_ok-put_readings-3.ensures in
    on_ok_weaker c.put_readings-4.result (told 43 16 _ c.answer_readings.ensures _ _ _ third)
    c.put_readings-4.ensures
