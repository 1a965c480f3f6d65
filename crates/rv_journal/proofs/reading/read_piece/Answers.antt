use Rattle.std.proofs.Common.{◌≡◌, Err, ◌+◌, ◌++◌, List, ℕ, take, drop, sym, ◌∙◌, ap, arith, subst}
use Rattle.std.proofs.Common.{take-append-drop}
use Rattle.std.proofs.lemmas.List.{length-take-le}
use Rattle.std.proofs.Math.Seq.{take-add}
use Rattle.std.proofs.lemmas.Result.{err_from_is_err_and}
use Rattle.rv_journal.specs.Cutter.{HasCut, HasTakenLines, RefusesFront, RefusesOn}
use Rattle.rv_journal.specs.Text.{stored_lines}
use Rattle.rv_journal.proofs.Causes.{if_refused, open_number, reopen_why, told_on}
use Rattle.rv_journal.proofs.Cutting.{refuses_sooner}
use Rattle.rv_journal.proofs.reading.read_piece.Goals as goal

-- the file's front with the bytes that were read after it
longer : (file room : List ℕ) (at count : ℕ) → take count room ≡ take count (drop at file)
    → take at file ++ take count room ≡ take (at + count) file
longer file room at count read = ap (λ (l : List ℕ). take at file ++ l) read ∙ sym (take-add at count file)

pub returns-clause-taken : goal.returns-clause-taken
returns-clause-taken g c told first had =
    let seen = g.D.Device.disk.seen c.args.device.now in
    subst (λ (l : List ℕ). HasTakenLines g.R.JournalReader.takes first l c.take_piece.new.self
    c.take_piece.new.reader)
    (longer seen c.read_at.new.room c.args.at c.in_ok-count.count (c.in_ok-count.ensures.bytes told).bytes)
    (c.in_ok-take_piece.ensures.taken first (take c.args.at seen) had)

pub returns-in_err-take_piece-clause-refused : goal.returns-in_err-take_piece-clause-refused
returns-in_err-take_piece-clause-refused g c =
    let exit = err_from_is_err_and c.from_residual-in_err-take_piece.result
    c.from_residual-in_err-take_piece.ensures.1 in
    rw (exit.1, exit.2) (if_refused c.in_err-take_piece.field-0.0 (RefusesOn g.R.JournalReader.takes
    g.R.JournalReader.refuses (take c.in_ok-count.count c.read_at.new.room) c.args.cutter.now
    c.args.reader.now) _
    (λ why refused told first had.
    let seen = g.D.Device.disk.seen c.args.device.now in
    let end = c.args.at + c.in_ok-count.count in
    subst (λ (l : List ℕ). RefusesFront g.R.JournalReader.refuses first (stored_lines l) why)
    (ap (λ (l : List ℕ). l ++ drop end seen) (longer seen c.read_at.new.room c.args.at c.in_ok-count.count
    (c.in_ok-count.ensures.bytes told).bytes) ∙ take-append-drop end seen)
    (refuses_sooner g.R.JournalReader.refuses first (take c.args.at seen ++ take c.in_ok-count.count
    c.read_at.new.room)
    (drop end seen) why (refused first (take c.args.at seen) had)))
    c.in_err-take_piece.ensures.refused)

pub returns-clause-cut : goal.returns-clause-cut
returns-clause-cut g c = subst (λ (n : ℕ). HasCut (c.args.at + n) c.take_piece.new.self)
    (length-take-le c.in_ok-count.count c.read_at.new.room c.in_ok-count.ensures.within)
    (c.in_ok-take_piece.ensures.cut c.args.at c.requires.cut)

pub returns-in_err-count-clause-filled : goal.returns-in_err-count-clause-filled
returns-in_err-count-clause-filled g c =
    let exit = err_from_is_err_and c.from_residual.result c.from_residual.ensures.1 in
    rw (exit.1, exit.2) (λ is. omega (arith, ap open_number is))

pub returns-in_err-take_piece-clause-filled : goal.returns-in_err-take_piece-clause-filled
returns-in_err-take_piece-clause-filled g c =
    let exit = err_from_is_err_and c.from_residual-in_err-take_piece.result
    c.from_residual-in_err-take_piece.ensures.1 in
    rw (exit.1, exit.2) ((told_on c.in_err-take_piece.ensures.fault).filled)

pub returns-in_err-take_piece-clause-cause : goal.returns-in_err-take_piece-clause-cause
returns-in_err-take_piece-clause-cause g c =
    let exit = err_from_is_err_and c.from_residual-in_err-take_piece.result
    c.from_residual-in_err-take_piece.ensures.1 in
    rw (exit.1, exit.2) (λ is. absurd ((told_on c.in_err-take_piece.ensures.fault).cause is))

pub returns-clause-cause : goal.returns-clause-cause
returns-clause-cause g c is = absurd (omega (arith, ap open_number is))

pub returns-clause-filled : goal.returns-clause-filled
returns-clause-filled g c is = omega (arith, ap open_number is)

pub returns-in_err-count-clause-cause : goal.returns-in_err-count-clause-cause
returns-in_err-count-clause-cause g c =
    let exit = err_from_is_err_and c.from_residual.result c.from_residual.ensures.1 in
    rw (exit.1, exit.2) (λ is. c.in_err-count.ensures.cause.failed (ap Err (reopen_why _ is)))
