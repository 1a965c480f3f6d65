use Rattle.std.proofs.Common.{◌≡◌, ◌<◌, ◌≤◌, true, false, ℕ, length, take, drop, refl}
use Rattle.std.proofs.Common.{arith, take-append-drop}
use Rattle.std.specs.Prelude.{nat_lt}
use Rattle.std.proofs.lemmas.Bool.Decides.{nat_tests}
use Rattle.std.proofs.lemmas.Result.{err_from_is_err_and}
use Rattle.rv_journal.proofs.Causes.{cut_well, memory_was_refused, told_on}
use Rattle.rv_journal.proofs.Cutting.{after_zero, piece_lines, piece_taken, piece_text, refused_sooner}
use Rattle.rv_journal.proofs.cutter.LineCutter.take_piece.Goals as goal

pub returns-then-self-clause-taken : goal.returns-then-self-clause-taken
returns-then-self-clause-taken g c first front had = after_zero g.R.JournalReader.takes first front
    c.args.self.now c.args.reader.now had c.args.piece.now c.if-self.true

pub take_lines-requires-clause-lines : goal.take_lines-requires-clause-lines
take_lines-requires-clause-lines g c =
    let ends = c.ends_of-ends.result in
    let is = c.ends_of-ends.ensures in
    piece_lines c.args.piece.now ends.lines ends.text is.within is.lines is.text

pub take_lines-requires-clause-text : goal.take_lines-requires-clause-text
take_lines-requires-clause-text g c =
    let ends = c.ends_of-ends.result in
    let is = c.ends_of-ends.ensures in
    piece_text c.args.piece.now ends.lines ends.text is.within is.lines is.text

pub returns-in_err-take_lines-clause-refused : goal.returns-in_err-take_lines-clause-refused
returns-in_err-take_lines-clause-refused g c =
    let exit = err_from_is_err_and c.from_residual.result c.from_residual.ensures.1 in
    rw (exit.1, exit.2) (refused_sooner g.R.JournalReader.takes g.R.JournalReader.refuses
    (take c.ends_of-ends.result.lines c.args.piece.now) c.args.piece.now
    (drop c.ends_of-ends.result.lines c.args.piece.now)
    (take-append-drop c.ends_of-ends.result.lines c.args.piece.now)
    c.args.self.now c.args.reader.now c.in_err-take_lines.field-0.0 c.in_err-take_lines.ensures.refused)

not_below : (n m : ℕ) → nat_lt n m ≡ false → m ≤ n
not_below n m is = grind (arith, nat_tests)

below : (n m : ℕ) → nat_lt n m ≡ true → n < m
below n m is = grind (arith, nat_tests)

pub returns-clause-taken : goal.returns-clause-taken
returns-clause-taken g c first front had =
    let ends = c.ends_of-ends.result in
    let is = c.ends_of-ends.ensures in
    let size = length c.args.piece.now in
    piece_taken c.args.piece.now ends.lines ends.text is.within is.lines is.text g.R.JournalReader.takes first
    front
    c.take_lines.new.self c.take_lines.new.reader (c.in_ok-take_lines.ensures.taken first front had)
    c.take_lines.ensures.going _ refl c.in_ok-extend_from_slice.ensures.items
    (not_below ends.text size) (below ends.text size) is.inside

pub returns-then-self-clause-fault : goal.returns-then-self-clause-fault
returns-then-self-clause-fault g c = cut_well _

pub returns-in_err-take_lines-clause-fault : goal.returns-in_err-take_lines-clause-fault
returns-in_err-take_lines-clause-fault g c =
    let exit = err_from_is_err_and c.from_residual.result c.from_residual.ensures.1 in
    rw (exit.1, exit.2) (told_on c.in_err-take_lines.ensures.fault)

pub returns-in_err-extend_from_slice-clause-fault : goal.returns-in_err-extend_from_slice-clause-fault
returns-in_err-extend_from_slice-clause-fault g c =
    let exit = err_from_is_err_and c.from_residual-in_err-extend_from_slice.result
    c.from_residual-in_err-extend_from_slice.ensures.1 in
    rw (exit.1, exit.2) (memory_was_refused)

pub returns-clause-fault : goal.returns-clause-fault
returns-clause-fault g c = cut_well _
