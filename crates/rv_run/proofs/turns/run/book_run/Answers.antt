-- A run that read its input and answered each line, or a write that failed.
use Rattle.std.proofs.Common.{◌≡◌, subst}
use Rattle.std.proofs.lemmas.Result.{err_from_is_err_and}
use Rattle.rv_run.specs.declared.output.OutputFault.{OutputFault}
use Rattle.rv_run.specs.turns.Outcomes.{StoppedWriting}
use Rattle.rv_run.specs.turns.Unanswered.{unanswered}
use Rattle.rv_run.proofs.OfTurns.Answering.{all_sent, front_sent}
use Rattle.rv_run.proofs.turns.run.book_run.Goals as goal

pub returns-in_err-answer_lines-clause-stopped_writing :
    goal.returns-in_err-answer_lines-clause-stopped_writing
returns-in_err-answer_lines-clause-stopped_writing g c fault is =
    let gave = err_from_is_err_and c.from_residual-in_err-answer_lines.result
    c.from_residual-in_err-answer_lines.ensures.1 in
    let same : c.in_err-answer_lines.field-0.0 ≡ fault = cc in
    subst (λ (f : OutputFault). StoppedWriting g.R.Read.remaining g.W.Write.contents c.args.epoch
    c.args.source.now c.read_input.new.source c.args.sink.now c.answer_lines.new.sink f.sent) same
    (front_sent g.R.Read.remaining g.W.Write.contents c.args.epoch c.args.source.now c.read_input.new.source
    c.args.sink.now c.answer_lines.new.sink c.in_ok-book.book c.in_ok-bytes.bytes.items
    (unanswered c.new-input.result)
    c.in_ok-bytes.ensures.all c.in_ok-bytes.ensures.bytes c.new-input.ensures c.in_ok-book.ensures.epoch
    c.in_ok-book.ensures.opened c.in_ok-book.ensures.empty c.in_err-answer_lines.field-0.0.sent
    c.in_err-answer_lines.ensures.part c.in_err-answer_lines.ensures.told)

pub returns-clause-ran : goal.returns-clause-ran
returns-clause-ran g c =
    all_sent g.R.Read.remaining g.W.Write.contents c.args.epoch c.args.source.now c.read_input.new.source
    c.args.sink.now c.answer_lines.new.sink c.in_ok-book.book c.in_ok-bytes.bytes.items
    (unanswered c.new-input.result)
    c.in_ok-bytes.ensures.all c.in_ok-bytes.ensures.bytes c.new-input.ensures c.in_ok-book.ensures.epoch
    c.in_ok-book.ensures.opened c.in_ok-book.ensures.empty c.in_ok-answer_lines.ensures.all
    c.in_ok-answer_lines.ensures.told
