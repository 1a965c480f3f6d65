-- The request went out, and what was gathered is all that came.
use Rattle.std.proofs.Common.{◌∙◌, List, subst, ℕ}
use Rattle.rv_frame.specs.Sink.{SinkTakes}
use Rattle.rv_end.specs.Asking.{IsStatusAnswer}
use Rattle.rv_end.specs.Told.{GivesStatus}
use Rattle.rv_end.proofs.Asked.{asked}
use Rattle.rv_end.proofs.answer.ask_status.Goals as goal

pub returns : goal.returns
returns g c =
    asked g.R.Read.remaining g.W.Write.contents c.args.host.now c.in_ok-answer.answer.items c.args.from.now
    c.gather.new.from c.args.to.now c.write_all.new.self c.read_answer.result
    (subst (SinkTakes g.W.Write.contents c.args.to.now c.write_all.new.self)
    (c.as_bytes.ensures.value ∙ c.in_ok-request.ensures) c.in_ok-write_all.ensures.bytes)
    c.in_ok-answer.ensures
    (subst (λ (bytes : List ℕ). GivesStatus (IsStatusAnswer bytes) c.read_answer.result)
    c.as_slice.ensures.value c.read_answer.ensures)
