-- Where the body that was read is no answer's, or its reading found no memory.
use Rattle.std.proofs.Common.{subst}
use Rattle.std.proofs.lemmas.Result.{err_from_is_err_and}
use Rattle.rv_text.specs.Bodies.{Decodes, IsAnswerBody}
use Rattle.rv_text.specs.declared.answer.Answer.{Answer}
use Rattle.rv_frame.specs.Cut.{frame_bytes}
use Rattle.rv_client.specs.Link.{link}
use Rattle.rv_client.proofs.Asking.{told_text}
use Rattle.rv_client.proofs.link.exchange.Goals as goal

pub returns-in_err-decode_answer : goal.returns-in_err-decode_answer
returns-in_err-decode_answer g c =
    let told = err_from_is_err_and c.from_residual-in_err-decode_answer.result
    c.from_residual-in_err-decode_answer.ensures.1 in
    let wrote = c.in_ok-write_frame.ensures in
    let read = c.in_ok-read_frame.ensures in
    rw (told.1, told.2) (told_text g.R.Read.remaining g.W.Write.contents (frame_bytes c.args.request.now)
    (link c.args.source.now c.args.sink.now)
    (link c.read_frame.new.source c.write_frame.new.sink) c.read_frame.new.body.items
    c.in_err-decode_answer.field-0.0 read.is_body (record { sent = wrote.frame; given = read.given })
    (record {
      read_before = read.unfailed.before;
      read_after = read.unfailed.after;
      write_before = wrote.ok.0;
      write_after = wrote.ok.1;
    })
    c.decode_answer.result c.in_err-decode_answer.was
    (subst (λ b. Decodes Answer IsAnswerBody b c.decode_answer.result)
    c.as_slice.ensures.value c.decode_answer.ensures))
