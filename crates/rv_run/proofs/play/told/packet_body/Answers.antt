-- The body is that of the answer.
use Rattle.std.proofs.Common.{◌∙◌, IfSome, ap, option_map, subst, sym}
use Rattle.rv_text.specs.Limits.{FitsAnswer}
use Rattle.rv_run.proofs.OfPlay.Results.{written_of}
use Rattle.rv_run.proofs.play.told.packet_body.Goals as goal

pub returns : goal.returns
returns c =
    let fits : FitsAnswer c.unwrap-answer.result.now = subst (λ o. IfSome o (λ a. FitsAnswer a.now))
    c.unwrap-answer.ensures c.answer_packet.ensures.fits in
    written_of c.args.world.now c.args.packet c.unwrap-answer.result.now c.encode_answer.result
    (sym (ap (option_map (λ r. r.now)) c.unwrap-answer.ensures) ∙ c.answer_packet.ensures.told)
    fits c.encode_answer.ensures.text (c.encode_answer.ensures.short fits)
