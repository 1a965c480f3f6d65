-- It tells another reply; or the same by the same call, in another line; or neither.
use Rattle.std.proofs.Common.{ap, inl, inr, refl, sym, ◌∙◌}
use Rattle.std.proofs.lemmas.Bool.{false≢true}
use Rattle.rv_replies.specs.declared.findings.Told.{Told}
use Rattle.rv_replies.proofs.FirstLines.{one_told}
use Rattle.rv_replies.proofs.records.compared.Goals as goal
use Rattle.rv_replies.proofs.records.compared.Goals.{
  else-first-index-via-then-first-index+else-is_same,
  else-first-index-via-else-first-index,
}

pub returns-then-is_same : goal.returns-then-is_same
returns-then-is_same c key =
    let reply = c.is_same_reply.ensures.0 c.if-not-is_same_reply.false in
    let call = c.is_same.ensures.0 c.if-is_same.true in
    inr (inl (one_told c.args.own.now c.args.told.now key call reply, c.if-first-index.true, refl))

pub returns : goal.returns
returns c key =
    let reply = c.is_same_reply.ensures.0 c.if-not-is_same_reply.false in
    elim c.else-first-index.branch [
      | else-first-index-via-then-first-index+else-is_same w ↦ inr (inr (
        reply,
        λ same. absurd (false≢true (sym w.if-is_same.false
            ∙ w.is_same.ensures.1 (ap (λ (t : Told). t.call) same))),
        refl,
      ))
      | else-first-index-via-else-first-index w ↦ inr (inr (reply, λ same. w.if-first-index.false, refl))
    ]
