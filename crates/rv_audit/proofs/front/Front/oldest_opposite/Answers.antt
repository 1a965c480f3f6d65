use Rattle.rv_audit.proofs.Words.{◌∙◌, ap, opposite, sym}
use Rattle.rv_audit.proofs.Saying.{oldest_said}
use Rattle.rv_audit.proofs.front.Front.oldest_opposite.Goals as goal

pub returns : goal.returns
returns c = oldest_said c.args.self.now c.requires c.args.call.now c.args.places.now _ c.oldest_beside.result
    (ap opposite (sym c.side.ensures) ∙ sym c.opposite.ensures ∙ c.in_ok-opposite.was)
    c.oldest_beside.ensures.some c.oldest_beside.ensures.none
