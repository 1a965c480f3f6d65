-- What was sent keeps its limits.
use Rattle.rv_world.proofs.OfParts.Words.{List, subst, sym, Contains}
use Rattle.rv_world.specs.declared.parts.packet.Packet.{Packet}
use Rattle.rv_world.proofs.world.World.answer_packet.Goals as goal

pub returns-clause-fits : goal.returns-clause-fits
returns-clause-fits c =
    let found = c.in_ok-get.ensures.lookup in
    let sent = c.in_ok-get.field-0.now in
    c.self.invariant.fits.answers sent (subst (λ (l : List Packet). Contains l sent) c.deref.ensures.value
    (c.args.packet, found.3.0, sym found.1))
