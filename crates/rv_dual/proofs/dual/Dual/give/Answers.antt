-- What is parked stands after the other items, and no consumer waits.
use Rattle.std.proofs.Common.{◌<◌, sym, subst}
use Rattle.std.specs.List.{All}
use Rattle.rv_dual.specs.declared.giver.Offer.{Offer}
use Rattle.rv_dual.specs.Offers.{place_of}
use Rattle.rv_dual.specs.Queue.{Queue}
use Rattle.rv_dual.proofs.Sides.{dual_with_giver}
use Rattle.rv_dual.proofs.dual.Dual.give.Goals as goal

pub invariant_of-self-in-None : goal.invariant_of-self-in-None
invariant_of-self-in-None c =
    let own = subst (λ (parked : Offer). All (λ o. place_of o < place_of parked) c.args.self.now.givers)
    (sym c.park.ensures) c.requires.above.givers in
    let above = subst (λ (q : Queue). All (λ o. place_of o < place_of c.park.result) q.givers)
    (sym c.self.view_is) own in
    dual_with_giver c.self.inside.givers.waiting c.push.new.self.waiting c.self.inside.takers.waiting
    c.pop.new.self.waiting c.park.result c.self.invariant above c.in-None.ensures.nobody
    c.in-None.ensures.oldest c.push.ensures.last
