use Rattle.rv_machine.specs.Machines.{state_in}
use Rattle.rv_verify.proofs.OfFollow.OfAsked.Hellos.{cancel_told}
use Rattle.rv_verify.proofs.follow.room.cancel_fits.Goals as goal

pub returns : goal.returns
returns c = λ moment time.
    cancel_told (state_in c.args.machine.now) c.requires moment time c.args.key.now c.has_place.result
    c.has_place.ensures.yes c.has_place.ensures.space c.has_place.ensures.idle
