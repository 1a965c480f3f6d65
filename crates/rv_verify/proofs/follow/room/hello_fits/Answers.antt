use Rattle.rv_machine.specs.Machines.{state_in}
use Rattle.rv_verify.proofs.OfFollow.OfAsked.Hellos.{hello_refused, hello_told}
use Rattle.rv_verify.proofs.follow.room.hello_fits.Goals as goal

pub returns-then-not-has_place : goal.returns-then-not-has_place
returns-then-not-has_place c = λ moment incarnation version time.
    hello_refused (state_in c.args.machine.now) c.requires moment time c.args.client incarnation version
    (c.has_place.ensures.space c.if-not-has_place.true) (c.has_place.ensures.idle c.if-not-has_place.true)

pub returns : goal.returns
returns c = λ moment incarnation version time.
    hello_told (state_in c.args.machine.now) c.requires moment time c.args.client incarnation version
    c.has_client.result (c.has_place.ensures.yes c.if-not-has_place.false) c.has_client.ensures
