-- A look-up by a place finds what is open there.
use Rattle.std.proofs.Common.{◌∙◌, ap, List}
use Rattle.rv_account.specs.state.State.{OpenPlace}
use Rattle.rv_machine.specs.open_places.OpenMap.{found_at}
use Rattle.rv_machine.proofs.OfOpenPlaces.Kept.{looked_up}
use Rattle.rv_machine.proofs.open_places.opens.OpenMap.get.Goals as goal

pub returns : goal.returns
returns c =
    c.get.ensures.value ∙ looked_up c.self.inside.places.entries c.args.place c.self.invariant.under
    ∙ ap (λ (all : List OpenPlace). found_at all c.args.place) c.self.view_is
