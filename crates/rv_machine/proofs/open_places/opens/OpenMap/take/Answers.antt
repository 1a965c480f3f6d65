-- A removal leaves the others in the list.
use Rattle.std.proofs.Common.{◌∙◌, ap, List}
use Rattle.rv_account.specs.state.State.{OpenPlace}
use Rattle.rv_machine.specs.open_places.OpenMap.{found_at, all_but}
use Rattle.rv_machine.proofs.OfOpenPlaces.Kept.{less_open, looked_up, removed, values_is}
use Rattle.rv_machine.proofs.open_places.opens.OpenMap.take.Goals as goal

pub invariant_of-self : goal.invariant_of-self
invariant_of-self c =
    less_open c.self.inside.places.entries _ c.args.place c.self.invariant c.remove.ensures.entries

pub returns-clause-found : goal.returns-clause-found
returns-clause-found c =
    c.remove.ensures.value ∙ looked_up c.self.inside.places.entries c.args.place c.self.invariant.under
    ∙ ap (λ (all : List OpenPlace). found_at all c.args.place) c.self.view_is

pub returns-clause-rest : goal.returns-clause-rest
returns-clause-rest c =
    values_is c.remove.ensures.entries
    ∙ removed c.self.inside.places.entries c.args.place c.self.invariant.under c.self.invariant.rise
    ∙ ap (λ (all : List OpenPlace). all_but all c.args.place) c.self.view_is
