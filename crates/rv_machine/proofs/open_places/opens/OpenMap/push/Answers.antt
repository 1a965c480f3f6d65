-- An insertion after all others adds to the list's end.
use Rattle.std.proofs.Common.{◌++◌, ◌∷◌, ◌∙◌, [], ap, subst, sym, List}
use Rattle.rv_account.specs.state.State.{OpenPlace}
use Rattle.rv_machine.specs.open_places.OpenMap.{StandBelow}
use Rattle.rv_machine.proofs.OfOpenPlaces.Kept.{more_open, more_values}
use Rattle.rv_machine.proofs.open_places.opens.OpenMap.push.Goals as goal

pub invariant_of-self-2 : goal.invariant_of-self-2
invariant_of-self-2 c =
    more_open c.self.inside.places.entries _ c.args.opened c.self.invariant
    (subst (λ (all : List OpenPlace). StandBelow all c.args.opened.place) (sym c.self.view_is) c.requires)
    c.in_ok-insert.ensures.entries

pub returns-clause-ok : goal.returns-clause-ok
returns-clause-ok c =
    more_values c.self.inside.places.entries _ c.args.opened c.self.invariant
    (subst (λ (all : List OpenPlace). StandBelow all c.args.opened.place) (sym c.self.view_is) c.requires)
    c.in_ok-insert.ensures.entries
    ∙ ap (λ (all : List OpenPlace). all ++ c.args.opened ∷ []) c.self.view_is
