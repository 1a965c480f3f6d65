-- What was opened last is taken out again.
use Rattle.std.proofs.Common.{◌∙◌, ap, List}
use Rattle.rv_account.specs.state.State.{OpenPlace}
use Rattle.rv_machine.specs.open_places.OpenMap.{all_but}
use Rattle.rv_machine.proofs.OfOpenPlaces.Parking.{on_err_back, taken_back}
use Rattle.rv_machine.proofs.open_places.table.lay.Goals as goal

pub returns-in-Some-clause-opens : goal.returns-in-Some-clause-opens
returns-in-Some-clause-opens c =
    on_err_back _ _ _ c.lay_limit.result c.lay_limit.ensures.opens
    (ap (λ (l : List OpenPlace). all_but l c.args.opened.place) c.in_ok-push.ensures.ok
    ∙ taken_back c.args.opens.now c.args.opened c.requires)
