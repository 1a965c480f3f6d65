-- The first place of a line is that of its first.
use Rattle.std.proofs.Common.{◌∙◌, ap, sym, List}
use Rattle.std.specs.Prelude.{slice_get}
use Rattle.rv_text.specs.declared.call.Side.TheVariants.{Gives}
use Rattle.rv_account.specs.state.State.{OpenPlace}
use Rattle.rv_machine.specs.open_places.OpenMap.{line_in}
use Rattle.rv_machine.proofs.OfOpenPlaces.Fronts.{first_found}
use Rattle.rv_machine.proofs.open_places.table.OpenTable.front.Goals as goal

pub returns : goal.returns
returns c =
    c.get.ensures
    ∙ first_found c.self.inside.opens c.self.inside.wait_queues c.self.inside.waiting c.in_ok-front.field-0
    c.self.inside.due (Gives c.args.queue) c.self.invariant
    (sym c.in_ok-front.ensures)
    ∙ ap (λ (all : List OpenPlace). slice_get (line_in all (Gives c.args.queue)) 0) c.self.view_is
