-- The first place of a line above another is that of its first there.
use Rattle.std.proofs.Common.{◌∙◌, ap, sym, Bor, List, Option, option_map}
use Rattle.rv_account.specs.state.State.{OpenPlace}
use Rattle.rv_machine.specs.open_places.OpenMap.{first_behind, line_in}
use Rattle.rv_machine.proofs.OfOpenPlaces.Fronts.{found_behind, none_behind}
use Rattle.rv_machine.proofs.open_places.table.OpenTable.behind.Goals as goal

pub returns : goal.returns
returns c =
    c.get.ensures
    ∙ found_behind c.self.inside.opens c.self.inside.wait_queues c.self.inside.waiting c.self.inside.due
    c.args.side c.args.after c.self.invariant c.in_ok-behind.field-0
    (sym c.in_ok-behind.ensures)
    ∙ ap (λ (all : List OpenPlace). first_behind c.args.after (line_in all c.args.side)) c.self.view_is

pub returns-in_err-behind : goal.returns-in_err-behind
returns-in_err-behind c =
    ap (λ (r : Option (Bor OpenPlace)). option_map (λ o. o.now) r) c.from_residual.ensures
    ∙ sym (none_behind c.self.inside.opens c.self.inside.wait_queues c.self.inside.waiting c.self.inside.due
    c.args.side c.args.after c.self.invariant (sym c.in_err-behind.ensures))
    ∙ ap (λ (all : List OpenPlace). first_behind c.args.after (line_in all c.args.side)) c.self.view_is
