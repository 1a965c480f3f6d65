use Rattle.std.proofs.Common.{◌≡◌, ◌∙◌, None, Some, ap, option_map, sym}
use Rattle.rv_account.specs.Calls.{opposite}
use Rattle.rv_machine.specs.Machines.{state_in}
use Rattle.rv_text.specs.Calls.{side_of}
use Rattle.rv_verify.proofs.OfFollow.OfAsked.Facing.{faces_first}
use Rattle.rv_verify.proofs.follow.state_rules.line.next_facing.Goals as goal

pub returns-in_err-behind : goal.returns-in_err-behind
returns-in_err-behind c =
    let opposes : Some c.in_ok-side.side ≡ opposite (side_of c.args.call.now) =
    sym c.in_ok-side.was ∙ c.opposite.ensures ∙ ap opposite c.side.ensures in
    c.from_residual-in_err-behind.ensures
    ∙ faces_first (state_in c.args.machine.now) c.args.call.now c.args.after c.in_ok-side.side None opposes
    (ap (option_map (λ o. o.now)) (sym c.in_err-behind.was) ∙ c.behind.ensures)

pub returns : goal.returns
returns c =
    let opposes : Some c.in_ok-side.side ≡ opposite (side_of c.args.call.now) =
    sym c.in_ok-side.was ∙ c.opposite.ensures ∙ ap opposite c.side.ensures in
    faces_first (state_in c.args.machine.now) c.args.call.now c.args.after c.in_ok-side.side
    (Some c.in_ok-behind.field-0.now) opposes
    (ap (option_map (λ o. o.now)) (sym c.in_ok-behind.was) ∙ c.behind.ensures)
