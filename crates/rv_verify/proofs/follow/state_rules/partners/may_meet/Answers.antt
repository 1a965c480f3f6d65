use Rattle.std.proofs.Common.{◌≡◌, Some, IsTrue, subst}
use Rattle.rv_account.specs.Calls.{opposite}
use Rattle.rv_machine.specs.Machines.{state_in}
use Rattle.rv_text.specs.declared.call.Side.{Side}
use Rattle.rv_verify.proofs.OfFollow.OfAsked.DueNow.{Iff}
use Rattle.rv_verify.proofs.OfFollow.OfAsked.Facing.{facing_told, none_facing}
use Rattle.rv_verify.proofs.follow.state_rules.partners.may_meet.Goals as goal

pub returns-in-Some : goal.returns-in-Some
returns-in-Some c =
    facing_told (state_in c.args.machine.now) c.args.place c.requires c.args.call.now c.in-Some.there.now
    c.faces.result c.in-Some.ensures
    (subst (λ (side : Side). Iff (IsTrue c.faces.result) (opposite side ≡ Some c.in-Some.there.now.side))
    c.side.ensures c.faces.ensures)

pub returns-in-None : goal.returns-in-None
returns-in-None c =
    none_facing (state_in c.args.machine.now) c.args.place c.requires c.args.call.now c.in-None.ensures
