use Rattle.std.proofs.Common.{refl}
use Rattle.rv_machine.specs.Machines.{state_in}
use Rattle.rv_verify.proofs.OfFollow.OfAsked.DueNow.{due_told}
use Rattle.rv_verify.proofs.follow.state_rules.moments.has_due.Goals as goal

pub returns-in-Some : goal.returns-in-Some
returns-in-Some c =
    due_told (state_in c.args.machine.now) c.in-Some.limit c.args.moment _ refl c.in-Some.ensures.some
