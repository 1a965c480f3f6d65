use Rattle.rv_audit.specs.AccountRules.{IsSwapped}
use Rattle.rv_machine.specs.Machines.{state_in}
use Rattle.rv_verify.proofs.OfFollow.OfAsked.Facing.{named_told}
use Rattle.rv_verify.proofs.follow.state_rules.partners.swaps_opposites.Goals as goal

pub returns-in-Some : goal.returns-in-Some
returns-in-Some c =
    named_told IsSwapped (state_in c.args.machine.now) c.args.entry.now c.in-Some.call.now
    c.as_slice.result.now
    c.all_opposite.result c.in-Some.ensures.some c.as_slice.ensures c.all_opposite.ensures
