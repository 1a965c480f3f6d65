use Rattle.rv_machine.specs.Machines.{state_in}
use Rattle.rv_verify.proofs.OfFollow.OfAsked.AllKept.{all_follow}
use Rattle.rv_verify.proofs.follow.ruling.rule_on_named.Goals as goal

pub returns-in-None : goal.returns-in-None
returns-in-None c =
    all_follow (state_in c.args.machine.now) c.args.entry.now c.requires.resumes c.in-None.ensures.none
