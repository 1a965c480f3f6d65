-- One key more has its reply.
use Rattle.rv_machine.specs.Machines.{state_in}
use Rattle.rv_replies.specs.Ending.{told_now}
use Rattle.rv_replies.proofs.Ending.{ends_step}
use Rattle.rv_replies.proofs.fates.Fates.tell_each.Goals as goal

pub loop-key-preserved : goal.loop-key-preserved
loop-key-preserved c =
    ends_step c.args.self.now c.loop-key.self c.tell.new.self c.settled-key-items.result.now
    c.loop-key.key-index _ (told_now (state_in c.args.machine.now) c.args.act.now) c.loop-key-test.true
    c.loop-key.invariant c.in_ok-tell.ensures
