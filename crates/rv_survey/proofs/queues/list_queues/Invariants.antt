-- The rows so far are those of the queues so far.
use Rattle.rv_machine.specs.Machines.{state_in}
use Rattle.rv_survey.specs.Queues.{AreQueues}
use Rattle.rv_survey.proofs.queues.list_queues.Given as goal

abbrev pub invariant-loop-queue : goal.invariant-loop-queue
invariant-loop-queue l = AreQueues l.queue (state_in l.machine) l.rows.items
