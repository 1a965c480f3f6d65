-- No connection is open, so none has anything to do.
use Rattle.rv_machine.specs.Machines.{state_in}
use Rattle.rv_hub.specs.dispatcher.Fields.{dispatcher_state}
use Rattle.rv_hub.proofs.Checked.{new_rest}
use Rattle.rv_hub.proofs.hub.Hub.new.Goals as goal

pub invariant_of-result : goal.invariant_of-result
invariant_of-result c = record {
  ready = c.in_ok-dispatcher.ensures.ready;
  at_rest = new_rest c.args.has_journal (dispatcher_state c.in_ok-dispatcher.dispatcher)
      (state_in c.args.machine)
      c.in_ok-dispatcher.ensures.state;
}
