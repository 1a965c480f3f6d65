-- What was said of a request is its reply, or that it waits.
use Rattle.std.proofs.Common.{subst}
use Rattle.rv_machine.specs.Machines.{Says, state_in}
use Rattle.rv_hub.proofs.dispatcher.Dispatcher.say.Goals as goal

pub returns-in-Told-clause-says : goal.returns-in-Told-clause-says
returns-in-Told-clause-says c a says =
    c.say_told.ensures.says a
    (subst (λ x. Says (state_in c.args.self.now.machine) x a) c.in-Told.is says)
