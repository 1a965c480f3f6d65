-- All that wait less those of which some connection hears.
use Rattle.std.proofs.Common.{◌-◌, ◌≤◌, arith, subst, sym}
use Rattle.rv_machine.specs.Machines.{state_in}
use Rattle.rv_server_connections.specs.subscribers.Subscribers.{subscribers_of}
use Rattle.rv_hub.proofs.OfDispatcher.Unheard.{counts_unheard, heard_at_most}
use Rattle.rv_hub.proofs.dispatcher.Dispatcher.unheard.Goals as goal

pub overflow_sub-result : goal.overflow_sub-result
overflow_sub-result c =
    subst (λ n. c.clients_heard.result ≤ n) (sym c.waiting.ensures.count)
    (heard_at_most (state_in c.args.self.now.machine) c.requires.sound.book.resumes
    (subscribers_of c.args.self.now.subscribers) c.clients_heard.result c.clients_heard.ensures
    c.requires.waits)

pub returns : goal.returns
returns c =
    let most = heard_at_most (state_in c.args.self.now.machine) c.requires.sound.book.resumes
    (subscribers_of c.args.self.now.subscribers) c.clients_heard.result c.clients_heard.ensures
    c.requires.waits in
    let all = c.waiting.ensures.count in
    counts_unheard (state_in c.args.self.now.machine) c.requires.sound.book.resumes
    (subscribers_of c.args.self.now.subscribers) c.clients_heard.result c.clients_heard.ensures
    c.requires.waits
    (c.waiting.result - c.clients_heard.result) (omega (arith, most, all))
