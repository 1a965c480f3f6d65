-- Its last request waits, and nobody hears of it.
use Rattle.std.proofs.Common.{sym}
use Rattle.rv_server_connections.specs.subscribers.Subscribers.{subscribers_of}
use Rattle.rv_hub.proofs.OfDispatcher.Unheard.{none_heard, not_heard}
use Rattle.rv_hub.proofs.dispatcher.Dispatcher.is_unheard.Goals as goal

pub returns-then-is_waiting : goal.returns-then-is_waiting
returns-then-is_waiting c = (
  λ none. record {
    session = c.in-Some.session.now;
    there = sym c.in-Some.ensures;
    waits = c.is_waiting.ensures.0 c.if-is_waiting.true;
    nobody = not_heard (subscribers_of c.args.self.now.subscribers) c.args.client c.is_heard.result
        c.is_heard.ensures.1
        none;
  },
  λ unheard. none_heard (subscribers_of c.args.self.now.subscribers) c.args.client c.is_heard.result
      c.is_heard.ensures.0 unheard.nobody,
)
