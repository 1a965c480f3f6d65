-- The hub is told that time goes on.
use Rattle.rv_traffic.proofs.CallsRun.{events_run}
use Rattle.rv_traffic.proofs.traffic.Switchboard.pass.Goals as goal

pub returns-clause-passes : goal.returns-clause-passes
returns-clause-passes g c = (
  c.hand.result,
  record {
    made = c.hand.new.self.hub.dispatcher.entries.items;
    hands = c.hand.ensures.takes;
  },
)

pub returns-clause-runs : goal.returns-clause-runs
returns-clause-runs g c = record {
  terms = record { terms = c.hand.ensures.terms; journal = c.hand.ensures.journal };
  runs = events_run _ _ _ _ c.args.now _ _ _ c.hand.ensures.takes;
}
