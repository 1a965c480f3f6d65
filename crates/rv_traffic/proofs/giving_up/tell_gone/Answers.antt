-- The hub is told, or later.
use Rattle.std.proofs.Common.{ap, inl, inr}
use Rattle.rv_hub.specs.Hubs.{hub_state}
use Rattle.rv_engine.specs.Engines.{engine_state}
use Rattle.rv_traffic.proofs.Tables.{hands_through}
use Rattle.rv_traffic.proofs.giving_up.tell_gone.Goals as goal

pub returns-then-not-catch_up-clause-told : goal.returns-then-not-catch_up-clause-told
returns-then-not-catch_up-clause-told c = inr (record {
  mid = engine_state c.catch_up.new.self;
  gathers = c.catch_up.ensures.gathers;
  why = inl c.if-not-catch_up.ensures.no;
  looks = c.look_at.ensures.looks;
  hub = ap hub_state c.look_at.ensures.hub;
  lines = c.look_at.ensures.lines;
  left = c.look_at.ensures.left;
  stored = c.look_at.ensures.stored;
})

pub returns-then-not-is_open-clause-told : goal.returns-then-not-is_open-clause-told
returns-then-not-is_open-clause-told c = inr (record {
  mid = engine_state c.catch_up.new.self;
  gathers = c.catch_up.ensures.gathers;
  why = inr c.if-not-is_open.ensures.no;
  looks = c.look_at-then-not-is_open.ensures.looks;
  hub = ap hub_state c.look_at-then-not-is_open.ensures.hub;
  lines = c.look_at-then-not-is_open.ensures.lines;
  left = c.look_at-then-not-is_open.ensures.left;
  stored = c.look_at-then-not-is_open.ensures.stored;
})

pub returns-clause-told : goal.returns-clause-told
returns-clause-told c = inl (
  c.hand.result,
  hands_through c.args.engine.now.hub c.catch_up.new.self.hub (engine_state c.args.engine.now)
      (engine_state c.catch_up.new.self) c.args.now _ c.hand.new.self.hub.dispatcher.entries.items
      c.hand.result
      (engine_state c.hand.new.self) c.catch_up.ensures.gathers c.catch_up.ensures.hub c.hand.ensures.takes,
)
