-- Who has a share, or why none has.
use Rattle.std.proofs.Common.{ap, inl, inr, refl}
use Rattle.rv_hub.specs.Hubs.{hub_terms}
use Rattle.rv_traffic.specs.Views.{WaitLists, traffic_state, waits_of}
use Rattle.rv_traffic.proofs.Shared.{due_taken, none_popped}
use Rattle.rv_traffic.proofs.sharing.share_next.Goals as goal

pub returns-then-is_over-clause-none : goal.returns-then-is_over-clause-none
returns-then-is_over-clause-none g c = record { same = refl; why = inr c.if-is_over.ensures.yes }

pub returns-in-Some-clause-shared : goal.returns-in-Some-clause-shared
returns-in-Some-clause-shared g c =
    due_taken c.args.traffic.now.engine.hub.has_journal (hub_terms c.args.traffic.now.engine.hub) c.args.now
    (traffic_state c.args.traffic.now) (waits_of c.pop.new.self) _ _ c.in-Some.ensures.some
    c.pop.ensures.rest c.share_turn.ensures.shares

pub returns-in-None-clause-none : goal.returns-in-None-clause-none
returns-in-None-clause-none g c = record {
  same = ap (λ (w : WaitLists). record (traffic_state c.args.traffic.now) { waits = w })
      (none_popped (waits_of c.args.traffic.now.waits) (waits_of c.pop.new.self) c.in-None.ensures.none
      c.in-None.ensures.none_same c.pop.ensures.rest);
  why = inl c.in-None.ensures.none;
}
