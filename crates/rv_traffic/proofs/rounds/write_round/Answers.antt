-- One turn after another, until none is left of the round.
use Rattle.std.proofs.Common.{◌∙◌, ap, arith, refl, subst}
use Rattle.rv_hub.specs.declared.parts.HubParts.{HubParts}
use Rattle.rv_hub.specs.Hubs.{hub_terms}
use Rattle.rv_engine.specs.Engines.{EngineState, engine_state}
use Rattle.rv_traffic.specs.declared.outcomes.Writing.{Writing}
use Rattle.rv_traffic.specs.Rounds.{Turn, WritesTurn, write_faults}
use Rattle.rv_traffic.specs.Views.{traffic_state, waits_of}
use Rattle.rv_traffic.proofs.Counted.{few_unwritten, write_counted, write_turn_at}
use Rattle.rv_traffic.proofs.InRound.{SoFar, all_taken, few_taken, none_taken, one_taken, over_same}
use Rattle.rv_traffic.proofs.InRound.{shorter}
use Rattle.rv_traffic.proofs.Staying.{write_turn_keeps}
use Rattle.rv_traffic.proofs.rounds.write_round.Goals as goal

pub loop-number-init : goal.loop-number-init
loop-number-init g c = (
  none_taken (WritesTurn g.S.Write.contents c.args.traffic.now.engine.hub.has_journal
      (hub_terms c.args.traffic.now.engine.hub) c.args.now) write_faults (traffic_state c.args.traffic.now)
      (record {
        engine = engine_state c.begin_round.new.self;
        table = c.args.traffic.now.links.table.items;
        waits = waits_of c.args.traffic.now.waits;
      }) 0
      (ap (λ (e : EngineState). record (traffic_state c.args.traffic.now) { engine = e })
      c.begin_round.ensures.round) refl,
  record {
    terms = ap hub_terms c.begin_round.ensures.hub;
    journal = ap (λ (h : HubParts). h.has_journal) c.begin_round.ensures.hub;
  },
)

pub count_write-broken-requires : goal.count_write-broken-requires
count_write-broken-requires g c =
    let so_far = c.loop-number.invariant.0 in
    let few = few_taken _ write_faults (traffic_state c.args.traffic.now)
    (traffic_state c.loop-number.traffic)
    c.loop-number.broken (engine_state c.next_look.new.self).round c.in-Some.number c.in-Some.ensures.some
    so_far in
    let less = few_unwritten so_far.turns c.loop-number.broken _ so_far.told few in
    omega (arith, less, c.args.traffic.now.engine.looks.numbers.ok)

pub loop-number-smaller : goal.loop-number-smaller
loop-number-smaller g c =
    shorter (engine_state c.loop-number.traffic.engine).round (engine_state c.next_look.new.self).round
    (engine_state c.write_turn-what.new.traffic.engine).round c.in-Some.number c.in-Some.ensures.some
    (write_turn_keeps g.S.Write.contents _ _ _ _ _ _ c.write_turn-what.ensures.writes).round

pub loop-number-preserved : goal.loop-number-preserved
loop-number-preserved g c =
    let first = c.args.traffic.now in
    let before = c.loop-number.traffic in
    let after = c.write_turn-what.new.traffic in
    let same = c.loop-number.invariant.1 in
    let terms = ap hub_terms c.next_look.ensures.hub ∙ same.terms in
    let journal = ap (λ (h : HubParts). h.has_journal) c.next_look.ensures.hub ∙ same.journal in
    let takes = WritesTurn g.S.Write.contents first.engine.hub.has_journal (hub_terms first.engine.hub)
    c.args.now in
    let turn : Turn Writing = record { number = c.in-Some.number; came = c.write_turn-what.result } in (
      one_taken takes write_faults
          (write_turn_keeps g.S.Write.contents first.engine.hub.has_journal (hub_terms first.engine.hub)
          c.args.now)
          (traffic_state first) (traffic_state before) (traffic_state after) c.loop-number.broken
          c.count_write-broken.result (engine_state c.next_look.new.self) turn c.in-Some.ensures.some
          c.next_look.ensures.rest
          (write_turn_at g.S.Write.contents first.engine.hub.has_journal c.next_look.new.self.hub.has_journal
          (hub_terms first.engine.hub) (hub_terms c.next_look.new.self.hub) c.args.now _ turn
          (traffic_state after) journal terms c.write_turn-what.ensures.writes)
          (write_counted turn c.loop-number.broken c.count_write-broken.result c.count_write-broken.ensures)
          c.loop-number.invariant.0,
      record {
        terms = c.write_turn-what.ensures.terms.terms ∙ terms;
        journal = c.write_turn-what.ensures.terms.journal ∙ journal;
      },
    )

pub returns-clause-writes : goal.returns-clause-writes
returns-clause-writes g c =
    let first = c.args.traffic.now in
    let so_far = c.loop-number.invariant.0 in
    let last : SoFar (WritesTurn g.S.Write.contents first.engine.hub.has_journal
    (hub_terms first.engine.hub) c.args.now) write_faults (traffic_state first)
    (record (traffic_state c.loop-number.traffic) { engine = engine_state c.next_look.new.self })
    c.loop-number.broken =
    subst (λ (e : EngineState). SoFar (WritesTurn g.S.Write.contents first.engine.hub.has_journal
    (hub_terms first.engine.hub) c.args.now) write_faults (traffic_state first)
    (record (traffic_state c.loop-number.traffic) { engine = e }) c.loop-number.broken)
    (over_same (engine_state c.loop-number.traffic.engine) (engine_state c.next_look.new.self)
    c.in_default.ensures.none c.in_default.ensures.over c.next_look.ensures.rest) so_far in
    record {
      turns = last.turns;
      round = all_taken _ write_faults
          (write_turn_keeps g.S.Write.contents first.engine.hub.has_journal (hub_terms first.engine.hub)
          c.args.now)
          (traffic_state first) (record (traffic_state c.loop-number.traffic) {
            engine =
                engine_state c.next_look.new.self;
          })
          c.loop-number.broken c.begin_round.ensures.once c.in_default.ensures.over last;
      told = last.told;
    }

pub returns-clause-terms : goal.returns-clause-terms
returns-clause-terms g c = record {
  terms = ap hub_terms c.next_look.ensures.hub ∙ c.loop-number.invariant.1.terms;
  journal = ap (λ (h : HubParts). h.has_journal) c.next_look.ensures.hub ∙ c.loop-number.invariant.1.journal;
}
