use Rattle.std.proofs.Common.{length}
use Rattle.rv_hub.specs.Hubs.{hub_terms}
use Rattle.rv_engine.specs.Engines.{engine_state}
use Rattle.rv_traffic.specs.Rounds.{ReadsTurn, read_faults}
use Rattle.rv_traffic.specs.Views.{SameTerms, traffic_state}
use Rattle.rv_traffic.proofs.InRound.{SoFar}
use Rattle.rv_traffic.proofs.rounds.read_round.Given as goal

abbrev pub invariant-loop-number : goal.invariant-loop-number
invariant-loop-number g l =
    SoFar (ReadsTurn g.S.Read.remaining l.room l.fn.traffic.engine.hub.has_journal
    (hub_terms l.fn.traffic.engine.hub)
    l.now) read_faults (traffic_state l.fn.traffic) (traffic_state l.traffic) l.faults
    × SameTerms l.fn.traffic l.traffic

abbrev pub decreases-loop-number : goal.decreases-loop-number
decreases-loop-number g l = length (engine_state l.traffic.engine).round
