-- What contracts see of an engine over sockets.
use Rattle.std.specs.Prelude.{ℕ, ◌≡◌, List, Option, length}
use Rattle.rv_hub.specs.declared.events.HubEvent.{HubEvent}
use Rattle.rv_hub.specs.declared.events.HubEvent.TheVariants as event
use Rattle.rv_hub.specs.Hubs.{hub_terms}
use Rattle.rv_engine.specs.Engines.{EngineState, engine_state}
use Rattle.rv_traffic.specs.declared.links.link.Socket.{Socket}
use Rattle.rv_traffic.specs.declared.traffic.Switchboard.{Switchboard}
use Rattle.rv_traffic.specs.declared.waiting.WaitingLists.{WaitingLists}

-- the connections that wait for a share of input, each list without repeats
pub record WaitLists : Type 0 where
  -- those whose share of this round is due, and those that wait for one of the next round
  pub due : List ℕ
  pub next : List ℕ
  -- only connections below this number are listed
  pub room : ℕ

abbrev pub waits_of : WaitingLists → WaitLists
waits_of w = record {
  due = w.due.numbers.items;
  next = w.next.numbers.items;
  room = length w.due.flags.items;
}

pub record TrafficState (S : Type 0) : Type 0 where
  pub engine : EngineState
  -- the socket under each number, if there is one
  pub table : List (Option (Socket S))
  pub waits : WaitLists

abbrev pub traffic_state : {S : Type 0} → Switchboard S → TrafficState S
traffic_state t = record {
  engine = engine_state t.engine;
  table = t.links.table.items;
  waits = waits_of t.waits;
}

-- the parts of the hub that don't change
pub record SameTerms {S : Type 0} (old new : Switchboard S) : Type 0 where
  pub terms : hub_terms new.engine.hub ≡ hub_terms old.engine.hub
  pub journal : new.engine.hub.has_journal ≡ old.engine.hub.has_journal

-- a piece of a connection's input, of these bytes
abbrev pub IsPieceOf : HubEvent → ℕ → List ℕ → Type 0
IsPieceOf (event.Came connection piece) number bytes = (connection ≡ number) × (piece.now ≡ bytes)
IsPieceOf event.Opened number bytes = ⊥
IsPieceOf (event.Ended connection) number bytes = ⊥
IsPieceOf (event.Gone connection) number bytes = ⊥
IsPieceOf (event.Took connection count) number bytes = ⊥
IsPieceOf (event.Written entries) number bytes = ⊥
IsPieceOf event.Passed number bytes = ⊥
