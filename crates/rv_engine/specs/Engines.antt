-- The parts of an engine.
use Rattle.std.specs.Prelude.{ℕ, ◌≡◌, ◌≤◌, List, [], drop, false, length, string_bytes, vec_capacity}
use Rattle.rv_account.specs.declared.entry.Entry.{Entry}
use Rattle.rv_server_connections.specs.Flags.{AreListed}
use Rattle.rv_hub.specs.dispatcher.View.{DispatcherState}
use Rattle.rv_hub.specs.Hubs.{hub_state}
use Rattle.rv_engine.specs.declared.looks.LookList.{LookList}
use Rattle.rv_engine.specs.declared.parts.EngineParts.{EngineParts}

-- what contracts see of an engine
pub record EngineState : Type 0 where
  pub hub : DispatcherState
  -- the lines that are gathered and not written
  pub lines : List ℕ
  -- the entries of the last event whose lines aren't gathered yet
  pub left : List Entry
  -- how many entries' lines the device took, if an account is kept: those that there were at first count as
  -- well
  pub stored : ℕ
  -- the connections to look at in the next round, and those of this round that are left
  pub looks : List ℕ
  pub round : List ℕ
  -- only connections below this number are listed
  pub room : ℕ

abbrev pub engine_state : EngineParts → EngineState
engine_state e = record {
  hub = hub_state e.hub;
  lines = string_bytes e.lines;
  left = drop e.gathered e.hub.dispatcher.entries.items;
  stored = e.stored;
  looks = e.looks.numbers.items;
  round = e.round.numbers.items;
  room = length e.looks.flags.items;
}

-- a number is listed exactly if its flag is set, once, and there is room for all that have a flag
abbrev pub IsLooks : LookList → Type 0
IsLooks list = AreListed list.flags.items list.numbers.items (vec_capacity list.numbers)

-- if no account is kept, no line is gathered, and no entry is left
pub record KeepsNothing (e : EngineParts) : Type 0 where
  pub lines : string_bytes e.lines ≡ []
  pub left : drop e.gathered e.hub.dispatcher.entries.items ≡ []

-- what always holds
pub record IsEngine (e : EngineParts) : Type 0 where
  pub looks : IsLooks e.looks
  pub round : IsLooks e.round
  pub room : length e.round.flags.items ≡ length e.looks.flags.items
  pub account : e.hub.has_journal ≡ e.has_account
  pub within : e.gathered ≤ length e.hub.dispatcher.entries.items
  pub nothing : e.has_account ≡ false → KeepsNothing e
