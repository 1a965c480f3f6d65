-- For private clauses: what an engine does once its hub took an event.
use Rattle.std.specs.Prelude.{◌≡◌, [], drop, false, length, string_bytes}
use Rattle.rv_hub.specs.Hubs.{hub_state}
use Rattle.rv_engine.specs.declared.parts.EngineParts.{EngineParts}
use Rattle.rv_engine.specs.Engines.{IsLooks, engine_state}
use Rattle.rv_engine.specs.Handing.{GathersFront, LooksAt, entries_kept}

-- what holds just then
pub record HasTaken (e : EngineParts) : Type 0 where
  pub looks : IsLooks e.looks
  pub round : IsLooks e.round
  pub room : length e.round.flags.items ≡ length e.looks.flags.items
  pub account : e.hub.has_journal ≡ e.has_account
  pub no_lines : e.has_account ≡ false → string_bytes e.lines ≡ []

-- if an account is kept, the lines of the entries that the event made are gathered, or these are left; each
-- connection that changed is to be looked at
pub record NotesEvent (old new : EngineParts) : Type 0 where
  pub stored : new.stored ≡ old.stored
  pub gathers : GathersFront (entries_kept old.has_account new.hub.dispatcher.entries.items)
      (string_bytes old.lines) (drop new.gathered new.hub.dispatcher.entries.items) (string_bytes new.lines)
  pub looks : LooksAt (engine_state old) (hub_state new.hub).changed (engine_state new)
