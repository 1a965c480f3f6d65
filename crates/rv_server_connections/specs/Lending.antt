-- The final value of a table of connections while one of them is lent.
use Rattle.std.specs.Prelude.{ℕ, Option}
use Rattle.std.specs.Borrow.{Fml, Lends, LendsIf, MutBor}
use Rattle.std.specs.Option.Follows.{option_follows_value}
use Rattle.rv_server_connections.specs.declared.table.WireSlot.{WireSlot}
use Rattle.rv_server_connections.specs.contracts.table.WireSlot as slot
use Rattle.rv_server_connections.specs.contracts.table.WireTable as table
use Rattle.rv_server_connections.specs.Table.{TableState, with_slot}

-- a place ends with the final value of r
abbrev pub LendsSlotAt : MutBor (Option WireSlot) → MutBor WireSlot → Fml
LendsSlotAt place r = option_follows_value slot.the_row place r

-- a table ends with the final value of r under this number
abbrev pub LendsSlot : MutBor TableState → ℕ → MutBor WireSlot → Fml
LendsSlot t number r = Lends table.the_row slot.the_row t r (with_slot t.now number)

-- the same where r is there, and else the table stays as it is
abbrev pub FindsSlot : MutBor TableState → ℕ → Option (MutBor WireSlot) → Fml
FindsSlot t number r = LendsIf table.the_row slot.the_row t r (with_slot t.now number) t.now
