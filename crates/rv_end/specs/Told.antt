-- What a server's status says of the requests that wait with no connection.
use Rattle.std.specs.Prelude.{ℕ, ◌≡◌, codes, IsSome, List, map, Option, option_and_then, Result, Some, Ok}
use Rattle.std.specs.Prelude.{Err}
use Rattle.std.specs.List.{All}
use Rattle.serde_json.specs.Data.{Data}
use Rattle.serde_json.specs.Find.{as_number, as_u64, get}
use Rattle.rv_json.specs.Bodies.{Reads}
use Rattle.rv_text.specs.Limits.{FitsIdentifier}
use Rattle.rv_status.specs.Values.{listed, waiting_value}
use Rattle.rv_status.specs.declared.status.WaitingRow.{WaitingRow}
use Rattle.rv_end.specs.declared.fault.StatusFault.{StatusFault}
use Rattle.rv_end.specs.declared.fault.StatusFault.TheVariants.{NoMemory, NotUnderstood, ReadFault, TooLong}
use Rattle.rv_end.specs.declared.fault.StatusFault.TheVariants.{WriteFault}
use Rattle.rv_end.specs.declared.told.StatusTold.{StatusTold}

-- the number of this name
abbrev pub told_number : List ℕ → Data → Option ℕ
told_number name value =
    option_and_then as_u64 (option_and_then as_number
    (option_and_then (get name) (get (codes "numbers") value)))

-- client and incarnation are within their limits, and the row says since when it was found with no connection
pub record IsKeyed (row : WaitingRow) : Type 0 where
  pub client : FitsIdentifier row.client
  pub incarnation : FitsIdentifier row.incarnation
  pub since : IsSome row.unheard

-- the value is that of this row
pub record IsRow (value : Data) (row : WaitingRow) : Type 0 where
  pub is : value ≡ waiting_value row
  pub keyed : IsKeyed row

-- the values are those of these rows, in their order
pub record AreRows (values : List Data) (rows : List WaitingRow) : Type 0 where
  pub are : values ≡ map waiting_value rows
  pub keyed : All IsKeyed rows

-- the value says the uptime, how many clients there are, and these rows
pub record Tells (value : Data) (told : StatusTold) : Type 0 where
  pub uptime : told_number (codes "rv_uptime_seconds") value ≡ Some told.uptime
  pub clients : told_number (codes "rv_clients") value ≡ Some told.clients
  pub rows : get (codes "unheard") value ≡ Some (listed (map waiting_value told.unheard.items))
  pub keyed : All IsKeyed told.unheard.items

-- the text is that of a value that says this
pub record IsStatusText (text : List ℕ) (told : StatusTold) : Type 0 where
  pub value : Data
  pub reads : Reads text value
  pub tells : Tells value told

-- what was read is such a status; it isn't understood only if there is none; or memory was refused
abbrev pub GivesStatus : (StatusTold → Type 0) → Result StatusTold StatusFault → Type 0
GivesStatus Is (Ok told) = Is told
GivesStatus Is (Err NotUnderstood) = (told : StatusTold) → ¬ Is told
GivesStatus Is (Err NoMemory) = Unit {0}
GivesStatus Is (Err ReadFault) = ⊥
GivesStatus Is (Err WriteFault) = ⊥
GivesStatus Is (Err TooLong) = ⊥
