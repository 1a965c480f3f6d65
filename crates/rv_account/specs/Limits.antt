-- The limits of entries.
use Rattle.std.specs.Prelude.{◌≡◌, ◌≤◌, ◌^◌, ℕ, List, Some, slice_get}
use Rattle.rv_text.specs.Limits.{FitsIdentifier, FitsKey, FitsCall}
use Rattle.rv_account.specs.declared.entry.Entry.{Entry}
use Rattle.rv_account.specs.declared.entry.Act.{Act}
use Rattle.rv_account.specs.declared.entry.Act.TheVariants.{Hello, Arrive, Cancel, Tick}

-- the greatest moment
abbrev pub max_moment : ℕ
max_moment = 2 ^ 62

abbrev pub FitsAct : Act → Type 0
FitsAct (Hello client incarnation version) = FitsIdentifier client × FitsIdentifier incarnation
FitsAct (Arrive key call) = FitsKey key × FitsCall call
FitsAct (Cancel key) = FitsKey key
FitsAct Tick = Unit {0}

abbrev pub FitsEntry : Entry → Type 0
FitsEntry e = (e.moment ≤ max_moment) × FitsAct e.act

abbrev pub FitEntries : List Entry → Type 0
FitEntries entries = (r : ℕ) (e : Entry) → slice_get entries r ≡ Some e → FitsEntry e
