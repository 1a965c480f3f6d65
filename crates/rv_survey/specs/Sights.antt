-- Since when each request has been found with no connection.
use Rattle.std.specs.Prelude.{ℕ, ◌≡◌, ◌≢◌, ◌==◌, ◌&&◌, Option, None, Some, if◌then◌else◌}
use Rattle.std.specs.Ordering.{nat_cmp}
use Rattle.std.specs.BTreeMap.{get}
use Rattle.rv_status.specs.declared.status.WaitingRow.{WaitingRow}
use Rattle.rv_survey.specs.declared.sights.Sight.{Sight}
use Rattle.rv_survey.specs.declared.sights.Sights.{Sights}

-- the sight that the last look at a client left, if it found a request with no connection
abbrev pub last_sight : Sights → ℕ → Option Sight
last_sight sights client = get nat_cmp sights.sights client

-- what is known of all other clients stays
abbrev pub ChangesOnly : ℕ → Sights → Sights → Type 0
ChangesOnly client old new = (other : ℕ) → other ≢ client → last_sight new other ≡ last_sight old other

-- the moment since which looks have found the request so: that of the last sight, if that was of the same
-- request, else now
abbrev pub moment_after : Option Sight → ℕ → WaitingRow → ℕ
moment_after None now row = now
moment_after (Some last) now row =
    if (last.incarnation == row.incarnation) && (last.number == row.number) then last.moment else now

-- the sight of the request at a moment, after this one of its client
abbrev pub sight_after : Option Sight → ℕ → WaitingRow → Sight
sight_after last now row =
    record { incarnation = row.incarnation; number = row.number; moment = moment_after last now row }

-- its row, with that moment
abbrev pub with_moment : Option Sight → ℕ → WaitingRow → WaitingRow
with_moment last now row = record row { unheard = Some (moment_after last now row) }
