-- The limits under which a step is made, and those of a book.
use Rattle.std.specs.Prelude.{◌≤◌, ℕ, Option, Some, None}
use Rattle.rv_text.specs.Members.{max_identifier}
pub use Rattle.rv_session.specs.Standings.{max_clients}

-- how many entries there may be, how many clients, and how many places may stand open; none where any number
-- may
pub record StepLimits : Type 0 where
  pub entries : ℕ
  pub clients : ℕ
  pub open_places : Option ℕ

-- the most entries of an epoch
abbrev pub max_entries : ℕ
max_entries = 100000

-- the limits of a book: what is open has none of its own
abbrev pub book_limits : StepLimits
book_limits = record { entries = max_entries; clients = max_clients; open_places = None }

-- ---- which limits a step may have

-- the most clients of a step's limits
abbrev pub most_clients : ℕ
most_clients = 65536

-- the most open places of a step's limits, so that a reply can say how many there are
abbrev pub most_open_places : ℕ
most_open_places = 100000

-- open places are bounded, or entries are so few that as many places can't be open
abbrev pub BoundsPlaces : Option ℕ → ℕ → Type 0
BoundsPlaces None entries = entries ≤ most_open_places
BoundsPlaces (Some most) entries = most ≤ most_open_places

-- the limits are no greater than a step's may be
pub record AreStepLimits (limits : StepLimits) : Type 0 where
  pub entries : limits.entries ≤ max_identifier
  pub clients : limits.clients ≤ most_clients
  pub places : BoundsPlaces limits.open_places limits.entries

-- ---- which limits allow more

-- a bound on open places is at most another, if that bounds them
abbrev pub BoundAtMost : Option ℕ → Option ℕ → Type 0
BoundAtMost None None = Unit {0}
BoundAtMost (Some most) None = Unit {0}
BoundAtMost None (Some greater) = ⊥
BoundAtMost (Some most) (Some greater) = most ≤ greater

-- each limit is at most the other's
pub record AreAtMost (limits greater : StepLimits) : Type 0 where
  pub entries : limits.entries ≤ greater.entries
  pub clients : limits.clients ≤ greater.clients
  pub places : BoundAtMost limits.open_places greater.open_places
