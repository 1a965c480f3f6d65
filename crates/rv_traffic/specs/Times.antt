-- When a connection's time is over.
use Rattle.std.specs.Prelude.{ℕ, ◌≡◌, ◌<◌, ◌≤◌, ◌-◌, ◌⊎◌, None, Option, Some, false, if◌then◌else◌, length}
use Rattle.std.specs.Prelude.{ltb, max}
use Rattle.rv_server_connections.specs.connection.Traffic.{Traffic, held_count}
use Rattle.rv_traffic.specs.declared.times.TimeLimits.{TimeLimits}

-- all that its peer asked was answered, and the peer has taken the answers
abbrev pub IsServed : Traffic → Type 0
IsServed wire = (wire.owes ≡ false) × (held_count wire ≡ 0)

-- it is served, and its peer has sent a part of the next frame
abbrev pub IsMidFrame : Traffic → Type 0
IsMidFrame wire = IsServed wire × (0 < length wire.unread)

-- the look since which it has been in the middle of one frame, as seen now: if an earlier look found it so,
-- and no byte of an answer left at that moment or later, the frame is the same; otherwise this look is the
-- first
abbrev pub first_look : Option ℕ → ℕ → ℕ → ℕ
first_look None sent now = now
first_look (Some look) sent now = if ltb sent look then look else now

-- the look since which it has been seen in the middle of one frame, up to this look, if it is in one
pub record IsSeenSince (wire : Traffic) (before : Option ℕ) (sent now : ℕ) (since : Option ℕ) : Type 0 where
  pub within : IsMidFrame wire → since ≡ Some (first_look before sent now)
  pub without : ¬ IsMidFrame wire → since ≡ None

-- for how long it has been seen so
abbrev pub seen_for : Option ℕ → ℕ → ℕ
seen_for None now = 0
seen_for (Some look) now = now - look

-- for `limit` milliseconds or longer, its peer has taken none of the bytes that may leave; or it has been in
-- the middle of a frame and sent no more, since bytes last came and since bytes last left or none were there
-- to leave; or it has been seen in the middle of this one frame
abbrev pub IsStalled : Traffic → ℕ → ℕ → Option ℕ → ℕ → ℕ → Type 0
IsStalled wire heard moved since now limit = ((0 < length wire.ready) × (limit ≤ now - moved))
    ⊎ (IsServed wire × (0 < length wire.unread) × (limit ≤ max (now - max heard moved) (seen_for since now)))

-- it is served, has said nothing for as long as it may be idle, and hasn't stalled
pub record IsSilent (wire : Traffic) (heard moved : ℕ) (since : Option ℕ) (now : ℕ) (limits : TimeLimits) :
    Type 0
  where
    pub served : IsServed wire
    pub still : limits.idle ≤ now - max heard moved
    pub apart : ¬ IsStalled wire heard moved since now limits.stall
