-- What is held of all connections.
use Rattle.std.proofs.Common.{◌≡◌, ◌+◌, ◌<◌, ◌≤◌, ℕ, Bool, ap, false, true}
use Rattle.std.specs.Bool.{OnFalse, OnTrue}
use Rattle.std.specs.List.{sum_by}
use Rattle.rv_server_connections.specs.Connections.{IsTotalHeld, IsTotalUnread}
use Rattle.rv_traffic.specs.links.Table.{pending_at}
use Rattle.rv_traffic.specs.Calls.{HoldsInAll, IsOverfull, HasRoomLeft}
use Rattle.rv_traffic.specs.Views.{TrafficState}

module _ {S : Type 0} (s : TrafficState S) (room answers unread pending : ℕ) where
  holds_in_all : IsTotalHeld s.engine.hub.open_wires.wires answers
      → IsTotalUnread s.engine.hub.open_wires.wires unread → pending ≡ sum_by pending_at s.table
      → HoldsInAll s (answers + unread + pending)
  holds_in_all are_held are_unread are_pending = record {
    answers = answers;
    unread = unread;
    are_held = are_held;
    are_unread = are_unread;
    all = ap (λ (n : ℕ). answers + unread + n) are_pending;
  }

  pub is_over_then : (result : Bool) → IsTotalHeld s.engine.hub.open_wires.wires answers
      → IsTotalUnread s.engine.hub.open_wires.wires unread → pending ≡ sum_by pending_at s.table
      → OnTrue result (room < answers + unread + pending) → OnTrue result (IsOverfull s room)
  is_over_then true are_held are_unread are_pending over =
      (answers + unread + pending, holds_in_all are_held are_unread are_pending, over)
  is_over_then false are_held are_unread are_pending over = over

  pub is_within_then : (result : Bool) → IsTotalHeld s.engine.hub.open_wires.wires answers
      → IsTotalUnread s.engine.hub.open_wires.wires unread → pending ≡ sum_by pending_at s.table
      → OnFalse result (answers + unread + pending ≤ room) → OnFalse result (HasRoomLeft s room)
  is_within_then true are_held are_unread are_pending within = within
  is_within_then false are_held are_unread are_pending within =
      (answers + unread + pending, holds_in_all are_held are_unread are_pending, within)
