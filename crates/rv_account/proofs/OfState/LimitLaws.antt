-- The laws of limits, from what a step under them keeps.
use Rattle.rv_account.proofs.OfState.Words.{◌≡◌, ◌+◌, ◌≤◌, ℕ, length, Some, arith, Account, Message}
use Rattle.rv_account.proofs.OfState.Words.{Answer, NumberOf, Open, SaidHello, Waiting}
use Rattle.std.specs.Prelude.{max}
use Rattle.rv_account.specs.rules.StepLimits.{StepLimits}
use Rattle.rv_account.specs.rules.Steps.{NextUnder, step_moment}
use Rattle.rv_account.proofs.OfRules.Counting.{one_number}
use Rattle.rv_account.proofs.OfRules.FewClients.{ClientsAtMost}
use Rattle.rv_account.proofs.OfRules.GreaterLimits.{under_greater}
use Rattle.rv_account.proofs.OfRules.PlacesKept.{PlacesAtMost, places_behind, ticked_places}
use Rattle.rv_account.proofs.OfRules.RoomKept.{RoomAtMost, clients_behind, room_behind, ticked_clients}
use Rattle.rv_account.proofs.OfRules.RoomKept.{ticked_room}
use Rattle.rv_account.specs.state.Laws.{LimitsHold, LimitsOnlyRefuse}

pub limits_only_refuse : LimitsOnlyRefuse
limits_only_refuse = under_greater

module _ (limits : StepLimits) (a b : Account) (now : ℕ) (m : Message) (answer : Answer)
    (next : NextUnder limits a now m b answer) where
  abbrev t : Account
  t = next.ticked

  abbrev moment : ℕ
  moment = step_moment a now

  room_kept : (before after : ℕ) → NumberOf (Waiting a.entries) before → NumberOf (Waiting b.entries) after
      → length b.entries + after ≤ max limits.entries (length a.entries + before)
  room_kept before after count counted =
      let most : ℕ = max limits.entries (length a.entries + before) in
      let own : RoomAtMost most a.entries = λ waiting theirs.
      let same : waiting ≡ before = one_number (Waiting a.entries) waiting before theirs count in
      omega arith in
      room_behind limits most t b moment m answer next.steps (omega arith)
      (ticked_room most a t moment next.ticks own) after counted

  clients_kept : (before after : ℕ) → NumberOf (SaidHello a.entries) before
      → NumberOf (SaidHello b.entries) after → after ≤ max limits.clients before
  clients_kept before after count counted =
      let most : ℕ = max limits.clients before in
      let own : ClientsAtMost most a.entries = λ clients theirs.
      let same : clients ≡ before = one_number (SaidHello a.entries) clients before theirs count in
      omega arith in
      clients_behind limits most t b moment m answer next.steps (omega arith)
      (ticked_clients most a t moment next.ticks own) after counted

  places_kept : (bound before after : ℕ) → limits.open_places ≡ Some bound
      → NumberOf (Open a.entries) before → NumberOf (Open b.entries) after → after ≤ max bound before
  places_kept bound before after is count counted =
      let most : ℕ = max bound before in
      let own : PlacesAtMost most a.entries = λ places theirs.
      let same : places ≡ before = one_number (Open a.entries) places before theirs count in
      omega arith in
      places_behind most t (ticked_places most a own t moment next.ticks) limits bound is (omega arith) b
      moment m answer next.steps after counted

pub limits_hold : LimitsHold
limits_hold limits a b now m answer next = record {
  entries = room_kept limits a b now m answer next;
  clients = clients_kept limits a b now m answer next;
  places = places_kept limits a b now m answer next;
}
