-- A client's request that waits, as a row.
use Rattle.std.specs.Prelude.{ℕ, None, Option, Some, option_and_then, option_map}
use Rattle.rv_session.specs.declared.open.OpenPlace.{OpenPlace}
use Rattle.rv_session.specs.declared.open.Waiter.{Waiter}
use Rattle.rv_session.specs.Clients.{place_awaited}
use Rattle.rv_account.specs.state.State.{State, open_at}
use Rattle.rv_status.specs.declared.status.CallKind.{CallKind}
use Rattle.rv_status.specs.declared.status.CallKind.TheVariants.{Swap, Take, Transfer}
use Rattle.rv_status.specs.declared.status.WaitingRow.{WaitingRow}
use Rattle.rv_text.specs.declared.call.Side.{Side}
use Rattle.rv_text.specs.declared.call.Side.TheVariants.{Exchanges, Gives, Looks, Takes}

-- what waits on a side, and in which queue or at which exchanger
abbrev pub call_on_side : Side → Option (CallKind × ℕ)
call_on_side (Gives queue) = Some (Transfer, queue)
call_on_side (Takes queue) = Some (Take, queue)
call_on_side (Exchanges exchanger) = Some (Swap, exchanger)
call_on_side (Looks queue) = None

-- the waiter's key and moment, beside its call
abbrev pub row_for : Waiter → CallKind × ℕ → WaitingRow
row_for waiter call =
    record {
      call = call.0;
      at = call.1;
      since = waiter.since;
      client = waiter.key.client;
      incarnation = waiter.key.incarnation;
      number = waiter.key.number;
      unheard = None;
    }

-- the row of the request that waits at an open place, if there is one
abbrev pub row_in : OpenPlace → Option WaitingRow
row_in open_place =
    option_and_then (λ waiter. option_map (row_for waiter) (call_on_side open_place.side)) open_place.waiter

-- the row of a client's last request, if that waits
abbrev pub row_of : State → ℕ → Option WaitingRow
row_of s client = option_and_then row_in (option_and_then (open_at s) (place_awaited s.clients client))
