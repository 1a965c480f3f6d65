-- The replies of those that meet, by side and version.
use Rattle.std.specs.Prelude.{◌≡◌, ◌<◌, ◌+◌, ◌++◌, ◌∷◌, [], ℕ, List, Option, Some, None, option_map}
use Rattle.std.specs.Prelude.{vec_capacity, vec_len}
use Rattle.std.specs.FinMap.{get}
use Rattle.std.specs.Global.{Vec}
use Rattle.rv_text.specs.declared.message.Key.{Key}
use Rattle.rv_text.specs.declared.version.Version.{Version}
use Rattle.rv_text.specs.declared.call.Side.{Side}
use Rattle.rv_text.specs.declared.call.Side.TheVariants.{Gives, Takes, Looks, Exchanges}
use Rattle.rv_text.specs.declared.call.Wait.{Wait}
use Rattle.rv_text.specs.declared.answer.Reply.{Reply}
use Rattle.rv_text.specs.declared.answer.Reply.TheVariants as reply
use Rattle.rv_session.specs.OwedDuty.{OwedDuty}
use Rattle.rv_session.specs.declared.client.ClientState.{ClientState}
use Rattle.rv_session.specs.Clients.{clients_told, place_awaited, with_clients}
use Rattle.rv_account.specs.state.State.{Waiter}
use Rattle.rv_account.specs.state.After.{receipt_of}
use Rattle.rv_machine.specs.declared.tables.Holdings.{Holdings}

-- the reply of a request, other than a put or a drain, that meets one with this key and item: for a giver
-- that its item was received, by its session's version; for a taker the item; and for a swap the other's item
abbrev pub told_on_side : Side → Version → Option Key → Option (List ℕ) → Option Reply
told_on_side (Gives queue) version other gets = receipt_of version other
told_on_side (Takes queue) version other gets = option_map (λ item. reply.Item item) gets
told_on_side (Exchanges exchanger) version other gets = option_map (λ item. reply.Swapped item) gets
told_on_side (Looks queue) version other gets = None

-- an arrival with this wait has the same reply; a put is done
abbrev pub told_arriving : Option Wait → Side → Version → Option Key → Option (List ℕ) → Option Reply
told_arriving None side version other gets = Some reply.Done
told_arriving (Some wait) side version other gets = told_on_side side version other gets

-- the request that waits with a duty has its session, its reply by that session's version, and room in the
-- list
pub record MayTell (m : Holdings) (duty : OwedDuty) (waiter : Option Waiter) (side : Side) (key : Key)
    (gift : Option (List ℕ)) : Type 0 where
  pub who : Waiter
  pub is : waiter ≡ Some who
  pub client : duty.client ≡ who.key.client
  pub awaited : place_awaited m.clients.clients duty.client ≡ Some duty.place
  pub session : ClientState
  pub known : get m.clients.clients who.key.client ≡ Some session
  pub reply : Reply
  pub told : told_on_side side session.version (Some key) gift ≡ Some reply
  pub room : vec_len m.settled < vec_capacity m.settled

abbrev pub TellsWaiter : Holdings → Option OwedDuty → Option Waiter → Side → Key → Option (List ℕ)
    → Type 0
TellsWaiter m None waiter side key gift = Unit {0}
TellsWaiter m (Some duty) waiter side key gift = MayTell m duty waiter side key gift

-- the machine where a request that waited has this reply
abbrev pub machine_told : Holdings → Waiter → Reply → Vec Key → Holdings
machine_told m who reply settled =
    record {
      moment = m.moment;
      length = m.length;
      table = m.table;
      clients = with_clients m.clients (clients_told m.clients.clients who.key.client reply);
      settled = settled;
    }

-- it has its reply, and its key is listed
pub record WasTold (old new : Holdings) (waiter : Option Waiter) (side : Side) (key : Key)
    (gift : Option (List ℕ)) : Type 0 where
  pub who : Waiter
  pub is : waiter ≡ Some who
  pub session : ClientState
  pub known : get old.clients.clients who.key.client ≡ Some session
  pub reply : Reply
  pub told : told_on_side side session.version (Some key) gift ≡ Some reply
  pub machine : new ≡ machine_told old who reply new.settled
  pub listed : new.settled.items ≡ old.settled.items ++ who.key ∷ []
  pub longer : vec_len new.settled ≡ vec_len old.settled + 1
  pub capacity : vec_capacity new.settled ≡ vec_capacity old.settled

abbrev pub TellsOne : Holdings → Holdings → Option OwedDuty → Option Waiter → Side → Key
    → Option (List ℕ)
    → Type 0
TellsOne old new None waiter side key gift = new ≡ old
TellsOne old new (Some duty) waiter side key gift = WasTold old new waiter side key gift
