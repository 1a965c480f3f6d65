-- A machine in which one wait was ended.
use Rattle.std.proofs.Common.{◌≡◌, ◌<◌, ◌++◌, ◌∷◌, ◌∙◌, ◌+◌, ℕ, List, [], Option, Some, sym, ap}
use Rattle.std.proofs.Common.{subst, arith}
use Rattle.std.specs.Prelude.{option_map, vec_capacity, vec_len}
use Rattle.std.specs.Global.{Vec}
use Rattle.rv_text.specs.declared.message.Key.{Key}
use Rattle.rv_text.specs.declared.answer.Reply.{Reply}
use Rattle.rv_session.specs.OwedDuty.{OwedDuty}
use Rattle.rv_session.specs.Clients.{ClientStates, clients_told, place_awaited, with_clients}
use Rattle.rv_account.specs.state.State.{OpenPlace, State, Waiter}
use Rattle.rv_account.specs.state.After.{closed}
use Rattle.rv_account.proofs.OfState.Words.{same_Some}
use Rattle.rv_machine.specs.declared.tables.Holdings.{Holdings}
use Rattle.rv_machine.specs.Ending.{EndsWaiting}
use Rattle.rv_machine.specs.open_places.Indexed.{ClosesPlace}
use Rattle.rv_machine.specs.Machines.{IsConsistent, IsWhole, state_in}
use Rattle.rv_machine.specs.open_places.OpenMap.{duty_at, count_waiting}
use Rattle.rv_machine.proofs.EndingOne.{awaited, clients_are, ended_consistent, less_waits, opens_are}

-- the duty of who waits is that of its place and client
pub duty_is : (there : OpenPlace) (w : Waiter) (duty : OwedDuty) → there.waiter ≡ Some w
    → duty_at there ≡ Some duty → duty ≡ record { place = there.place; client = w.key.client }
duty_is there w duty waits owed =
    same_Some _ _ (sym owed ∙ ap (λ (o : Option Waiter). option_map
    (λ x. record { place = there.place; client = x.key.client }) o) waits)

module _ (m : Holdings) (ready : IsWhole m) (place : ℕ) (there : OpenPlace) (w : Waiter) (duty :
    OwedDuty)
    (reply : Reply) (table : List OpenPlace) (closes : ClosesPlace m.table table place there (Some duty))
    (waits : there.waiter ≡ Some w) where
  abbrev s : State
  s = state_in m

  abbrev gone : State
  gone = closed s (there ∷ []) (record { key = w.key; reply = reply } ∷ [])

  its : duty ≡ record { place = there.place; client = w.key.client }
  its = duty_is there w duty waits closes.owed

  pub is_awaited : place_awaited m.clients.clients duty.client ≡ Some duty.place
  is_awaited = subst (λ (d : OwedDuty). place_awaited m.clients.clients d.client ≡ Some d.place) (sym its)
      (awaited s ready.consistent place there w reply closes.found waits)

  pub one_listed : count_waiting table + 1 ≡ count_waiting m.table
  one_listed = ap (λ l. count_waiting l + 1) (closes.rest ∙ sym (opens_are s ready.consistent place there w
      reply
      closes.found waits)) ∙ less_waits s ready.consistent place there w reply closes.found waits

  pub has_room : vec_len m.settled < vec_capacity m.settled
  has_room = omega (arith, one_listed, ready.room)

  module _ (clients : ClientStates) (told : clients ≡ with_clients m.clients
      (clients_told m.clients.clients duty.client reply)) (settled : Vec Key) where
    abbrev new : Holdings
    new = record { moment = m.moment; length = m.length; table = table; clients = clients; settled = settled }

    clients_now : clients.clients ≡ gone.clients
    clients_now = ap (λ (t : ClientStates). t.clients) told
        ∙ ap (λ (d : OwedDuty). clients_told m.clients.clients d.client reply) its
        ∙ sym (clients_are s ready.consistent place there w reply closes.found waits)

    pub state_is : state_in new ≡ gone
    state_is =
        let epoch = ap (λ (t : ClientStates). t.epoch) told in
        let opens = closes.rest ∙ sym (opens_are s ready.consistent place there w reply closes.found waits) in
        λ i. record {
          epoch = epoch i;
          moment = m.moment;
          length = m.length;
          open_places = opens i;
          clients = clients_now i;
        }

    pub still_ready : vec_len settled ≡ vec_len m.settled + 1 → vec_capacity settled ≡ vec_capacity m.settled
        → IsWhole new
    still_ready longer same = record {
      consistent = subst (λ (x : State). IsConsistent x) (sym state_is)
          (ended_consistent s ready.consistent place there w reply closes.found waits);
      most = ap (λ (t : ClientStates). t.most) told ∙ ready.most;
      room = omega (arith, one_listed, ready.room, longer, same);
    }

    pub ends_waiting : settled.items ≡ m.settled.items ++ w.key ∷ [] → EndsWaiting m new place reply
    ends_waiting listed = record {
      there = there;
      found = closes.found;
      waiter = w;
      waits = waits;
      state = state_is;
      listed = listed;
    }
