-- A machine whose oldest item of a queue was taken.
use Rattle.std.proofs.Common.{◌≡◌, ◌<◌, ◌≤◌, ◌++◌, ◌∷◌, ◌∙◌, ◌+◌, ℕ, List, [], Option, Some, None, IsSome}
use Rattle.std.proofs.Common.{refl}
use Rattle.std.proofs.Common.{sym, ap, subst, arith, slice_get, nat_eq}
use Rattle.std.proofs.lemmas.List.{append-nil}
use Rattle.std.specs.Prelude.{IfSome, option_map, vec_capacity, vec_len}
use Rattle.std.specs.FinMap.{get}
use Rattle.std.specs.List.{cons_option}
use Rattle.std.specs.Global.{Vec}
use Rattle.rv_text.specs.declared.message.Key.{Key}
use Rattle.rv_text.specs.declared.answer.Reply.{Reply}
use Rattle.rv_text.specs.declared.call.Side.TheVariants.{Gives}
use Rattle.rv_session.specs.OwedDuty.{OwedDuty}
use Rattle.rv_session.specs.Clients.{ClientStates, clients_told, place_awaited, with_clients}
use Rattle.rv_account.specs.state.State.{ClientState, OpenPlace, State, Waiter}
use Rattle.rv_account.specs.state.After.{Settled, closed}
use Rattle.rv_account.proofs.OfState.Words.{none-some}
use Rattle.rv_account.proofs.OfState.Filtered.{find_get}
use Rattle.rv_machine.specs.declared.tables.Holdings.{Holdings}
use Rattle.rv_machine.specs.open_places.Indexed.{ClosesPlace, ClosesFirst}
use Rattle.rv_machine.specs.Machines.{IsConsistent, IsWhole, IsWaiter, keys_settled, state_in}
use Rattle.rv_machine.specs.open_places.OpenMap.{duty_at, count_waiting}
use Rattle.rv_machine.specs.Taking.{TakesOne, settled_taken, told_taken}
use Rattle.rv_machine.proofs.EndedMachine as ended
use Rattle.rv_machine.proofs.EndingOne.{but_one}
use Rattle.rv_machine.proofs.GoneItem.{gone_consistent, no_more_wait}
use Rattle.rv_machine.proofs.Lying.{line_item}

-- what came out
pub came_out : (o : Option (OpenPlace × Option OwedDuty)) (out : OpenPlace × Option OwedDuty)
    (duty : Option OwedDuty) (old new : List OpenPlace) (queue : ℕ) → o ≡ Some out → out.1 ≡ duty
    → IfSome o (λ x. ClosesFirst old new (Some (Gives queue)) x.0 x.1)
    → ClosesFirst old new (Some (Gives queue)) out.0 duty
came_out o out duty old new queue is its closes =
    subst (λ d. ClosesFirst old new (Some (Gives queue)) out.0 d) its
    (subst (λ x. IfSome x (λ y. ClosesFirst old new (Some (Gives queue)) y.0 y.1)) is closes)

no_waiter : (there : OpenPlace) (o : Option Waiter) → there.waiter ≡ o → duty_at there ≡ None
    → there.waiter ≡ None
no_waiter there None is none = is
no_waiter there (Some w) is none =
    absurd (none-some _ (sym none ∙ ap (λ (x : Option Waiter). option_map (λ v.
    let d : OwedDuty = record { place = there.place; client = v.key.client } in d) x) is))

-- whom it settles, by who waits
settles_by : State → Key → OpenPlace → Option Waiter → List Settled
settles_by s taker there w = settled_taken s taker (record there { waiter = w } ∷ [])

module _ (m : Holdings) (ready : IsWhole m) (queue : ℕ) (taker : Key) (table : List OpenPlace)
    (there : OpenPlace) (duty : Option OwedDuty)
    (takes : ClosesFirst m.table table (Some (Gives queue)) there duty) where
  abbrev s : State
  s = state_in m

  pub has_item : IsSome there.item
  has_item = line_item s ready.consistent queue 0 there (ap (λ (l : List OpenPlace). slice_get l 0)
      takes.first)

  pub not_more : count_waiting table ≤ count_waiting m.table
  not_more = subst (λ (l : List OpenPlace). count_waiting l ≤ count_waiting m.table) (sym takes.closes.rest)
      (no_more_wait m.table there ready.consistent.rise takes.closes.found)

  pub its_waiter : (w : Waiter) → there.waiter ≡ Some w → IsWaiter s there w
  its_waiter w waits =
      let stands = find_get (λ (o : OpenPlace). nat_eq o.place there.place) m.table there takes.closes.found
      in
      ready.consistent.wait_queues stands.0 there w stands.1 waits

  -- its client is known
  pub is_known : (w : Waiter) → there.waiter ≡ Some w → IsSome (get m.clients.clients w.key.client)
  is_known w waits =
      subst (λ (o : Option ClientState). IsSome o) (sym (its_waiter w waits).known) refl

  -- ---- an item that lay there

  module _ (none : duty ≡ None) where
    lies : there.waiter ≡ None
    lies = no_waiter there there.waiter refl (takes.closes.owed ∙ none)

    settles_none : settled_taken s taker (there ∷ []) ≡ []
    settles_none = ap (λ (w : Option Waiter). settled_taken s taker (record there { waiter = w } ∷ [])) lies

    abbrev now : Holdings
    now = record {
      moment = m.moment;
      length = m.length;
      table = table;
      clients = m.clients;
      settled = m.settled;
    }

    state_lay : state_in now ≡ closed s (there ∷ []) []
    state_lay =
        let opens = takes.closes.rest ∙ sym (but_one m.table there) in
        λ i. record {
          epoch = s.epoch;
          moment = m.moment;
          length = m.length;
          open_places = opens i;
          clients = s.clients;
        }

    pub lay_ready : IsWhole now
    lay_ready = record {
      consistent = subst (λ (x : State). IsConsistent x) (sym state_lay)
          (gone_consistent s ready.consistent there takes.closes.found lies);
      most = ready.most;
      room = omega (arith, ready.room, not_more);
    }

    pub lay_taken : TakesOne m now queue taker there
    lay_taken = record {
      first = takes.first;
      has = has_item;
      fewer = not_more;
      state = state_lay ∙ ap (λ (l : List Settled). closed s (there ∷ []) l) (sym settles_none);
      listed = sym (append-nil m.settled.items)
          ∙ ap (λ (l : List Settled). m.settled.items ++ keys_settled l) (sym settles_none);
    }

  -- ---- a transfer that waited

  module _ (owed : OwedDuty) (some : duty ≡ Some owed) (w : Waiter) (waits : there.waiter ≡ Some w)
      (reply : Reply) (told : told_taken s taker there w.key ≡ Some reply) where
    closes : ClosesPlace m.table table there.place there (Some owed)
    closes = subst (λ d. ClosesPlace m.table table there.place there d) some takes.closes

    abbrev its : Settled
    its = record { key = w.key; reply = reply }

    settles_one : settled_taken s taker (there ∷ []) ≡ its ∷ []
    settles_one =
        ap (λ (o : Option Waiter). settled_taken s taker (record there { waiter = o } ∷ [])) waits
        ∙ ap (λ (o : Option Reply). cons_option (option_map (λ r. let x : Settled = record {
          key = w.key;
          reply = r;
        } in x)
        o) []) told

    pub is_awaited : place_awaited m.clients.clients owed.client ≡ Some owed.place
    is_awaited = ended.is_awaited m ready there.place there w owed reply table closes waits

    pub has_room : vec_len m.settled < vec_capacity m.settled
    has_room = ended.has_room m ready there.place there w owed reply table closes waits

    module _ (clients : ClientStates) (tells : clients ≡ with_clients m.clients
        (clients_told m.clients.clients owed.client reply)) (settled : Vec Key) where
      abbrev then : Holdings
      then = record {
        moment = m.moment;
        length = m.length;
        table = table;
        clients = clients;
        settled = settled;
      }

      pub waited_ready : vec_len settled ≡ vec_len m.settled + 1
          → vec_capacity settled ≡ vec_capacity m.settled → IsWhole then
      waited_ready = ended.still_ready m ready there.place there w owed reply table closes waits clients tells
          settled

      pub waited_taken : settled.items ≡ m.settled.items ++ w.key ∷ [] → TakesOne m then queue taker there
      waited_taken listed = record {
        first = takes.first;
        has = has_item;
        fewer = not_more;
        state = ended.state_is m ready there.place there w owed reply table closes waits clients tells settled
            ∙ ap (λ (l : List Settled). closed s (there ∷ []) l) (sym settles_one);
        listed = listed ∙ ap (λ (l : List Settled). m.settled.items ++ keys_settled l) (sym settles_one);
      }
