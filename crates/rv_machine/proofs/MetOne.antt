-- A machine in which a request met one: before its entry is counted.
use Rattle.std.proofs.Common.{◌≡◌, ◌≢◌, ◌≤◌, ◌∙◌, ◌++◌, ◌∷◌, ◌+◌, ℕ, List, [], true}
use Rattle.std.proofs.Common.{Option, Some, None, IsSome, refl, sym, ap, subst, arith}
use Rattle.std.proofs.Common.{slice_get, nat_eq}
use Rattle.std.specs.Prelude.{option_and_then, option_map, vec_capacity, vec_len}
use Rattle.std.specs.FinMap.{FinMap, get}
use Rattle.std.specs.Ordering.{nat_cmp}
use Rattle.std.proofs.lemmas.Bool.{false≢true}
use Rattle.std.proofs.lemmas.List.{append-nil}
use Rattle.rv_text.specs.declared.message.Key.{Key}
use Rattle.rv_text.specs.declared.call.Call.{Call}
use Rattle.rv_text.specs.declared.call.Side.{Side}
use Rattle.rv_text.specs.declared.answer.Reply.{Reply}
use Rattle.rv_text.specs.declared.answer.Reply.TheVariants as reply
use Rattle.rv_text.specs.Calls.{item_of, side_of}
use Rattle.rv_session.specs.OwedDuty.{OwedDuty}
use Rattle.rv_session.specs.declared.client.ClientState.{ClientState}
use Rattle.rv_session.specs.declared.client.LastRequest.TheVariants.{RepliedTo, Waits}
use Rattle.rv_session.specs.Clients.{ClientStates, clients_asked, clients_told, place_awaited, place_waiting}
use Rattle.rv_session.specs.Clients.{with_clients, with_last_number}
use Rattle.rv_account.specs.Calls.{opposite}
use Rattle.rv_account.specs.state.State.{OpenPlace, State, Waiter, client_at, same_side}
use Rattle.rv_account.specs.state.After.{Settled, closed, settled_all, told_partner}
use Rattle.rv_account.proofs.OfState.Filtered.{filter_get, find_get}
use Rattle.rv_account.proofs.OfState.SideLines.{same_side_is}
use Rattle.rv_account.proofs.OfState.TableClients.{clients_after_tell}
use Rattle.rv_account.proofs.OfState.Words.{none-some, same_Some}
use Rattle.rv_machine.specs.declared.tables.Holdings.{Holdings}
use Rattle.rv_machine.specs.Arriving.{MayArrive}
use Rattle.rv_machine.specs.open_places.Indexed.{ClosesFirst}
use Rattle.rv_machine.specs.Machines.{IsConsistent, IsWaiter, keys_settled, state_in}
use Rattle.rv_machine.specs.open_places.OpenMap.{facing, found_at, line_in, count_waiting}
use Rattle.rv_machine.specs.Telling.{MayTell, TellsOne, TellsWaiter, WasTold, machine_told, told_on_side}
use Rattle.rv_machine.proofs.Asked.{asked_then_told, met_clients}
use Rattle.rv_machine.proofs.EndingOne.{awaited, but_one, ended_consistent, less_waits}
use Rattle.rv_machine.proofs.GoneItem.{gone_consistent, no_more_wait}
use Rattle.rv_machine.proofs.MetReplies.{partner_told, settles_nobody, settles_one}
use Rattle.rv_machine.proofs.Told.{asked_other, asked_own, told_other}

-- whom a line faces stands on it
pub faced_side : (all : List OpenPlace) (side : Side) (there : OpenPlace) (rest : List OpenPlace)
    → line_in all side ≡ there ∷ rest → there.side ≡ side
faced_side all side there rest line =
    let was = filter_get (λ (o : OpenPlace). same_side o.side side) all 0 there
    (ap (λ (l : List OpenPlace). slice_get l 0) line) in
    same_side_is there.side side was.2

no_line : (there : OpenPlace) (rest : List OpenPlace) → [] ≡ there ∷ rest → ⊥
no_line there rest is = cc

pub faces : (all new : List OpenPlace) (o : Option Side) (there : OpenPlace)
    → facing all o ≡ there ∷ facing new o → o ≡ Some there.side
faces all new None there first = absurd (no_line there [] first)
faces all new (Some side) there first = ap Some (sym (faced_side all side there (line_in new side) first))

-- a machine with this table of what is open and these clients
abbrev pub begun_with : Holdings → List OpenPlace → ClientStates → Holdings
begun_with m table clients =
    record { moment = m.moment; length = m.length; table = table; clients = clients; settled = m.settled }

module _ (m : Holdings) (moment : ℕ) (key : Key) (call : Call) (may : MayArrive m moment key call)
    (table : List OpenPlace) (there : OpenPlace) (other : Option OwedDuty)
    (met : ClosesFirst m.table table (opposite (side_of call)) there other) where
  abbrev s : State
  s = state_in m

  abbrev is : IsConsistent s
  is = may.ready.consistent

  abbrev settles : List Settled
  settles = settled_all (told_partner s key call) (there ∷ [])

  pub opposes : opposite (side_of call) ≡ Some there.side
  opposes = faces m.table table (opposite (side_of call)) there met.first

  -- with its own request begun
  abbrev pub begun : Holdings
  begun = begun_with m table (with_clients m.clients (clients_asked m.clients.clients key
      (Waits m.length call)))

  stands : (i : ℕ) × (slice_get m.table i ≡ Some there) × (nat_eq there.place there.place ≡ true)
  stands = find_get (λ (o : OpenPlace). nat_eq o.place there.place) m.table there met.closes.found

  its : (w : Waiter) → there.waiter ≡ Some w → IsWaiter s there w
  its w waits = is.wait_queues stands.0 there w stands.1 waits

  -- who waits is of another client
  apart : (w : Waiter) → there.waiter ≡ Some w → w.key.client ≢ key.client
  apart w waits same =
      let one = its w waits in
      let session_is = same_Some _ _ (sym may.next.of_session.there ∙ ap (client_at s) (sym same) ∙ one.known)
      in
      none-some there.place (sym may.next.idle ∙ ap (λ (c : ClientState). place_waiting c.request) session_is
      ∙ ap place_waiting one.waits)

  found_there : found_at m.table there.place ≡ Some there
  found_there = met.closes.found

  one_less_waits : (w : Waiter) → there.waiter ≡ Some w → count_waiting table + 1 ≡ count_waiting m.table
  one_less_waits w waits =
      ap (λ l. count_waiting l + 1) (met.closes.rest ∙ sym (but_one m.table there))
      ∙ less_waits s is there.place there w reply.Cancelled found_there waits

  can_tell : (w : Waiter) → there.waiter ≡ Some w
      → MayTell begun (record { place = there.place; client = w.key.client }) there.waiter there.side key
      (item_of call)
  can_tell w waits =
      let one = its w waits in
      let r = some_of (told_on_side there.side one.session.version (Some key) (item_of call))
      (partner_told call there.side one.session.version key opposes) in
      record {
        who = w;
        is = waits;
        client = refl;
        awaited = ap (option_and_then (λ (c : ClientState). place_waiting c.request))
            (asked_other m.clients.clients key w.key.client (Waits m.length call) (apart w waits))
            ∙ awaited s is there.place there w reply.Cancelled found_there waits;
        session = one.session;
        known = asked_other m.clients.clients key w.key.client (Waits m.length call) (apart w waits)
            ∙ one.known;
        reply = r.0;
        told = r.1;
        room = omega (arith, one_less_waits w waits, may.ready.room);
      }
    where
      some_of : (o : Option Reply) → IsSome o → (r : Reply) × (o ≡ Some r)
      some_of None some = absurd (false≢true some)
      some_of (Some r) some = (r, refl)

  pub tells_waiter : TellsWaiter begun other there.waiter there.side key (item_of call)
  tells_waiter = subst (λ (o : Option OwedDuty). TellsWaiter begun o there.waiter there.side key
      (item_of call))
      met.closes.owed (by_waiter there.waiter refl)
    where
      by_waiter : (w : Option Waiter) → there.waiter ≡ w
          → TellsWaiter begun (option_map (λ x. record { place = there.place; client = x.key.client }) w)
          there.waiter there.side key (item_of call)
      by_waiter None none = tt
      by_waiter (Some w) waits = can_tell w waits

  -- ---- what was told

  -- one who waited, or nobody, was told, and then the arrival
  pub record TellsBoth (now : Holdings) : Type 0 where
    pub consistent : IsConsistent (closed s (there ∷ []) settles)
    pub known : client_at (closed s (there ∷ []) settles) key.client ≡ Some may.next.session
    pub table_is : now.table ≡ table
    pub moment_is : now.moment ≡ m.moment
    pub length_is : now.length ≡ m.length
    pub epoch : now.clients.epoch ≡ m.clients.epoch
    pub most : now.clients.most ≡ m.clients.most
    pub listed : now.settled.items ≡ m.settled.items ++ keys_settled settles
    pub room : count_waiting table + vec_len now.settled ≤ vec_capacity now.settled
    pub its_awaited : place_awaited now.clients.clients key.client ≡ Some m.length
    pub tells : (own : Reply) → clients_told now.clients.clients key.client own
        ≡ clients_asked (closed s (there ∷ []) settles).clients key (RepliedTo call own)

  begins : get begun.clients.clients key.client ≡ Some (with_last_number may.next.session key.number
      (Waits m.length call))
  begins = asked_own m.clients.clients key (Waits m.length call) may.next.session may.next.of_session.there

  own_awaited : (clients : FinMap nat_cmp ClientState)
      → get clients key.client ≡ get begun.clients.clients key.client
      → place_awaited clients key.client ≡ Some m.length
  own_awaited clients same = ap (option_and_then (λ (c : ClientState). place_waiting c.request))
      (same ∙ begins)

  nobody : (now : Holdings) → there.waiter ≡ None → now ≡ begun → TellsBoth now
  nobody now none same =
      let no_one = settles_nobody s is there.place there found_there key call none in
      let P : List Settled → Type 0 = λ l. IsConsistent (closed s (there ∷ []) l) in
      let fewer = no_more_wait m.table there is.rise found_there in
      let at_most : count_waiting table ≤ count_waiting m.table =
      subst (λ (l : List OpenPlace). count_waiting l ≤ count_waiting m.table) (sym met.closes.rest) fewer in
      record {
        consistent = subst P (sym no_one) (gone_consistent s is there found_there none);
        known = ap (λ (l : List Settled). client_at (closed s (there ∷ []) l) key.client) no_one
            ∙ may.next.of_session.there;
        table_is = ap (λ (x : Holdings). x.table) same;
        moment_is = ap (λ (x : Holdings). x.moment) same;
        length_is = ap (λ (x : Holdings). x.length) same;
        epoch = ap (λ (x : Holdings). x.clients.epoch) same;
        most = ap (λ (x : Holdings). x.clients.most) same;
        listed = ap (λ (x : Holdings). x.settled.items) same ∙ sym (append-nil m.settled.items)
            ∙ ap (λ (l : List Settled). m.settled.items ++ keys_settled l) (sym no_one);
        room = subst (λ (x : Holdings). count_waiting table + vec_len x.settled ≤ vec_capacity x.settled)
            (sym same)
            (omega (arith, at_most, may.ready.room));
        its_awaited = ap (λ (x : Holdings). place_awaited x.clients.clients key.client) same
            ∙ own_awaited begun.clients.clients refl;
        tells = λ own_reply.
            ap (λ (x : Holdings). clients_told x.clients.clients key.client own_reply) same
            ∙ asked_then_told m.clients.clients key m.length call own_reply may.next.session
            may.next.of_session.there
            ∙ ap (λ (l : List Settled). clients_asked (closed s (there ∷ []) l).clients key
            (RepliedTo call own_reply))
            (sym no_one);
      }

  somebody : (now : Holdings) (w : Waiter) → there.waiter ≡ Some w
      → WasTold begun now there.waiter there.side key (item_of call) → TellsBoth now
  somebody now w waits was =
      let same_who : was.who ≡ w = same_Some _ _ (sym was.is ∙ waits) in
      let one = its w waits in
      let session_known = asked_other m.clients.clients key w.key.client (Waits m.length call) (apart w waits)
      ∙ one.known in
      let session_is : was.session ≡ one.session = same_Some _ _
      (sym was.known ∙ ap (λ (v : Waiter). get begun.clients.clients v.key.client) same_who ∙ session_known)
      in
      let told = ap (λ (x : ClientState). told_on_side there.side x.version (Some key) (item_of call))
      (sym session_is)
      ∙ was.told in
      let settled_is : settles ≡ record { key = w.key; reply = was.reply } ∷ [] =
      settles_one s is there.place there found_there key call w was.reply waits one told in
      let same : now ≡ machine_told begun w was.reply now.settled = was.machine
      ∙ ap (λ (v : Waiter). machine_told begun v was.reply now.settled) same_who in
      let P : List Settled → Type 0 = λ l. IsConsistent (closed s (there ∷ []) l) in
      let gone = ended_consistent s is there.place there w was.reply found_there waits in
      let tells_is = clients_after_tell s.clients (record { key = w.key; reply = was.reply }) in
      let less = one_less_waits w waits in
      record {
        consistent = subst P (sym settled_is) gone;
        known = ap (λ (l : List Settled). client_at (closed s (there ∷ []) l) key.client) settled_is
            ∙ ap (λ (c : FinMap nat_cmp ClientState). get c key.client) tells_is
            ∙ told_other s.clients w.key.client key.client was.reply (λ e. apart w waits (sym e))
            ∙ may.next.of_session.there;
        table_is = ap (λ (x : Holdings). x.table) same;
        moment_is = ap (λ (x : Holdings). x.moment) same;
        length_is = ap (λ (x : Holdings). x.length) same;
        epoch = ap (λ (x : Holdings). x.clients.epoch) same;
        most = ap (λ (x : Holdings). x.clients.most) same;
        listed = was.listed ∙ ap (λ (v : Waiter). m.settled.items ++ v.key ∷ []) same_who
            ∙ ap (λ (l : List Settled). m.settled.items ++ keys_settled l) (sym settled_is);
        room = omega (arith, less, may.ready.room, was.longer, was.capacity);
        its_awaited = ap (λ (x : Holdings). place_awaited x.clients.clients key.client) same
            ∙ own_awaited (clients_told begun.clients.clients w.key.client was.reply)
            (told_other begun.clients.clients w.key.client key.client was.reply (λ e. apart w waits (sym e)));
        tells = λ own_reply.
            ap (λ (x : Holdings). clients_told x.clients.clients key.client own_reply) same
            ∙ met_clients m.clients.clients key m.length call w.key.client was.reply own_reply
            may.next.session
            one.session may.next.of_session.there one.known (apart w waits)
            ∙ ap (λ (c : FinMap nat_cmp ClientState). clients_asked c key (RepliedTo call own_reply))
            (sym tells_is)
            ∙ ap (λ (l : List Settled). clients_asked (closed s (there ∷ []) l).clients key
            (RepliedTo call own_reply))
            (sym settled_is);
      }

  pub tells_both : (now : Holdings) → TellsOne begun now other there.waiter there.side key (item_of call)
      → TellsBoth now
  tells_both now tells = by_waiter there.waiter refl
    where
      told_as : (o : Option OwedDuty) → other ≡ o
          → TellsOne begun now o there.waiter there.side key (item_of call)
      told_as o same = subst (λ x. TellsOne begun now x there.waiter there.side key (item_of call)) same tells

      by_waiter : (w : Option Waiter) → there.waiter ≡ w → TellsBoth now
      by_waiter None none = nobody now none (told_as None (sym met.closes.owed
          ∙ ap (λ (x : Option Waiter). option_map
          (λ v. record { place = there.place; client = v.key.client }) x) none))
      by_waiter (Some w) waits = somebody now w waits (told_as
          (Some (record { place = there.place; client = w.key.client })) (sym met.closes.owed
          ∙ ap (λ (x : Option Waiter). option_map
          (λ v. record { place = there.place; client = v.key.client }) x) waits))
