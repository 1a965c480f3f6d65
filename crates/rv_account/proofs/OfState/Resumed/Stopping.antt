-- A state after a hello, a cancel or a tick holds together as before.
use Rattle.std.proofs.Common.{◌≡◌, ◌≢◌, ◌⊎◌, ◌∷◌, ◌∙◌, ℕ, zero, suc, List, [], Option, Some}
use Rattle.std.proofs.Common.{None}
use Rattle.std.proofs.Common.{inl, inr, refl, sym, ap, subst, arith, slice_get, nat_eq}
use Rattle.std.proofs.lemmas.Bool.{eq-eqb, eqb-true}
use Rattle.std.specs.FinMap.{keys}
use Rattle.std.specs.Prelude.{filter, nat_lt, not, option_and_then}
use Rattle.rv_text.specs.declared.call.Call.{Call}
use Rattle.rv_text.specs.declared.message.Key.{Key}
use Rattle.rv_text.specs.declared.answer.Reply.{Reply}
use Rattle.rv_text.specs.declared.answer.Reply.TheVariants as reply
use Rattle.rv_text.specs.declared.version.Version.{Version}
use Rattle.rv_text.specs.Limits.{FitsIdentifier, FitsKey, FitsReply, IsOfEpoch}
use Rattle.rv_session.specs.declared.client.LastRequest.{LastRequest}
use Rattle.rv_session.specs.declared.client.LastRequest.TheVariants.{CancelledUnseen, Fresh, RepliedTo, Waits}
use Rattle.rv_session.specs.Clients.{place_waiting}
use Rattle.rv_account.specs.declared.entry.Act.TheVariants.{Cancel, Hello, Tick}
use Rattle.rv_account.specs.state.After.{advanced, cancelled, due_at, following, just_open}
use Rattle.rv_account.specs.state.After.{stopped}
use Rattle.rv_account.specs.state.After.{limits_of, with_client, with_last}
use Rattle.rv_account.specs.state.Follows.{NumberIsNext, NumberWaits}
use Rattle.rv_account.specs.state.State.{ClientState, OpenPlace, State, client_at, client_waits, open_at}
use Rattle.rv_account.proofs.OfState.Words.{none-some, same_Some}
use Rattle.rv_account.proofs.OfState.Filtered.{chained_there, filter_map_get, find_get, get_find}
use Rattle.rv_account.specs.state.State.{Waiter}
use Rattle.rv_account.specs.state.resume.Suiting.{EndsUnmet, SuitsCall}
use Rattle.rv_account.specs.state.resume.Resuming.{IsAwaitedBy, IsLastAt, IsOpenIn}
use Rattle.std.proofs.Common.{IsSome, arith}
use Rattle.std.proofs.lemmas.Bool.{false≢true}
use Rattle.rv_account.specs.Calls.{Lasts, limit_after, limit_of}
use Rattle.rv_text.specs.Calls.{wait_of}
use Rattle.rv_text.specs.declared.call.Call.TheVariants as call
use Rattle.rv_text.specs.declared.call.Wait.{Wait}
use Rattle.rv_text.specs.declared.call.Wait.TheVariants.{Forever, Millis, Now}
use Rattle.rv_account.proofs.OfState.DueAt.{due_place}
use Rattle.rv_account.proofs.OfState.PlacesLeft.{among_place}
use Rattle.rv_account.proofs.OfState.Resumed.Closing.{IsTold, answers, closed_holds, left, not_gone}
use Rattle.rv_account.proofs.OfState.Resumed.Entering.{renewed_holds}
use Rattle.rv_account.proofs.OfState.Resumed.Kept.{HoldsTogether, IsIdle, longer, one_at}
use Rattle.rv_account.proofs.OfState.Resumed.Sessions.{still_waits}

-- ---- what is found

pub opens_there : (s : State) (place : ℕ) (there : OpenPlace) → open_at s place ≡ Some there
    → IsOpenIn s there × (there.place ≡ place)
opens_there s place there found =
    let at = find_get (λ (o : OpenPlace). nat_eq o.place place) s.open_places there found in
    ((at.0, at.1), eqb-true there.place place at.2)

-- where one stands at a place, one is found there
pub found_there : (s : State) (there : OpenPlace) → IsOpenIn s there
    → (other : OpenPlace) × (open_at s there.place ≡ Some other)
found_there s there at =
    get_find (λ (o : OpenPlace). nat_eq o.place there.place) s.open_places at.0 there at.1
    (eq-eqb there.place there.place refl)

pub waits_open : (s : State) (client : ℕ) (there : OpenPlace) → client_waits s client ≡ Some there
    → IsOpenIn s there
waits_open s client there found =
    let at = chained_there (open_at s) (option_and_then (λ (c : ClientState). place_waiting c.request)
    (client_at s client)) there found in
    (opens_there s at.0 there at.2).0

pub due_open : (s : State) (moment i : ℕ) (there : OpenPlace) → slice_get (due_at s moment) i ≡ Some there
    → IsOpenIn s there
due_open s moment i there at =
    let from = filter_map_get (λ (d : ℕ × ℕ). open_at s d.1)
    (filter (λ (d : ℕ × ℕ). not (nat_lt moment d.0)) (keys (limits_of s))) i there at in
    (opens_there s from.1.1 there from.3).0

-- ---- what suits those that are stopped

unmet_cancelled : (wait : Wait) (at_once : Reply) → Lasts (Some wait) → EndsUnmet wait at_once reply.Cancelled
unmet_cancelled Now at_once lasts = absurd lasts
unmet_cancelled (Millis zero) at_once lasts = absurd (let no : ⊥ = omega (arith, lasts) in no)
unmet_cancelled (Millis (suc n)) at_once lasts = inr refl
unmet_cancelled Forever at_once lasts = refl

cancelled_suits : (version : Version) (c : Call) → IsSome (wait_of c) → Lasts (wait_of c)
    → SuitsCall version c reply.Cancelled
cancelled_suits version (call.Put queue item) may lasts = absurd (false≢true may)
cancelled_suits version (call.Transfer queue item wait) may lasts =
    inr (unmet_cancelled wait reply.Nobody lasts)
cancelled_suits version (call.Take queue wait) may lasts = inr (unmet_cancelled wait reply.Empty lasts)
cancelled_suits version (call.Swap exchanger item wait) may lasts =
    inr (unmet_cancelled wait reply.TimedOut lasts)
cancelled_suits version (call.Count queue) may lasts = absurd (false≢true may)
cancelled_suits version (call.Peek queue) may lasts = absurd (false≢true may)
cancelled_suits version (call.Drain queue max) may lasts = absurd lasts

unmet_timed_out : (wait : Wait) (at_once : Reply) (since limit : ℕ) → limit_after since wait ≡ Some limit
    → EndsUnmet wait at_once reply.TimedOut
unmet_timed_out Now at_once since limit is = absurd (none-some limit is)
unmet_timed_out (Millis zero) at_once since limit is = refl
unmet_timed_out (Millis (suc n)) at_once since limit is = inl refl
unmet_timed_out Forever at_once since limit is = absurd (none-some limit is)

timed_out_suits : (version : Version) (c : Call) (since limit : ℕ) → limit_of since c ≡ Some limit
    → SuitsCall version c reply.TimedOut
timed_out_suits version (call.Put queue item) since limit is = absurd (none-some limit is)
timed_out_suits version (call.Transfer queue item wait) since limit is =
    inr (unmet_timed_out wait reply.Nobody since limit is)
timed_out_suits version (call.Take queue wait) since limit is =
    inr (unmet_timed_out wait reply.Empty since limit is)
timed_out_suits version (call.Swap exchanger item wait) since limit is =
    inr (unmet_timed_out wait reply.TimedOut since limit is)
timed_out_suits version (call.Count queue) since limit is = absurd (none-some limit is)
timed_out_suits version (call.Peek queue) since limit is = absurd (none-some limit is)
timed_out_suits version (call.Drain queue max) since limit is = absurd (none-some limit is)

module _ (s : State) (is : HoldsTogether s) where
  -- ---- some are stopped

  pub stopped_holds : (gone : List OpenPlace) (told : Reply) → FitsReply told → IsOfEpoch s.epoch told
      → ((i : ℕ) (o : OpenPlace) (w : Waiter) → slice_get gone i ≡ Some o → (own : IsLastAt s o w)
      → SuitsCall own.session.version own.call told)
      → ((i : ℕ) (o : OpenPlace) → slice_get gone i ≡ Some o → IsOpenIn s o)
      → HoldsTogether (stopped s gone told).after
  stopped_holds gone told fits of suits among =
      closed_holds s is gone (λ there key. Some told) among
      (λ i o w at has. record { reply = told; is = refl; fits = fits; of_epoch = of; suits = suits i o w at })

  cancel_suits : (there : OpenPlace) (w : Waiter) (own : IsLastAt s there w)
      → SuitsCall own.session.version own.call reply.Cancelled
  cancel_suits there w own = cancelled_suits own.session.version own.call own.may_wait own.lasts

  -- what is told who is cancelled
  cancels : (there : OpenPlace) (w : Waiter) → IsTold s (λ there key. Some reply.Cancelled) there w
  cancels there w = record {
    reply = reply.Cancelled;
    is = refl;
    fits = tt;
    of_epoch = tt;
    suits = cancel_suits there w;
  }

  just_among : (o : Option OpenPlace) → ((there : OpenPlace) → o ≡ Some there → IsOpenIn s there) → (i : ℕ)
      (there : OpenPlace) → slice_get (just_open o) i ≡ Some there → IsOpenIn s there
  just_among None is_open i there at = absurd (none-some there at)
  just_among (Some one) is_open zero there at = is_open there at
  just_among (Some one) is_open (suc i) there at = absurd (none-some there at)

  -- ---- a tick

  due_suits : (moment i : ℕ) (o : OpenPlace) (w : Waiter) → slice_get (due_at s moment) i ≡ Some o
      → (own : IsLastAt s o w) → SuitsCall own.session.version own.call reply.TimedOut
  due_suits moment i o w at own =
      let due = due_place s moment o.place (among_place (due_at s moment) i o at) in
      let same : due.there ≡ o = one_at s is due.there o (due.i, due.stands) (due_open s moment i o at)
      due.at_place in
      timed_out_suits own.session.version own.call w.since due.limit
      (sym own.limit ∙ ap (λ (x : OpenPlace). x.limit) (sym same) ∙ due.has)

  pub ticked_holds : (moment : ℕ) → HoldsTogether (following s moment Tick).after
  ticked_holds moment =
      longer (stopped s (due_at s moment) reply.TimedOut).after moment
      (stopped_holds (due_at s moment) reply.TimedOut tt tt (due_suits moment) (due_open s moment))

  -- ---- a hello

  module _ (client : ℕ) where
    abbrev waiting : List OpenPlace
    waiting = just_open (client_waits s client)

    abbrev ended : State
    ended = (stopped s waiting reply.Cancelled).after

    among : (i : ℕ) (there : OpenPlace) → slice_get waiting i ≡ Some there → IsOpenIn s there
    among = just_among (client_waits s client) (waits_open s client)

    ended_holds : HoldsTogether ended
    ended_holds = stopped_holds waiting reply.Cancelled tt tt (λ i o w at. cancel_suits o w) among

    is_found : (session : ClientState) (place : ℕ) (there : OpenPlace) → client_at s client ≡ Some session
        → place_waiting session.request ≡ Some place → open_at s place ≡ Some there
        → client_waits s client ≡ Some there
    is_found session place there known waits found =
        ap (λ (o : Option ClientState). option_and_then (open_at s)
        (option_and_then (λ (c : ClientState). place_waiting c.request) o)) known
        ∙ ap (option_and_then (open_at s)) waits ∙ found

    place_call : (request : LastRequest) (place : ℕ) → place_waiting request ≡ Some place
        → (c : Call) × (request ≡ Waits place c)
    place_call Fresh place is = absurd (none-some place is)
    place_call (Waits at c) place is = (c, ap (λ p. Waits p c) (same_Some _ _ is))
    place_call (RepliedTo c r) place is = absurd (none-some place is)
    place_call CancelledUnseen place is = absurd (none-some place is)

    waits_or_not : (o : Option ℕ) → (o ≡ None) ⊎ ((place : ℕ) × (o ≡ Some place))
    waits_or_not None = inl refl
    waits_or_not (Some place) = inr (place, refl)

    -- where its request was stopped, it waits nowhere
    ended_idle : IsIdle ended client
    ended_idle session known = elim (waits_or_not (place_waiting session.request)) [
      | inl idle ↦ idle
      | inr waits ↦
          let its = place_call session.request waits.0 waits.1 in
          let from = answers s is waiting (λ there key. Some reply.Cancelled) among
          (λ i o w at has. cancels o w) client
          session
          known in
          let same = still_waits s.epoch from.0 session waits.0 its.0 from.2 its.1 in
          let stands = ended_holds.standing client session waits.0 its.0 known its.1 in
          let before = (left s is waiting (λ there key. Some reply.Cancelled) among
          (λ i o w at has. cancels o w)
          stands.there
          stands.is_open).0 in
          let found = found_there s stands.there before in
          let waits_there = is_found from.0 waits.0 found.0 from.1
          (ap (λ (c : ClientState). place_waiting c.request) (sym same) ∙ waits.1)
          (ap (open_at s) (sym stands.at_place) ∙ found.1) in
          absurd (not_gone s is waiting (λ there key. Some reply.Cancelled) among
          (λ i o w at has. cancels o w)
          stands.there
          stands.is_open 0 found.0 (ap (λ (o : Option OpenPlace). slice_get (just_open o) 0) waits_there)
          (opens_there s stands.there.place found.0 found.1).1)
    ]

    pub greeted_holds : (moment incarnation : ℕ) (version : Version) → FitsIdentifier client
        → FitsIdentifier incarnation
        → HoldsTogether (following s moment (Hello client incarnation version)).after
    greeted_holds moment incarnation version client_fits incarnation_fits =
        let session : ClientState = record {
          incarnation = incarnation;
          version = version;
          last = 0;
          request = Fresh;
        } in
        longer (with_client ended client session) moment
        (renewed_holds ended ended_holds client session ended_idle (record {
          client_fits = client_fits;
          incarnation = incarnation_fits;
          last = omega arith;
          request = tt;
          unasked = λ none. refl;
          fresh = λ is. refl;
        }) refl)

  -- ---- a cancel

  -- whose request waits is found at its place
  pub waits_found : (client : ℕ) (session : ClientState) (place : ℕ) → client_at s client ≡ Some session
      → place_waiting session.request ≡ Some place
      → (stands : IsAwaitedBy s client place) × (found : OpenPlace) × (client_waits s client ≡ Some found)
      × (found.place ≡ stands.there.place)
  waits_found client session place known waits =
      let its = place_call client session.request place waits in
      let stands = is.standing client session place its.0 known its.1 in
      let found = found_there s stands.there stands.is_open in (
        stands,
        found.0,
        is_found client session place found.0 known waits (ap (open_at s) (sym stands.at_place) ∙ found.1),
        (opens_there s stands.there.place found.0 found.1).1,
      )

  -- where nothing is found of a client, it waits nowhere
  none_idle : (client : ℕ) → client_waits s client ≡ None → IsIdle s client
  none_idle client none session known = elim (waits_or_not client (place_waiting session.request)) [
    | inl idle ↦ idle
    | inr waits ↦
        let found = waits_found client session waits.0 known waits.1 in
        absurd (none-some found.1 (sym none ∙ found.2))
  ]

  unseen_holds : (moment : ℕ) (key : Key) (session : ClientState) → FitsKey key
      → client_at s key.client ≡ Some session → key.number ≢ 0 → client_waits s key.client ≡ None
      → HoldsTogether (advanced (cancelled s key None).after moment)
  unseen_holds moment key session key_fits known some none =
      let then : ClientState = record {
        incarnation = session.incarnation;
        version = session.version;
        last = key.number;
        request = CancelledUnseen;
      } in
      let was = is.sessions key.client session known in
      subst (λ (x : State). HoldsTogether (advanced x moment))
      (sym (ap (with_last s key CancelledUnseen) known))
      (longer (with_client s key.client then) moment
      (renewed_holds s is key.client then (none_idle key.client none) (record {
        client_fits = was.client_fits;
        incarnation = was.incarnation;
        last = key_fits.3.1;
        request = tt;
        unasked = λ none. absurd (some none);
        fresh = λ fresh. absurd (let no : ⊥ = cc in no);
      }) refl))

  -- the key's session, whose number it has or has next
  number_some : (key : Key) → FitsKey key → key.number ≢ 0
  number_some key fits none = let least = fits.3.0 in omega (arith, least, none)

  known_of : (key : Key) → NumberWaits s key ⊎ NumberIsNext s key
      → (session : ClientState) × (client_at s key.client ≡ Some session)
  known_of key (inl waits) = (waits.session, waits.of_session.there)
  known_of key (inr next) = (next.session, next.of_session.there)

  pub cancelled_holds : (moment : ℕ) (key : Key) → FitsKey key → NumberWaits s key ⊎ NumberIsNext s key
      → HoldsTogether (following s moment (Cancel key)).after
  cancelled_holds moment key fits number = by_waiting (client_waits s key.client) refl
    where
      by_waiting : (o : Option OpenPlace) → client_waits s key.client ≡ o
          → HoldsTogether (advanced (cancelled s key o).after moment)
      by_waiting None none =
          let known = known_of key number in
          unseen_holds moment key known.0 fits known.1 (number_some key fits) none
      by_waiting (Some there) waits =
          longer (stopped s (there ∷ []) reply.Cancelled).after moment
          (stopped_holds (there ∷ []) reply.Cancelled tt tt (λ i o w at. cancel_suits o w)
          (just_among (Some there) (λ other same. waits_open s key.client other (waits ∙ same))))
