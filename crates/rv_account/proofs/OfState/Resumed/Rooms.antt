-- What enters under limits that a step may have leaves room.
use Rattle.std.proofs.Common.{◌≡◌, ◌<◌, ◌≤◌, ◌+◌, ◌∷◌, ◌∙◌, ℕ, List, [], Bool, true}
use Rattle.std.proofs.Common.{false, cond}
use Rattle.std.proofs.Common.{Option, Some, None, is_some, inl, inr, length, refl, sym, ap, subst, arith}
use Rattle.std.proofs.Common.{slice_get}
use Rattle.std.specs.FinMap.{len}
use Rattle.std.proofs.lemmas.Bool.{cases_lt}
use Rattle.rv_text.specs.declared.call.Call.{Call}
use Rattle.rv_text.specs.declared.message.Key.{Key}
use Rattle.rv_text.specs.declared.version.Version.{Version}
use Rattle.rv_text.specs.declared.answer.Refusal.TheVariants.{ClientsFull, EpochFull}
use Rattle.rv_text.specs.Calls.{wait_of}
use Rattle.rv_text.specs.Members.{max_identifier}
use Rattle.rv_account.specs.Calls.{need_of}
use Rattle.rv_account.specs.Limits.{max_moment}
use Rattle.rv_account.specs.declared.entry.Act.{Act}
use Rattle.rv_account.specs.declared.entry.Act.TheVariants.{Arrive, Cancel, Hello, Tick}
use Rattle.rv_account.specs.rules.StepLimits.{AreStepLimits, BoundsPlaces, StepLimits, most_open_places}
use Rattle.rv_account.specs.state.After.{acted, due_at, following, just_open, met_by, opened_by, stays_open}
use Rattle.rv_account.specs.state.Follows.{NumberWaits}
use Rattle.rv_account.specs.state.Moves.{NoClientMoreUnder, NoEntryMoreUnder, NoPlaceMore}
use Rattle.rv_account.specs.state.State.{OpenPlace, State, client_at, waiting_count}
use Rattle.rv_account.proofs.OfState.GoneBy.{gone_by}
use Rattle.rv_account.proofs.OfState.OpensBy.{opens_by}
use Rattle.rv_account.proofs.OfState.DueAt.{due_place}
use Rattle.rv_account.proofs.OfState.PlacesLeft.{among_place}
use Rattle.rv_account.proofs.OfState.Words.{none-some}
use Rattle.rv_account.specs.state.State.{Waiter}
use Rattle.rv_account.specs.state.resume.Resuming.{CanResume, IsOpenIn, StaysInRoom}
use Rattle.rv_account.proofs.OfState.Resumed.Kept.{holds}
use Rattle.rv_account.proofs.OfState.Resumed.Stopping.{waits_found}
use Rattle.rv_account.proofs.OfState.Resumed.Counts.{arrived_len, cancelled_len, few_below, greeted_len}
use Rattle.rv_account.proofs.OfState.Resumed.Counts.{length_acted}
use Rattle.rv_account.proofs.OfState.Resumed.Counts.{needs_one, parks_within}
use Rattle.rv_account.proofs.OfState.Resumed.Counts.{places_within, ticked_len, waiter_gone, waiting_acted}
use Rattle.rv_account.proofs.OfState.Resumed.Counts.{waiting_within, wait_queues}
use Rattle.rv_account.proofs.OfState.Resumed.NextNumbers.{NotDue}
use Rattle.rv_account.proofs.OfState.Resumed.Opening.{none_opposite, stays_by}

-- where there is a bound on open places, one more may open for a request that would stay
abbrev pub PlaceLeft : Option ℕ → State → Call → Type 0
PlaceLeft None s c = Unit {0}
PlaceLeft (Some most) s c = NotDue (NoPlaceMore most s c)

module _ (s : State) (is : CanResume s) (moment : ℕ) (time : moment ≤ max_moment) where
  -- an act that opens nothing, and puts one that waits in the place of its entry or has room for it
  calm_room : (does : Act) → opens_by s moment does ≡ []
      → s.length + 1 + waiting_count (acted s moment does).after ≤ max_identifier
      → len (acted s moment does).after.clients ≤ 100000 → StaysInRoom (following s moment does).after
  calm_room does none space clients =
      let places = places_within s moment does in
      let no_more : length (opens_by s moment does) ≡ 0 = ap length none in
      let few = is.room.places in
      let long = length_acted s moment does in
      record {
        time = time;
        space = omega (arith, space, long);
        clients = clients;
        places = omega (arith, places, no_more, few);
      }

  no_more_wait : (does : Act) → opens_by s moment does ≡ []
      → waiting_count (acted s moment does).after ≤ waiting_count s
  no_more_wait does none =
      let within = waiting_within s moment does in
      let no_more : wait_queues (opens_by s moment does) ≡ 0 = ap wait_queues none in
      omega (arith, within, no_more)

  -- one that waited is gone
  one_less_waits : (does : Act) → opens_by s moment does ≡ [] → (i j : ℕ) (o x : OpenPlace)
      → slice_get s.open_places i ≡ Some o → is_some o.waiter ≡ true
      → slice_get (gone_by s moment does) j ≡ Some x → x.place ≡ o.place
      → s.length + 1 + waiting_count (acted s moment does).after ≤ max_identifier
  one_less_waits does none i j o x at waits stands same =
      let is_count = waiting_acted s moment does in
      let no_more : wait_queues (opens_by s moment does) ≡ 0 = ap wait_queues none in
      let less = waiter_gone s.open_places (gone_by s moment does) i j o x at waits stands same in
      let space = is.room.space in
      omega (arith, is_count, no_more, less, space)

  -- a cancel of what waits
  pub ended_room : (key : Key) → NumberWaits s key → StaysInRoom (following s moment (Cancel key)).after
  ended_room key number =
      let found = waits_found s (holds s is) key.client number.session number.place number.of_session.there
      number.waits in
      let stands = found.0 in
      calm_room (Cancel key) refl
      (one_less_waits (Cancel key) refl stands.is_open.0 0 stands.there found.1 stands.is_open.1
      (ap is_some stands.waits) (ap (λ (o : Option OpenPlace). slice_get (just_open o) 0) found.2) found.3)
      (subst (λ n. n ≤ 100000) (sym (cancelled_len s moment key)) is.room.clients)

  limit_waits : (there : OpenPlace) (limit : ℕ) → IsOpenIn s there → there.limit ≡ Some limit
      → (o : Option Waiter)
      → there.waiter ≡ o → is_some there.waiter ≡ true
  limit_waits there limit at has (Some w) waits = ap is_some waits
  limit_waits there limit at has None none =
      absurd (none-some limit (sym (is.lies there at none).unlimited ∙ has))

  -- a tick
  pub tick_room : (first : OpenPlace) (others : List OpenPlace) → due_at s moment ≡ first ∷ others
      → StaysInRoom (following s moment Tick).after
  tick_room first others some =
      let at : slice_get (due_at s moment) 0 ≡ Some first = ap (λ (l : List OpenPlace). slice_get l 0) some in
      let due = due_place s moment first.place (among_place (due_at s moment) 0 first at) in
      calm_room Tick refl
      (one_less_waits Tick refl due.i 0 due.there first due.stands
      (limit_waits due.there due.limit (due.i, due.stands) due.has due.there.waiter refl) at
      (sym due.at_place))
      (subst (λ n. n ≤ 100000) (sym (ticked_len s moment)) is.room.clients)

  module _ (limits : StepLimits) (fits : AreStepLimits limits) where
    room_for : (need : ℕ) → NotDue (NoEntryMoreUnder limits s need)
        → s.length + waiting_count s + need ≤ limits.entries
    room_for need room = elim (cases_lt limits.entries (s.length + waiting_count s + need)) [
      | inl full ↦ absurd (room EpochFull (record { full = full; is = refl }))
      | inr fits ↦ fits
    ]

    clients_for : (client : ℕ) → NotDue (NoClientMoreUnder limits s client) → client_at s client ≡ None
        → len s.clients < 100000
    clients_for client room none = elim (cases_lt (len s.clients) limits.clients) [
      | inl less ↦ let most = fits.clients in omega (arith, less, most)
      | inr full ↦ absurd (room ClientsFull (record { is_new = none; full = full; is = refl }))
    ]

    pub hello_room : (client incarnation : ℕ) (version : Version) → NotDue (NoClientMoreUnder limits s client)
        → NotDue (NoEntryMoreUnder limits s 1)
        → StaysInRoom (following s moment (Hello client incarnation version)).after
    hello_room client incarnation version clients room =
        let does = Hello client incarnation version in
        let enough = room_for 1 room in
        let most = fits.entries in
        let waits = no_more_wait does refl in
        calm_room does refl (omega (arith, enough, most, waits))
        (greeted_len s moment client incarnation version 100000 is.room.clients (clients_for client clients))

    pub cancel_room : (key : Key) → NotDue (NoEntryMoreUnder limits s 1)
        → StaysInRoom (following s moment (Cancel key)).after
    cancel_room key room =
        let enough = room_for 1 room in
        let most = fits.entries in
        let waits = no_more_wait (Cancel key) refl in
        calm_room (Cancel key) refl (omega (arith, enough, most, waits))
        (subst (λ n. n ≤ 100000) (sym (cancelled_len s moment key)) is.room.clients)

    -- ---- a request

    open_below : length s.open_places ≤ s.length
    open_below = few_below s.open_places s.length is.rise (λ i o at. is.below o (i, at))

    more_open : (c : Call) → stays_open c (met_by s c) ≡ true → NotDue (NoEntryMoreUnder limits s (need_of c))
        → (bound : Option ℕ) → BoundsPlaces bound limits.entries → PlaceLeft bound s c
        → length s.open_places + 1 ≤ most_open_places
    more_open c stays room None few left =
        let enough = room_for (need_of c) room in
        let least = needs_one (wait_of c) in
        let below = open_below in omega (arith, enough, least, below, few)
    more_open c stays room (Some most) few left = elim (cases_lt (length s.open_places) most) [
      | inl less ↦ omega (arith, less, few)
      | inr full ↦ absurd (left EpochFull (record {
        stays = stays_by c (met_by s c) stays;
        alone = none_opposite s c stays;
        full = full;
        is = refl;
      }))
    ]

    places_by : (key : Key) (c : Call) → NotDue (NoEntryMoreUnder limits s (need_of c))
        → PlaceLeft limits.open_places s c → (b : Bool) → stays_open c (met_by s c) ≡ b
        → length s.open_places + length (cond b (opened_by s moment key c ∷ []) []) ≤ most_open_places
    places_by key c room left false goes = let few = is.room.places in omega (arith, few)
    places_by key c room left true stays = more_open c stays room limits.open_places fits.places left

    pub request_room : (key : Key) (c : Call) → NotDue (NoEntryMoreUnder limits s (need_of c))
        → PlaceLeft limits.open_places s c → StaysInRoom (following s moment (Arrive key c)).after
    request_room key c room left =
        let enough = room_for (need_of c) room in
        let most = fits.entries in
        let within = waiting_within s moment (Arrive key c) in
        let parks = parks_within s moment key c (met_by s c) in
        let places = places_within s moment (Arrive key c) in
        let few = places_by key c room left (stays_open c (met_by s c)) refl in
        record {
          time = time;
          space = omega (arith, enough, most, within, parks, length_acted s moment (Arrive key c));
          clients = subst (λ n. n ≤ 100000) (sym (arrived_len s moment key c)) is.room.clients;
          places = omega (arith, places, few);
        }
