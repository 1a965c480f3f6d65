-- A state that a request arrives at holds together as before.
use Rattle.std.proofs.Common.{◌≡◌, ◌≢◌, ◌<◌, ◌+◌, ◌∷◌, ◌∙◌, ℕ, List, []}
use Rattle.std.proofs.Common.{true, cond}
use Rattle.std.proofs.Common.{Option, Some, None, inl, inr, refl, sym, ap, subst, arith}
use Rattle.std.proofs.Common.{slice_get}
use Rattle.rv_text.specs.declared.call.Call.{Call}
use Rattle.rv_text.specs.declared.message.Key.{Key}
use Rattle.rv_text.specs.declared.answer.Reply.{Reply}
use Rattle.rv_text.specs.declared.answer.Reply.TheVariants as reply
use Rattle.rv_text.specs.Calls.{side_of, wait_of}
use Rattle.rv_text.specs.Limits.{FitsCall, FitsKey}
use Rattle.rv_session.specs.declared.client.LastRequest.{LastRequest}
use Rattle.rv_session.specs.declared.client.LastRequest.TheVariants.{Fresh, RepliedTo, Waits}
use Rattle.rv_session.specs.Clients.{place_waiting}
use Rattle.rv_account.specs.declared.entry.Act.TheVariants.{Arrive}
use Rattle.rv_account.proofs.OfRules.Opposites.{opposite_back}
use Rattle.rv_account.specs.state.After.{advanced, closed, following, met_by, opened_by, parked}
use Rattle.rv_account.specs.state.After.{request_after}
use Rattle.rv_account.specs.state.After.{settled_all, stays_open, told_own, told_partner, waiter_of}
use Rattle.rv_account.specs.state.After.{with_last}
use Rattle.rv_account.specs.state.After.{with_open}
use Rattle.rv_account.specs.state.Follows.{NumberIsNext}
use Rattle.rv_account.specs.state.State.{ClientState, OpenPlace, State, Waiter, client_at}
use Rattle.rv_account.proofs.OfState.Words.{none-some, same_Some}
use Rattle.rv_account.specs.state.Agreement.{last_key_of}
use Rattle.rv_account.specs.state.resume.Suiting.{SuitsCall}
use Rattle.rv_account.specs.state.resume.Resuming.{CanResume, FitsLastRequest, FitsSession, IsAwaitedBy}
use Rattle.rv_account.specs.state.resume.Resuming.{IsLastAt}
use Rattle.rv_account.specs.state.resume.Resuming.{IsOpenIn, LiesOpen}
use Rattle.rv_account.proofs.OfState.Resumed.Alone.{Ends, GoesTold, LeavesItem, StaysWaiting, alone_ends}
use Rattle.rv_account.proofs.OfState.Resumed.Closing.{closed_holds, idle_same, left}
use Rattle.rv_account.proofs.OfState.Resumed.Entering.{Joins, back_get, entered, entered_holds, joins_none}
use Rattle.rv_account.proofs.OfState.Resumed.Kept.{HoldsTogether, IsIdle, holds, longer}
use Rattle.rv_account.proofs.OfState.Resumed.Meeting.{met_on, meeting_told, partner_told}
use Rattle.rv_account.proofs.OfState.Resumed.Opening.{faces_none, one_of_one, put_lies, rise_end, stays_by}
use Rattle.rv_account.proofs.OfState.Resumed.Opening.{waiter_is}
use Rattle.rv_account.proofs.OfState.Resumed.Opening.{waiter_there}
use Rattle.rv_account.proofs.OfState.Resumed.Sessions.{put_own}

module _ (s : State) (is : CanResume s) (moment : ℕ) (key : Key) (c : Call) (key_fits : FitsKey key)
    (call_fits : FitsCall c) (next : NumberIsNext s key) where
  abbrev met : List OpenPlace
  met = met_by s c

  abbrev own : Option Reply
  own = told_own s key c met

  abbrev o : OpenPlace
  o = opened_by s moment key c

  abbrev gone : State
  gone = closed s met (settled_all (told_partner s key c) met)

  all : HoldsTogether s
  all = holds s is

  idle : IsIdle s key.client
  idle session known =
      ap (λ (c : ClientState). place_waiting c.request) (same_Some _ _ (sym known ∙ next.of_session.there))
      ∙ next.idle

  abbrev among : (i : ℕ) (o : OpenPlace) → slice_get met i ≡ Some o → IsOpenIn s o
  among i o at = (met_on s c i o at).is_open

  gone_holds : HoldsTogether gone
  gone_holds = closed_holds s all met (told_partner s key c) among
      (λ i o w at has. partner_told s all key c o w (met_on s c i o at) has key_fits next.of_session.epoch
      call_fits)

  still_known : client_at gone key.client ≡ Some next.session
  still_known = idle_same s all met (told_partner s key c) among
      (λ i o w at has. partner_told s all key c o w (met_on s c i o at) has key_fits next.of_session.epoch
      call_fits) key.client idle
      ∙ next.of_session.there

  -- one entry later
  abbrev later : State
  later = advanced gone moment

  later_holds : HoldsTogether later
  later_holds = longer gone moment gone_holds

  later_idle : IsIdle later key.client
  later_idle session known =
      ap (λ (c : ClientState). place_waiting c.request) (same_Some _ _ (sym known ∙ still_known)) ∙ next.idle

  -- the client's session where this became of its request
  abbrev session_then : LastRequest → ClientState
  session_then request =
      record {
        incarnation = next.session.incarnation;
        version = next.session.version;
        last = key.number;
        request = request;
      }

  then_fits : (request : LastRequest) → FitsLastRequest s.epoch next.session.version request → request ≢ Fresh
      → FitsSession s.epoch key.client (session_then request)
  then_fits request fits came =
      let was = is.sessions key.client next.session next.of_session.there in
      record {
        client_fits = was.client_fits;
        incarnation = was.incarnation;
        last = key_fits.3.1;
        request = fits;
        unasked = λ none. absurd (let above = next.next in
            let zero : key.number ≡ 0 = none in let no : ⊥ = omega arith in no);
        fresh = λ fresh. absurd (came fresh);
      }

  after_is : (following s moment (Arrive key c)).after
      ≡ entered later key.client (session_then (request_after s.length c own)) (parked s moment key c met)
  after_is = ap (λ (k : Option ClientState). advanced (with_last (with_open gone (parked s moment key c met))
      key
      (request_after s.length c own) k) moment) still_known

  -- ---- it doesn't stay

  gone_then : GoesTold s.epoch (SuitsCall next.session.version c) (stays_open c met) own
      → HoldsTogether (following s moment (Arrive key c)).after
  gone_then ends =
      let session = session_then (RepliedTo c ends.reply) in
      subst HoldsTogether (sym (after_is
      ∙ ap (λ (r : Option Reply). entered later key.client (session_then (request_after s.length c r))
      (parked s moment key c met)) ends.is
      ∙ ap (λ b. entered later key.client session (cond b (o ∷ []) [])) ends.goes))
      (entered_holds later later_holds key.client session [] later_idle
      (then_fits (RepliedTo c ends.reply) (call_fits, ends.fits, ends.of_epoch, ends.suits) (λ fresh. cc))
      (joins_none later key.client session later_holds refl))

  -- ---- it stays

  module _ (stays : stays_open c met ≡ true) (request : LastRequest)
      (awaited : (there : OpenPlace) (w : Waiter) → o ≡ there → there.waiter ≡ Some w
      → IsLastAt (entered later key.client (session_then request) (o ∷ [])) there w)
      (lies : o.waiter ≡ None → LiesOpen o)
      (standing : (place : ℕ) (call : Call) → request ≡ Waits place call
      → IsAwaitedBy (entered later key.client (session_then request) (o ∷ [])) key.client place) where
    was_open : (there : OpenPlace) → IsOpenIn gone there → IsOpenIn s there
    was_open there at = (left s all met (told_partner s key c) among
        (λ i o w at has. partner_told s all key c o w (met_on s c i o at) has key_fits next.of_session.epoch
        call_fits) there at).0

    joins : Joins later key.client (session_then request) (o ∷ [])
    joins = record {
      rise = rise_end gone.open_places o gone_holds.rise (λ i there at. gone_holds.below there (i, at));
      below = λ there at. subst (λ (x : OpenPlace). x.place < s.length + 1) (one_of_one o there at)
          (omega arith);
      faces = λ one other first second opposes.
          faces_none s c one stays (was_open one first)
          (opposite_back one.side (side_of c)
          (opposes ∙ ap (λ (x : OpenPlace). Some x.side) (sym (one_of_one o other second))));
      single = λ one other first second.
          ap (λ (x : OpenPlace). x.place) (sym (one_of_one o one first) ∙ one_of_one o other second);
      awaited = λ there w at has. awaited there w (one_of_one o there at) has;
      lies = λ there at none. subst LiesOpen (one_of_one o there at)
          (lies (ap (λ (x : OpenPlace). x.waiter) (one_of_one o there at) ∙ none));
      standing = standing;
    }

    stayed_then : request_after s.length c own ≡ request
        → FitsLastRequest s.epoch next.session.version request → request ≢ Fresh
        → HoldsTogether (following s moment (Arrive key c)).after
    stayed_then request_is fits came =
        subst HoldsTogether (sym (after_is
        ∙ ap (λ (r : LastRequest). entered later key.client (session_then r) (parked s moment key c met))
        request_is
        ∙ ap (λ b. entered later key.client (session_then request) (cond b (o ∷ []) [])) stays))
        (entered_holds later later_holds key.client (session_then request) (o ∷ []) later_idle
        (then_fits request fits came) joins)

  left_then : LeavesItem (SuitsCall next.session.version c) (wait_of c) (stays_open c met) own
      → HoldsTogether (following s moment (Arrive key c)).after
  left_then ends =
      let no_waiter : o.waiter ≡ None = ap (waiter_of key moment) ends.put in
      stayed_then ends.stays_is (RepliedTo c reply.Done)
      (λ there w same has. absurd (none-some w (sym no_waiter ∙ ap (λ (x : OpenPlace). x.waiter) same
      ∙ has)))
      (λ none. put_lies s moment key c call_fits (stays_by c met ends.stays_is) ends.put)
      (λ place call waits. absurd (let no : ⊥ = cc in no))
      (ap (request_after s.length c) ends.is) (call_fits, tt, tt, ends.suits) (λ fresh. cc)

  key_is : key ≡ last_key_of s.epoch key.client (session_then (Waits s.length c))
  key_is = λ i. record {
    epoch = next.of_session.epoch i;
    client = key.client;
    incarnation = sym next.of_session.incarnation i;
    number = key.number;
  }

  waits_last : StaysWaiting (wait_of c) (stays_open c met) own
      → IsLastAt (entered later key.client (session_then (Waits s.length c)) (o ∷ [])) o
      (record { key = key; since = moment })
  waits_last ends = record {
    session = session_then (Waits s.length c);
    known = put_own gone.clients key.client (session_then (Waits s.length c));
    key_is = key_is;
    call = c;
    waits = refl;
    side = refl;
    item = refl;
    limit = refl;
    may_wait = ends.may_wait;
    lasts = ends.lasts;
  }

  waits_then : StaysWaiting (wait_of c) (stays_open c met) own
      → HoldsTogether (following s moment (Arrive key c)).after
  waits_then ends =
      let request = Waits s.length c in
      let now = entered later key.client (session_then request) (o ∷ []) in
      let has_waiter = waiter_there key moment (wait_of c) ends.may_wait in
      stayed_then ends.stays_is request
      (λ there w same has.
      let is_waiter = waiter_is key moment (wait_of c) w (ap (λ (x : OpenPlace). x.waiter) same ∙ has) in
      subst (λ (x : OpenPlace). IsLastAt now x w) same
      (subst (λ (v : Waiter). IsLastAt now o v) (sym is_waiter) (waits_last ends)))
      (λ none. absurd (none-some _ (sym none ∙ has_waiter)))
      (λ place call waits.
      let found = back_get gone.open_places (o ∷ []) 0 o refl in
      record {
        there = o;
        is_open = found;
        at_place = same_Some _ _ (ap place_waiting waits);
        waiter = record { key = key; since = moment };
        waits = has_waiter;
        client_is = refl;
      })
      (ap (request_after s.length c) ends.untold) call_fits (λ fresh. cc)

  ends_by : (l : List OpenPlace) → met ≡ l → Ends s.epoch (SuitsCall next.session.version c) (wait_of c)
      (stays_open c l) (told_own s key c l)
  ends_by [] none = alone_ends s is next.session.version c
  ends_by (first ∷ others) some =
      let told = meeting_told s all key next.session next.of_session.there first others c call_fits some in
      inl (record {
        goes = refl;
        reply = told.reply;
        is = told.is;
        fits = told.fits;
        of_epoch = told.of_epoch;
        suits = told.suits;
      })

  pub arrived_holds : HoldsTogether (following s moment (Arrive key c)).after
  arrived_holds = elim (ends_by met refl) [
    | inl goes ↦ gone_then goes
    | inr stays ↦ elim stays [
      | inl leaves ↦ left_then leaves
      | inr waits ↦ waits_then waits
    ]
  ]
