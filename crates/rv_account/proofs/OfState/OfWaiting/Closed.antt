-- Who waits still where some places are closed, and who is told there.
use Rattle.std.proofs.Common.{◌≡◌, ◌⊎◌, ◌∙◌, ℕ, List, Option, Some, inl, inr, sym, ap, subst}
use Rattle.std.proofs.Common.{is_some, option_map, slice_get}
use Rattle.rv_text.specs.declared.message.Key.{Key}
use Rattle.rv_text.specs.declared.answer.Reply.{Reply}
use Rattle.rv_session.specs.declared.client.LastRequest.{LastRequest}
use Rattle.rv_session.specs.declared.client.LastRequest.TheVariants.{RepliedTo, Waits}
use Rattle.rv_account.specs.state.After.{Settled, closed, settled_all}
use Rattle.rv_account.specs.state.Agreement.{last_key_of}
use Rattle.rv_account.specs.state.Moves.{told_again}
use Rattle.rv_account.specs.state.State.{OpenPlace, State, Waiter, client_at}
use Rattle.rv_account.proofs.OfState.Filtered.{get_map, map_get}
use Rattle.rv_account.proofs.OfState.Settling.{settled_get}
use Rattle.rv_account.proofs.OfState.ToldClients.{IsToldBy, get_tell_all, told_client, told_or_waits}
use Rattle.rv_account.proofs.OfState.ToldClients.{told_request}
use Rattle.rv_account.proofs.OfState.Words.{same_Some}
use Rattle.rv_account.specs.state.resume.Resuming.{IsLastAt, IsOpenIn}
use Rattle.rv_account.proofs.OfState.Resumed.Kept.{HoldsTogether}
use Rattle.rv_account.specs.state.waiting.Waiting.{IsListed, IsOver, SettlesJust, WaitsOn}

-- ---- who waits

-- the key of who waits is that of its session's last number
pub waits_key : (s : State) (key : Key) (w : WaitsOn s key) → key ≡ last_key_of s.epoch key.client w.session
waits_key s key w =
    λ i. record {
      epoch = w.epoch i;
      client = key.client;
      incarnation = sym w.incarnation i;
      number = sym w.last i;
    }

-- who waits at an open place
pub waiter_waits : (s : State) (there : OpenPlace) (w : Waiter) → IsLastAt s there w → WaitsOn s w.key
waiter_waits s there w own = record {
  epoch = ap (λ (k : Key). k.epoch) own.key_is;
  session = own.session;
  there = own.known;
  incarnation = sym (ap (λ (k : Key). k.incarnation) own.key_is);
  last = sym (ap (λ (k : Key). k.number) own.key_is);
  place = there.place;
  call = own.call;
  waits = own.waits;
}

-- of a client one request waits
pub one_waits : (s : State) (key other : Key) → WaitsOn s key → WaitsOn s other → key.client ≡ other.client
    → key ≡ other
one_waits s key other w v client =
    let same : w.session ≡ v.session = same_Some _ _ (sym w.there ∙ ap (client_at s) client ∙ v.there) in
    waits_key s key w ∙ (λ i. last_key_of s.epoch (client i) (same i)) ∙ sym (waits_key s other v)

-- ---- some places are closed

module _ (s : State) (is : HoldsTogether s) (gone : List OpenPlace) (told : OpenPlace → Key → Option Reply)
    (among : (i : ℕ) (o : OpenPlace) → slice_get gone i ≡ Some o → IsOpenIn s o) where
  abbrev settles : List Settled
  settles = settled_all told gone

  abbrev now : State
  now = closed s gone settles

  -- who is settled waited
  settled_waited : (i : ℕ) (x : Settled) → slice_get settles i ≡ Some x → WaitsOn s x.key
  settled_waited i x at =
      let from = settled_get told gone i x at in
      subst (WaitsOn s) from.key_is
      (waiter_waits s from.there from.waiter
      (is.awaited from.there from.waiter (among from.j from.there from.at) from.waits))

  session_then : (key : Key) (w : WaitsOn s key)
      → client_at now key.client ≡ Some (told_client settles key.client w.session)
  session_then key w =
      get_tell_all settles s.clients key.client ∙ ap (option_map (told_client settles key.client)) w.there

  -- who isn't told still waits
  still_waits : (key : Key) (w : WaitsOn s key)
      → told_request settles key.client (Waits w.place w.call) ≡ Waits w.place w.call → WaitsOn now key
  still_waits key w same = record {
    epoch = w.epoch;
    session = told_client settles key.client w.session;
    there = session_then key w;
    incarnation = w.incarnation;
    last = w.last;
    place = w.place;
    call = w.call;
    waits = ap (told_request settles key.client) w.waits ∙ same;
  }

  -- who is told is over
  told_over : (key : Key) (w : WaitsOn s key) → IsToldBy settles key.client w.place w.call → IsOver now key
  told_over key w by =
      let request_is : told_request settles key.client w.session.request ≡ RepliedTo w.call by.settled.reply =
      ap (told_request settles key.client) w.waits ∙ by.is in
      record {
        epoch = w.epoch;
        session = told_client settles key.client w.session;
        there = session_then key w;
        over = inl (
          w.incarnation,
          w.last,
          ap (λ (r : LastRequest). is_some (told_again r)) request_is,
        );
      }

  told_among : (key : Key) (w : WaitsOn s key) → IsToldBy settles key.client w.place w.call
      → IsListed settles key
  told_among key w by =
      let same = one_waits s by.settled.key key (settled_waited by.i by.settled by.there) w by.of_client in
      (by.i, get_map (λ (x : Settled). x.key) settles by.i by.settled by.there ∙ ap Some same)

  waits_or_over : (key : Key) (w : WaitsOn s key)
      → WaitsOn now key ⊎ (IsOver now key × IsListed settles key)
  waits_or_over key w = elim (told_or_waits settles key.client w.place w.call) [
    | inl untold ↦ inl (still_waits key w untold.is)
    | inr by ↦ inr (told_over key w by, told_among key w by)
  ]

  settled_over : (key : Key) (i : ℕ) (x : Settled) → slice_get settles i ≡ Some x → x.key ≡ key
      → (w : WaitsOn s key) → IsOver now key
  settled_over key i x at same w = elim (told_or_waits settles key.client w.place w.call) [
    | inl untold ↦ absurd (untold.none i x at (ap (λ (k : Key). k.client) same))
    | inr by ↦ told_over key w by
  ]

  pub closed_just : SettlesJust s now settles
  closed_just = record {
    waits = waits_or_over;
    settled = λ key at.
        let x = map_get (λ (x : Settled). x.key) settles at.0 key at.1 in
        let w = subst (WaitsOn s) x.2 (settled_waited at.0 x.0 x.1) in
        (w, settled_over key at.0 x.0 x.1 x.2 w);
  }
