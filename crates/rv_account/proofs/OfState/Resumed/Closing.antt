-- A state in which some open places are closed, and those who waited there are told.
use Rattle.std.proofs.Common.{◌≡◌, ◌≢◌, ◌∙◌, ℕ, List, Option, Some, Bool, true, false, not}
use Rattle.std.proofs.Common.{refl, sym, ap, subst, slice_get, nat_eq}
use Rattle.std.specs.List.{list_any}
use Rattle.std.specs.Prelude.{option_and_then, option_map}
use Rattle.std.proofs.lemmas.Bool.{eq-eqb, eqb-true, true≢false}
use Rattle.rv_text.specs.declared.call.Call.{Call}
use Rattle.rv_text.specs.declared.message.Key.{Key}
use Rattle.rv_text.specs.declared.answer.Reply.{Reply}
use Rattle.rv_text.specs.Limits.{FitsReply, IsOfEpoch}
use Rattle.rv_session.specs.declared.client.LastRequest.{LastRequest}
use Rattle.rv_session.specs.declared.client.LastRequest.TheVariants.{Waits}
use Rattle.rv_session.specs.Clients.{call_waiting, place_waiting}
use Rattle.rv_account.specs.state.After.{Settled, closed, settled_all, settled_at}
use Rattle.rv_account.specs.state.State.{ClientState, OpenPlace, State, Waiter, client_at}
use Rattle.rv_account.proofs.OfState.Words.{same_Some}
use Rattle.rv_account.proofs.OfState.Filtered.{any_get, chained_there, filter_get, filter_map_get, get_any}
use Rattle.rv_account.proofs.OfState.Filtered.{get_filter}
use Rattle.rv_account.proofs.OfState.Filtered.{get_filter_map, mapped_there, rises_left}
use Rattle.rv_account.specs.state.resume.Suiting.{SuitsCall}
use Rattle.rv_account.specs.state.resume.Resuming.{IsAwaitedBy, IsLastAt, IsOpenIn}
use Rattle.rv_account.proofs.OfState.Resumed.Kept.{HoldsTogether, IsIdle, one_at}
use Rattle.rv_account.proofs.OfState.Resumed.Sessions.{FitEach, OnlyAnswers, answered_fits, only_answers}
use Rattle.rv_account.proofs.OfState.Resumed.Sessions.{still_waits}
use Rattle.rv_account.proofs.OfState.Resumed.Sessions.{told_apart}
use Rattle.rv_account.proofs.OfState.Resumed.Sessions.{told_idle, waits_nowhere}

same_place : (request : LastRequest) (p q : ℕ) (call other : Call) → request ≡ Waits p call
    → request ≡ Waits q other → p ≡ q
same_place request p q call other first second =
    same_Some _ _ (sym (ap place_waiting first) ∙ ap place_waiting second)

-- what is told there, within its limits and by the call that waits
pub record IsTold (s : State) (told : OpenPlace → Key → Option Reply) (there : OpenPlace) (w : Waiter) :
    Type 0
  where
    pub reply : Reply
    pub is : told there w.key ≡ Some reply
    pub fits : FitsReply reply
    pub of_epoch : IsOfEpoch s.epoch reply
    pub suits : (own : IsLastAt s there w) → SuitsCall own.session.version own.call reply

module _ (s : State) (is : HoldsTogether s) (gone : List OpenPlace) (told : OpenPlace → Key → Option Reply)
    (among : (i : ℕ) (o : OpenPlace) → slice_get gone i ≡ Some o → IsOpenIn s o)
    (tells : (i : ℕ) (o : OpenPlace) (w : Waiter) → slice_get gone i ≡ Some o → o.waiter ≡ Some w
    → IsTold s told o w) where
  abbrev settles : List Settled
  settles = settled_all told gone

  abbrev now : State
  now = closed s gone settles

  abbrev test : OpenPlace → Bool
  test o = not (list_any (λ (other : OpenPlace). nat_eq other.place o.place) gone)

  was_not : (b : Bool) → not b ≡ true → b ≡ false
  was_not true is_not = absurd (true≢false (sym is_not))
  was_not false is_not = refl

  -- ---- what is told

  pub record IsOfGone (x : Settled) : Type 0 where
    pub i : ℕ
    pub there : OpenPlace
    pub stands : slice_get gone i ≡ Some there
    pub waiter : Waiter
    pub waits : there.waiter ≡ Some waiter
    pub key_is : waiter.key ≡ x.key
    pub fits : FitsReply x.reply
    pub of_epoch : IsOfEpoch s.epoch x.reply
    pub suits : (own : IsLastAt s there waiter) → SuitsCall own.session.version own.call x.reply

  of_gone : (i : ℕ) (x : Settled) → slice_get settles i ≡ Some x → IsOfGone x
  of_gone i x at =
      let from = filter_map_get (settled_at told) gone i x at in
      let w = chained_there (λ (w : Waiter). option_map (λ r. record { key = w.key; reply = r })
      (told from.1 w.key)) from.1.waiter x from.3 in
      let r = mapped_there (λ (r : Reply). record { key = w.0.key; reply = r }) (told from.1 w.0.key) x w.2 in
      let own = tells from.0 from.1 w.0 from.2 w.1 in
      let same : own.reply ≡ x.reply =
      same_Some _ _ (sym own.is ∙ r.1) ∙ ap (λ (x : Settled). x.reply) r.2 in
      record {
        i = from.0;
        there = from.1;
        stands = from.2;
        waiter = w.0;
        waits = w.1;
        key_is = ap (λ (x : Settled). x.key) r.2;
        fits = subst FitsReply same own.fits;
        of_epoch = subst (IsOfEpoch s.epoch) same own.of_epoch;
        suits = λ its. subst (SuitsCall its.session.version its.call) same (own.suits its);
      }

  -- who waits there has the session of its key, with that call
  suits_there : (x : Settled) (from : IsOfGone x) (session : ClientState) (place : ℕ) (call : Call)
      → client_at s x.key.client ≡ Some session → session.request ≡ Waits place call
      → SuitsCall session.version call x.reply
  suits_there x from session place call known waits =
      let own = is.awaited from.there from.waiter (among from.i from.there from.stands) from.waits in
      let one : own.session ≡ session = same_Some _ _ (sym own.known
      ∙ ap (λ (k : Key). client_at s k.client) from.key_is ∙ known) in
      let its : own.call ≡ call = same_Some _ _ (sym (ap call_waiting own.waits)
      ∙ ap (λ (c : ClientState). call_waiting c.request) one ∙ ap call_waiting waits) in
      subst (λ (c : ClientState). SuitsCall c.version call x.reply) one
      (subst (λ (c : Call). SuitsCall own.session.version c x.reply) its (from.suits own))

  fit_each : FitEach s.epoch s.clients settles
  fit_each i x at = let from = of_gone i x at in
      record { fits = from.fits; of_epoch = from.of_epoch; suits = suits_there x from }

  pub answers : OnlyAnswers s.epoch s.clients now.clients
  answers = only_answers s.epoch s.clients settles fit_each

  settled_there : (i : ℕ) (o : OpenPlace) (w : Waiter) → slice_get gone i ≡ Some o → o.waiter ≡ Some w
      → (j : ℕ) × (x : Settled) × (slice_get settles j ≡ Some x) × (x.key ≡ w.key)
  settled_there i o w at has =
      let own = tells i o w at has in
      let x : Settled = record { key = w.key; reply = own.reply } in
      let found = get_filter_map (settled_at told) gone i o x at
      (ap (option_and_then (λ (w : Waiter). option_map (λ r. record { key = w.key; reply = r })
      (told o w.key))) has
      ∙ ap (option_map (λ (r : Reply). record { key = w.key; reply = r })) own.is) in
      (found.0, x, found.1, refl)

  -- ---- what is left

  -- it was there, and is at none of those places
  pub left : (there : OpenPlace) → IsOpenIn now there
      → IsOpenIn s there × (list_any (λ (other : OpenPlace). nat_eq other.place there.place) gone ≡ false)
  left there at =
      let found = filter_get test s.open_places at.0 there at.1 in
      ((found.0, found.1), was_not _ found.2)

  stays : (there : OpenPlace) → IsOpenIn s there
      → list_any (λ (other : OpenPlace). nat_eq other.place there.place) gone ≡ false → IsOpenIn now there
  stays there at none = get_filter test s.open_places at.0 there at.1 (ap not none)

  pub not_gone : (there : OpenPlace) → IsOpenIn now there → (i : ℕ) (o : OpenPlace)
      → slice_get gone i ≡ Some o
      → o.place ≢ there.place
  not_gone there at i o stands same =
      true≢false (sym (get_any (λ (other : OpenPlace). nat_eq other.place there.place) gone i o stands
      (eq-eqb o.place there.place same)) ∙ (left there at).1)

  still_last : (there : OpenPlace) (w : Waiter) → IsOpenIn now there → there.waiter ≡ Some w
      → IsLastAt now there w
  still_last there w at has =
      let own = is.awaited there w (left there at).0 has in
      record {
        session = own.session;
        known = told_apart s.clients settles w.key.client (λ i x stands same.
            let from = of_gone i x stands in
            let other = is.awaited from.there from.waiter (among from.i from.there from.stands) from.waits in
            let client : from.waiter.key.client ≡ w.key.client =
            ap (λ (k : Key). k.client) from.key_is ∙ sym same in
            let session : other.session ≡ own.session =
            same_Some _ _ (sym other.known ∙ ap (client_at s) client ∙ own.known) in
            not_gone there at from.i from.there from.stands
            (same_place own.session.request from.there.place there.place other.call own.call
            (ap (λ (c : ClientState). c.request) (sym session) ∙ other.waits) own.waits)) ∙ own.known;
        key_is = own.key_is;
        call = own.call;
        waits = own.waits;
        side = own.side;
        item = own.item;
        limit = own.limit;
        may_wait = own.may_wait;
        lasts = own.lasts;
      }

  -- a client that waited nowhere has its session
  pub idle_same : (client : ℕ) → IsIdle s client → client_at now client ≡ client_at s client
  idle_same client idle = told_apart s.clients settles client (λ i x stands same.
      let from = of_gone i x stands in
      let other = is.awaited from.there from.waiter (among from.i from.there from.stands) from.waits in
      let its : from.waiter.key.client ≡ client = ap (λ (k : Key). k.client) from.key_is ∙ sym same in
      waits_nowhere other.session.request from.there.place other.call other.waits
      (idle other.session (ap (client_at s) (sym its) ∙ other.known)))

  still_stands : (client : ℕ) (session : ClientState) (place : ℕ) (call : Call)
      → client_at now client ≡ Some session → session.request ≡ Waits place call
      → IsAwaitedBy now client place
  still_stands client session place call known waits =
      let from = answers client session known in
      let same = still_waits s.epoch from.0 session place call from.2 waits in
      let own = is.standing client from.0 place call from.1
      (ap (λ (c : ClientState). c.request) (sym same) ∙ waits) in
      record {
        there = own.there;
        is_open = stays own.there own.is_open (by_any own
            (list_any (λ (other : OpenPlace). nat_eq other.place own.there.place) gone) refl);
        at_place = own.at_place;
        waiter = own.waiter;
        waits = own.waits;
        client_is = own.client_is;
      }
    where
      by_any : (own : IsAwaitedBy s client place) (b : Bool)
          → list_any (λ (other : OpenPlace). nat_eq other.place own.there.place) gone ≡ b → b ≡ false
      by_any own false any = refl
      by_any own true any =
          let found = any_get (λ (other : OpenPlace). nat_eq other.place own.there.place) gone any in
          let same : found.1 ≡ own.there = one_at s is found.1 own.there (among found.0 found.1 found.2)
          own.is_open (eqb-true found.1.place own.there.place found.3) in
          let has : found.1.waiter ≡ Some own.waiter = ap (λ (o : OpenPlace). o.waiter) same ∙ own.waits in
          let x = settled_there found.0 found.1 own.waiter found.2 has in
          let its : x.1.key.client ≡ client = ap (λ (k : Key). k.client) x.3 ∙ own.client_is in
          let idle = told_idle s.epoch s.clients settles fit_each x.0 x.1 x.2 session
          (ap (client_at now) its ∙ known) in
          absurd (waits_nowhere session.request place call waits idle)

  pub closed_holds : HoldsTogether now
  closed_holds = record {
    epoch = is.epoch;
    rise = rises_left test (λ (o : OpenPlace). o.place) s.open_places is.rise;
    below = λ there at. is.below there (left there at).0;
    apart = λ one other first second. is.apart one other (left one first).0 (left other second).0;
    awaited = still_last;
    lies = λ there at. is.lies there (left there at).0;
    standing = still_stands;
    sessions = λ client session known.
        let from = answers client session known in
        answered_fits s.epoch client from.0 session from.2 (is.sessions client from.0 from.1);
  }
