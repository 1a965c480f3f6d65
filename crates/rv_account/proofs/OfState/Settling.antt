-- Whom an entry settles: who waited at the places that it closes, and each has the reply that it tells there.
use Rattle.rv_account.proofs.OfState.Words.{◌≡◌, ◌∙◌, inl, inr, ℕ, List, [], length, Option, Some, None}
use Rattle.rv_account.proofs.OfState.Words.{option_and_then, option_map, refl, sym, ap, subst, slice_get}
use Rattle.rv_account.proofs.OfState.Words.{same_Some}
use Rattle.rv_account.proofs.OfState.Words.{Key, Call, Reply, Entry, Act, Hello, Arrive, Cancel, Tick}
use Rattle.rv_account.proofs.OfState.Words.{Account, Names}
use Rattle.rv_account.proofs.OfState.Words.{RepliesAt, StoppedAt, OpenPlace, State, Waiter, Settled, acted}
use Rattle.rv_account.proofs.OfState.Words.{cancelled}
use Rattle.rv_account.proofs.OfState.Words.{just_open, partners_of, WaitsThere, client_waits}
use Rattle.rv_account.specs.Account.{just}
use Rattle.rv_account.specs.rules.Replies.{told_by}
use Rattle.rv_account.proofs.OfRules.Deciding.{stops_or_not}
use Rattle.rv_account.proofs.OfRules.Growing.{Open-on}
use Rattle.rv_account.proofs.OfRules.Naming.{just_none}
use Rattle.rv_account.specs.state.After.{settled_all, settled_at, told_partner}
use Rattle.rv_account.proofs.OfState.ClosedPlaces.{closed_not_open, closes_open}
use Rattle.rv_account.proofs.OfState.Coming.{Comes, more}
use Rattle.rv_account.proofs.OfState.Filtered.{chained_there, filter_map_get, get_filter_map, mapped_there}
use Rattle.rv_account.proofs.OfState.GoneBy.{gone_by}
use Rattle.rv_account.proofs.OfState.MetPlaces.{IsMet, is_met}
use Rattle.rv_account.proofs.OfState.PartnerReplies.{partner_has, partner_replies}
use Rattle.rv_account.proofs.OfState.SideLines.{stands_open}
use Rattle.rv_account.proofs.OfState.StopReplies.{stop_replies}
use Rattle.rv_account.proofs.OfState.WaitQueuesThere.{waiter_waits}
use Rattle.rv_text.specs.declared.answer.Reply.TheVariants as reply

-- what an act tells who waits at a place that it closes
abbrev pub tells : State → Act → OpenPlace → Key → Option Reply
tells s (Hello client incarnation version) there waits = Some reply.Cancelled
tells s (Arrive key call) there waits = told_partner s key call there waits
tells s (Cancel key) there waits = Some reply.Cancelled
tells s Tick there waits = Some reply.TimedOut

-- ---- whom it settles

cancelled_settles : (s : State) (key : Key) (there : Option OpenPlace)
    → (cancelled s key there).settles ≡ settled_all (tells s (Cancel key)) (just_open there)
cancelled_settles s key None = refl
cancelled_settles s key (Some there) = refl

pub settles_are : (s : State) (moment : ℕ) (does : Act)
    → (acted s moment does).settles ≡ settled_all (tells s does) (gone_by s moment does)
settles_are s moment (Hello client incarnation version) = refl
settles_are s moment (Arrive key call) = refl
settles_are s moment (Cancel key) = cancelled_settles s key (client_waits s key.client)
settles_are s moment Tick = refl

abbrev as_settled : Waiter → Reply → Settled
as_settled waiter reply = record { key = waiter.key; reply = reply }

module _ (told : OpenPlace → Key → Option Reply) (gone : List OpenPlace) where
  -- it waited at one of the places, and is told what is told there
  pub record IsToldThere (settled : Settled) : Type 0 where
    pub j : ℕ
    pub there : OpenPlace
    pub at : slice_get gone j ≡ Some there
    pub waiter : Waiter
    pub waits : there.waiter ≡ Some waiter
    pub key_is : waiter.key ≡ settled.key
    pub is : told there settled.key ≡ Some settled.reply

  pub settled_get : (i : ℕ) (settled : Settled) → slice_get (settled_all told gone) i ≡ Some settled
      → IsToldThere settled
  settled_get i settled at =
      let from = filter_map_get (settled_at told) gone i settled at in
      let there : OpenPlace = from.1 in
      let settle = λ (w : Waiter). option_map (as_settled w) (told there w.key) in
      let by = chained_there settle there.waiter settled from.3 in
      let has = mapped_there (as_settled by.0) (told there by.0.key) settled by.2 in
      let key_is : by.0.key ≡ settled.key = ap (λ (x : Settled). x.key) has.2 in
      record {
        j = from.0;
        there = there;
        at = from.2;
        waiter = by.0;
        waits = by.1;
        key_is = key_is;
        is = ap (told there) (sym key_is) ∙ has.1 ∙ ap (λ (x : Settled). Some x.reply) has.2;
      }

  pub get_settled : (j : ℕ) (there : OpenPlace) (waiter : Waiter) (reply : Reply)
      → slice_get gone j ≡ Some there → there.waiter ≡ Some waiter → told there waiter.key ≡ Some reply
      → (i : ℕ) × (slice_get (settled_all told gone) i ≡ Some (record { key = waiter.key; reply = reply }))
  get_settled j there waiter reply at waits is =
      let settle = λ (w : Waiter). option_map (as_settled w) (told there w.key) in
      get_filter_map (settled_at told) gone j there (as_settled waiter reply) at
      (ap (option_and_then settle) waits ∙ ap (option_map (as_settled waiter)) is)

-- ---- what it tells them

module _ (a : Account) (s : State) (e : Entry) (comes : Comes a s e) (j : ℕ) (there : OpenPlace)
    (at : slice_get (gone_by s e.moment e.act) j ≡ Some there) (key : Key) (theirs : Call)
    (waited : WaitsThere a.entries key there.place theirs) where
  -- what names nobody stops who waits there
  stopped_replies : (does : Act) → e.act ≡ does → partners_of s does ≡ []
      → RepliesAt (more a e) there.place theirs (told_by does)
  stopped_replies does says nobody =
      let none : e.partners ≡ just None = comes.partners ∙ ap (partners_of s) says ∙ nobody in
      let unnamed = λ (named : Names e there.place). just_none e there.place none named in
      let opened = waited.waits.is_open in
      let stopped : StoppedAt (more a e) there.place (length a.entries) =
      elim (stops_or_not (more a e) there.place (length a.entries)) [
        | inl stops ↦ stops
        | inr not_here ↦ absurd (closed_not_open a s e comes j there at opened
            (Open-on a.entries e there.place opened unnamed not_here))
      ] in
      subst (RepliesAt (more a e) there.place theirs) (ap told_by says)
      (stop_replies a.entries e key there.place theirs waited unnamed stopped)

  met_at : (other : Key) (its : Call) → (says : e.act ≡ Arrive other its) → IsMet a e its there
  met_at other its says =
      is_met a s e other its comes says j there
      (ap (λ does. slice_get (gone_by s e.moment does) j) (sym says) ∙ at)

  pub tells_replies : (does : Act) → e.act ≡ does → (told : Reply) → tells s does there key ≡ Some told
      → RepliesAt (more a e) there.place theirs told
  tells_replies (Hello client incarnation version) says told is =
      subst (RepliesAt (more a e) there.place theirs) (same_Some _ _ is)
      (stopped_replies (Hello client incarnation version) says refl)
  tells_replies (Arrive other its) says told is =
      partner_replies a s e other its comes says there (met_at other its says) key theirs waited told is
  tells_replies (Cancel other) says told is =
      subst (RepliesAt (more a e) there.place theirs) (same_Some _ _ is)
      (stopped_replies (Cancel other) says refl)
  tells_replies Tick says told is =
      subst (RepliesAt (more a e) there.place theirs) (same_Some _ _ is) (stopped_replies Tick says refl)

  pub tells_each : (does : Act) → e.act ≡ does → (told : Reply) × (tells s does there key ≡ Some told)
  tells_each (Hello client incarnation version) says = (reply.Cancelled, refl)
  tells_each (Arrive other its) says =
      partner_has a s e other its comes says there (met_at other its says) key theirs waited
  tells_each (Cancel other) says = (reply.Cancelled, refl)
  tells_each Tick says = (reply.TimedOut, refl)

  -- so who waits there is settled
  pub settled_there : (waiter : Waiter) → there.waiter ≡ Some waiter → waiter.key ≡ key
      → (i : ℕ) × (settled : Settled) × (slice_get (acted s e.moment e.act).settles i ≡ Some settled)
      × (settled.key ≡ key)
  settled_there waiter waits key_is =
      let told = tells_each e.act refl in
      let reply : Reply = told.0 in
      let gone : List OpenPlace = gone_by s e.moment e.act in
      let is : tells s e.act there waiter.key ≡ Some reply = ap (tells s e.act there) key_is ∙ told.1 in
      let at_i = get_settled (tells s e.act) gone j there waiter reply at waits is in
      let stands = ap (λ (l : List Settled). slice_get l at_i.0) (settles_are s e.moment e.act) ∙ at_i.1 in
      (at_i.0, as_settled waiter reply, stands, key_is)

-- ---- who was settled

-- it waited at a place that is closed, and is told what is told there
pub record WasSettled (a : Account) (s : State) (e : Entry) (settled : Settled) : Type 0 where
  pub j : ℕ
  pub there : OpenPlace
  pub at : slice_get (gone_by s e.moment e.act) j ≡ Some there
  pub call : Call
  pub waited : WaitsThere a.entries settled.key there.place call
  pub is : tells s e.act there settled.key ≡ Some settled.reply

pub was_settled : (a : Account) (s : State) (e : Entry) → Comes a s e → (i : ℕ) (settled : Settled)
    → slice_get (acted s e.moment e.act).settles i ≡ Some settled → WasSettled a s e settled
was_settled a s e comes i settled is =
    let gone : List OpenPlace = gone_by s e.moment e.act in
    let at = ap (λ (l : List Settled). slice_get l i) (sym (settles_are s e.moment e.act)) ∙ is in
    let by = settled_get (tells s e.act) gone i settled at in
    let there : OpenPlace = by.there in
    let stands = closes_open s e.moment e.act by.j there by.at in
    let arrival = comes.state.arrivals stands.0 there stands.1 in
    let opened = stands_open a s comes.state stands.0 there stands.1 in
    let waits = waiter_waits a.entries there by.waiter arrival opened by.waits in
    record {
      j = by.j;
      there = there;
      at = by.at;
      call = arrival.call;
      waited = subst (λ (k : Key). WaitsThere a.entries k there.place arrival.call) by.key_is waits;
      is = by.is;
    }
