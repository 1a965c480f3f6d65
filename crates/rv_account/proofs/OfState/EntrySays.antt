-- What a state says of an entry that follows is what its account says with the entry.
use Rattle.rv_account.proofs.OfState.Words.{◌≡◌, ◌⊎◌, ◌∷◌, ◌∙◌, inl, inr, [], ℕ, length, Option, Some, None}
use Rattle.rv_account.proofs.OfState.Words.{refl, sym}
use Rattle.rv_account.proofs.OfState.Words.{ap, subst, slice_get, none-some, same_Some, Key, Call, Reply}
use Rattle.rv_account.proofs.OfState.Words.{Act, Hello}
use Rattle.rv_account.proofs.OfState.Words.{Arrive, Cancel, Tick, Entry, Account, act_at, key_in}
use Rattle.rv_account.proofs.OfState.Words.{IsNextNumber, Legal}
use Rattle.rv_account.proofs.OfState.Words.{MayFollow, WaitsUnder, RepliesAt, Waiting, act_read, reads_on}
use Rattle.rv_account.proofs.OfState.Words.{get-append_end, OpenPlace, State, client_waits, Settled, acted}
use Rattle.rv_account.proofs.OfState.Words.{following, state_of, IsArrival}
use Rattle.rv_account.specs.rules.Replies.{HasReply}
use Rattle.rv_account.proofs.OfRules.Sides.{IsRequestUnder, cancel_stops}
use Rattle.rv_account.specs.state.Laws.{SaysOfEntry}
use Rattle.rv_account.specs.state.Settling.{SettlesAt, ToldOwn}
use Rattle.rv_account.proofs.OfState.Agreed.{agreed, state_pushed}
use Rattle.rv_account.proofs.OfState.ClientsAfter.{cancel_became}
use Rattle.rv_account.proofs.OfState.Coming.{Comes, more}
use Rattle.rv_account.proofs.OfState.FollowsBoth.{account_to_state}
use Rattle.rv_account.proofs.OfState.GoneBy.{gone_by, waiting_no_put}
use Rattle.rv_account.proofs.OfState.ClosedPlaces.{closes_open}
use Rattle.rv_account.proofs.OfState.OwnAnswers.{cancel_by}
use Rattle.rv_account.proofs.OfState.SettledOrder.{settled_order}
use Rattle.rv_account.proofs.OfState.Settling.{settled_get, settles_are, tells}
use Rattle.rv_account.proofs.OfState.Telling.{IsSettledBy, all_settled, own_replies, own_waits}
use Rattle.rv_account.proofs.OfState.Telling.{settled_replies}
use Rattle.rv_account.proofs.OfState.Telling.{settled_waits_not}
use Rattle.rv_text.specs.declared.answer.Reply.TheVariants as reply

pub comes_to_state : (a : Account) (e : Entry) → Legal a → MayFollow a e → Comes a (state_of a) e
comes_to_state a e legal follows =
    let state = agreed a legal in
    record {
      legal = legal;
      state = state;
      follows = follows;
      partners = (account_to_state a (state_of a) e legal state follows).partners;
    }

-- ---- whom it settles

gone_arrival : (a : Account) (s : State) (e : Entry) → Comes a s e → (there : OpenPlace) (j : ℕ)
    → slice_get (gone_by s e.moment e.act) j ≡ Some there → IsArrival a.entries there
gone_arrival a s e comes there j at =
    let found = closes_open s e.moment e.act j there at in
    comes.state.arrivals found.0 there found.1

settles : (a : Account) (s : State) (e : Entry) → Comes a s e
    → SettlesAt a.entries e (following s e.moment e.act).settles
settles a s e comes =
    record {
      are = λ i settled there.
          let by = settled_replies a s e comes i settled there in
          record {
            place = by.place;
            call = by.call;
            waited = by.waited;
            ended = settled_waits_not a s e comes by.place settled.key by.call by.waited (record {
              i = i;
              settled = settled;
              there = there;
              key_is = refl;
            });
            replies = by.replies;
          };
      each = λ place key call waits ended.
          let among = all_settled a s e comes place key call waits ended in
          record { i = among.i; settled = among.settled; there = among.there; key_is = among.key_is };
      in_order = settled_order a s e comes (gone_arrival a s e comes);
    }

-- ---- its own reply

arrived_there : (a : Account) (e : Entry) (key : Key) (call : Call) → e.act ≡ Arrive key call
    → act_at (more a e) (length a.entries) ≡ Some (Arrive key call)
arrived_there a e key call says = ap act_read (get-append_end a.entries e) ∙ ap Some says

own_arrival_told : (a : Account) (s : State) (e : Entry) (key : Key) (call : Call) → Comes a s e
    → e.act ≡ Arrive key call → (o : Option Reply) → (following s e.moment e.act).reply ≡ o
    → ToldOwn (more a e) key o
own_arrival_told a s e key call comes says None told =
    record {
      place = length a.entries;
      call = call;
      arrived = arrived_there a e key call says;
      waits = own_waits a s e key call comes says told;
    }
own_arrival_told a s e key call comes says (Some reply) told =
    inl (record {
      place = length a.entries;
      call = call;
      arrived = arrived_there a e key call says;
      replies = own_replies a s e key call reply comes says told;
    })

-- who is settled by a cancel is told that
told_cancelled : (s : State) (moment i : ℕ) (key : Key) (settled : Settled)
    → slice_get (following s moment (Cancel key)).settles i ≡ Some settled → settled.reply ≡ reply.Cancelled
told_cancelled s moment i key settled there =
    let is = settles_are s moment (Cancel key) in
    let from = settled_get (tells s (Cancel key)) (gone_by s moment (Cancel key)) i settled
    (subst (λ list. slice_get list i ≡ Some settled) is there) in
    sym (same_Some _ _ from.is)

cancelled_waits : (a : Account) (s : State) (e : Entry) (key : Key) → Comes a s e → e.act ≡ Cancel key
    → WaitsUnder a.entries key → HasReply (more a e) key reply.Cancelled
cancelled_waits a s e key comes says under =
    let request : IsRequestUnder a.entries key under.place =
    record {
      call = under.call;
      arrived = under.arrived;
      no_put = waiting_no_put a.entries under.place key under.call under.waits under.arrived;
    } in
    let stopped = cancel_stops a.entries e key under.place says request in
    let ended : Waiting (more a e) under.place → ⊥ =
    λ waits. waits.is_open.unstopped (length a.entries, stopped) in
    let among = all_settled a s e comes under.place key under.call
    (record { arrived = under.arrived; waits = under.waits }) ended in
    let by : IsSettledBy a e among.settled = settled_replies a s e comes among.i among.settled among.there in
    let there = subst (λ does. slice_get (following s e.moment does).settles among.i ≡ Some among.settled)
    says
    among.there in
    let told = told_cancelled s e.moment among.i key among.settled there in
    inl (record {
      place = by.place;
      call = by.call;
      arrived = reads_on act_read refl a.entries (e ∷ []) by.place (Arrive key by.call)
          (subst (λ k. act_at a.entries by.place ≡ Some (Arrive k by.call)) among.key_is by.waited.arrived);
      replies = subst (RepliesAt (more a e) by.place by.call) told by.replies;
    })

own_cancel_told : (a : Account) (s : State) (e : Entry) (key : Key) → Comes a s e → e.act ≡ Cancel key
    → WaitsUnder a.entries key ⊎ IsNextNumber a.entries key → HasReply (more a e) key reply.Cancelled
own_cancel_told a s e key comes says (inl under) = cancelled_waits a s e key comes says under
own_cancel_told a s e key comes says (inr next) = inr (cancel_became a s e key comes says next, refl)

own_told : (a : Account) (s : State) (e : Entry) → Comes a s e → (does : Act) → e.act ≡ does → (key : Key)
    → key_in does ≡ Some key → ToldOwn (more a e) key (following s e.moment e.act).reply
own_told a s e comes (Hello client incarnation version) says key is = absurd (none-some key is)
own_told a s e comes (Arrive own call) says key is =
    own_arrival_told a s e key call comes (says ∙ ap (λ k. Arrive k call) (same_Some _ _ is))
    (following s e.moment e.act).reply refl
own_told a s e comes (Cancel own) says key is =
    let named : e.act ≡ Cancel key = says ∙ ap Cancel (same_Some _ _ is) in
    let told : (following s e.moment e.act).reply ≡ Some reply.Cancelled =
    ap (λ does. (acted s e.moment does).reply) named ∙ cancel_by s key (client_waits s key.client) in
    subst (ToldOwn (more a e) key) (sym told)
    (own_cancel_told a s e key comes named (comes.follows.numbers.cancels key named))
own_told a s e comes Tick says key is = absurd (none-some key is)

-- what names no key is told nothing
none_told : (s : State) (moment : ℕ) (does : Act) → key_in does ≡ None
    → (following s moment does).reply ≡ None
none_told s moment (Hello client incarnation version) none = refl
none_told s moment (Arrive key call) none = absurd (none-some key (sym none))
none_told s moment (Cancel key) none = absurd (none-some key (sym none))
none_told s moment Tick none = refl

pub says_of_entry : (a : Account) (e : Entry) → Legal a → MayFollow a e
    → SaysOfEntry a e (following (state_of a) e.moment e.act)
says_of_entry a e legal follows =
    let comes = comes_to_state a e legal follows in
    record {
      state = state_pushed a e;
      settles = settles a (state_of a) e comes;
      own = λ key named. own_told a (state_of a) e comes e.act refl key named;
      none = none_told (state_of a) e.moment e.act;
    }
