-- What is told whom an entry settles: by its act, and where it arrived what the client's last request is told
-- again in the state after it.
use Rattle.rv_replies.proofs.Words.{◌≡◌, ◌∙◌, ◌∷◌, [], List, None, Option, Some, ap, arith, inl, inr}
use Rattle.rv_replies.proofs.Words.{refl}
use Rattle.rv_replies.proofs.Words.{option_and_then, option_map, subst, sym, ℕ, slice_get}
use Rattle.rv_replies.proofs.Words.{Account, act_at, key_in, with_entry, Act, Arrive, Cancel, Hello, Tick}
use Rattle.rv_replies.proofs.Words.{Entry, act_read, reads_on, arrives_once, HasWaiting, Legal, Settled}
use Rattle.rv_replies.proofs.Words.{acted, following, state_of, BecameOf, WaitsThere}
use Rattle.rv_replies.proofs.Words.{ClientState}
use Rattle.rv_replies.proofs.Words.{LastRequest, State, client_at, Call, Key, with_last}
use Rattle.rv_replies.proofs.Words.{HasReplied, told_again, told_last_by, told_now, Comes, more}
use Rattle.rv_session.specs.declared.client.LastRequest.TheVariants.{CancelledUnseen, Fresh, RepliedTo, Waits}
use Rattle.rv_account.specs.rules.Replies.{HasReply}
use Rattle.rv_account.proofs.OfRules.Waits.{arrival}
use Rattle.rv_account.proofs.OfState.Agreed.{agreed, state_pushed}
use Rattle.rv_account.proofs.OfState.OneTold.{one_call, one_reply, reply_or_waits}
use Rattle.rv_account.proofs.OfState.Sessions.{known, waits_in_state}
use Rattle.rv_account.proofs.OfState.Settling.{tells, was_settled}
use Rattle.rv_account.proofs.OfState.Telling.{IsSettledBy, settled_replies}
use Rattle.rv_account.proofs.OfState.ToldClients.{get_other, get_tell_all, told_client}

-- ---- a client that an arrival doesn't name

asked_other : (t : State) (key : Key) (request : LastRequest) (o : Option ClientState) (client : ℕ)
    → (client ≡ key.client → ⊥) → client_at (with_last t key request o) client ≡ client_at t client
asked_other t key request None client other = refl
asked_other t key request (Some session) client other =
    get_other t.clients key.client
    (record {
      incarnation = session.incarnation;
      version = session.version;
      last = key.number;
      request = request;
    }) client other

other_told : (s : State) (moment : ℕ) (key : Key) (call : Call) (client : ℕ) → (client ≡ key.client → ⊥)
    → client_at (acted s moment (Arrive key call)).after client
    ≡ option_map (told_client (acted s moment (Arrive key call)).settles client) (client_at s client)
other_told s moment key call client other =
    asked_other _ key _ _ client other
    ∙ get_tell_all (acted s moment (Arrive key call)).settles s.clients client

module _ (a : Account) (e : Entry) (comes : Comes a (state_of a) e) (legal : Legal (with_entry a e)) where
  abbrev pub s : State
  s = state_of a

  abbrev pub b : Account
  b = with_entry a e

  -- who is settled has replied, with the call by which it waited
  pub settled_has : (x : Settled) → IsSettledBy a e x → (key : Key) (place : ℕ) (call : Call) → x.key ≡ key
      → WaitsThere a.entries key place call → HasReplied (more a e) key call x.reply
  settled_has x by key place call same waited =
      let arrived : act_at a.entries by.place ≡ Some (Arrive key by.call) =
      subst (λ (k : Key). act_at a.entries by.place ≡ Some (Arrive k by.call)) same by.waited.arrived in
      let at = arrives_once a by.place place key by.call call comes.legal arrived waited.arrived in
      record {
        replies = record {
          place = by.place;
          call = by.call;
          arrived = reads_on act_read refl a.entries (e ∷ []) by.place (Arrive key by.call) arrived;
          replies = by.replies;
        };
        with_call = one_call key by.call call (sym arrived ∙ ap (act_at a.entries) at ∙ waited.arrived);
      }

  -- what its client's last request is told again, if that is its own
  module _ (x : Settled) (by : IsSettledBy a e x) where
    has : HasReply (more a e) x.key x.reply
    has = inl (settled_has x by x.key by.place by.call refl by.waited).replies

    told_last : (request : LastRequest) → BecameOf (more a e) x.key request
        → told_again request ≡ Some x.reply
    told_last Fresh became =
        let next = (arrival a by.place x.key by.call comes.legal by.waited.arrived).next in
        let above = next.next in
        let none : x.key.number ≡ 0 = became in
        absurd (omega arith)
    told_last (Waits place call) became =
        absurd (reply_or_waits b x.key x.reply legal has (record {
          place = place;
          call = call;
          arrived = became.arrived;
          waits = became.waits;
        }))
    told_last (RepliedTo call reply) became =
        ap Some (one_reply b x.key x.reply reply legal has (inl became.replies))
    told_last CancelledUnseen became =
        ap Some (one_reply b x.key x.reply _ legal has (inr (became, refl)))

    arrive_told : (own : Key) (its : Call) → e.act ≡ Arrive own its
        → told_last_by (state_of b) x.key ≡ Some x.reply
    arrive_told own its says =
        let client : ℕ = x.key.client in
        let other : client ≡ own.client → ⊥ = λ same.
        let waiting : HasWaiting a.entries own.client = record {
          place = by.place;
          key = x.key;
          waits = by.waited.waits;
          names = record { named = ap (option_and_then key_in) by.waited.arrived; of_client = same };
        } in
        (comes.follows.numbers.counts_up own its says).idle waiting in
        let settles : List Settled = (acted s e.moment e.act).settles in
        let was = waits_in_state a s x.key by.call by.place comes.legal comes.state by.waited.arrived
        by.waited.waits in
        let others : client_at (acted s e.moment e.act).after client
        ≡ option_map (told_client (acted s e.moment e.act).settles client) (client_at s client) =
        subst (λ does. client_at (acted s e.moment does).after client
        ≡ option_map (told_client (acted s e.moment does).settles client) (client_at s client)) (sym says)
        (other_told s e.moment own its client other) in
        let there : client_at (state_of b) client ≡ Some (told_client settles client was.session) =
        ap (λ (t : State). client_at t client) (state_pushed a e) ∙ others
        ∙ ap (option_map (told_client settles client)) was.there in
        let session : ClientState = told_client settles client was.session in
        let became : BecameOf (more a e) x.key session.request =
        subst (λ (k : Key). BecameOf (more a e) k session.request) (sym was.key_is)
        (known b (state_of b) client session (agreed b legal) there).request in
        ap (option_and_then (λ (c : ClientState). told_again c.request)) there
        ∙ told_last session.request became

  told_by_act : (i : ℕ) (x : Settled) → slice_get (following s e.moment e.act).settles i ≡ Some x
      → (does : Act) → e.act ≡ does → told_now (state_of b) does x.key ≡ Some x.reply
  told_by_act i x at (Hello client incarnation version) says =
      let was = was_settled a s e comes i x at in
      subst (λ does. tells s does was.there x.key ≡ Some x.reply) says was.is
  told_by_act i x at (Arrive key call) says =
      arrive_told x (settled_replies a s e comes i x at) key call says
  told_by_act i x at (Cancel key) says =
      let was = was_settled a s e comes i x at in
      subst (λ does. tells s does was.there x.key ≡ Some x.reply) says was.is
  told_by_act i x at Tick says =
      let was = was_settled a s e comes i x at in
      subst (λ does. tells s does was.there x.key ≡ Some x.reply) says was.is

  pub settled_told : (i : ℕ) (x : Settled) → slice_get (following s e.moment e.act).settles i ≡ Some x
      → told_now (state_of b) e.act x.key ≡ Some x.reply
  settled_told i x at = told_by_act i x at e.act refl
