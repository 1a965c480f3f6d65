-- The clients after an entry are those of the account with that entry.
use Rattle.rv_account.proofs.OfState.Words.{◌+◌, ◌∙◌, get, inl, inr, List, [], length, Option, Some, None}
use Rattle.rv_account.proofs.OfState.Words.{option_and_then, option_map, refl, sym, ap, subst, arith}
use Rattle.rv_account.proofs.OfState.Words.{same_Some}
use Rattle.rv_account.proofs.OfState.Words.{Version, Key, Call, Reply, Act, Arrive, Cancel, Hello, Tick}
use Rattle.rv_account.proofs.OfState.Words.{Entry, Account}
use Rattle.rv_account.proofs.OfState.Words.{key_in, with_entry, HasWaiting, IsNextNumber, WaitsUnder}
use Rattle.rv_account.proofs.OfState.Words.{CancelledFirst}
use Rattle.rv_account.proofs.OfState.Words.{SaidHello, same_key, act_read, reads_back, one_incarnation}
use Rattle.rv_account.proofs.OfState.Words.{one_last_number}
use Rattle.rv_account.proofs.OfState.Words.{get-append_end, ClientState, LastRequest, OpenPlace, State}
use Rattle.rv_account.proofs.OfState.Words.{client_at}
use Rattle.rv_account.proofs.OfState.Words.{client_waits, CancelledUnseen, Fresh, Settled, acted, cancelled}
use Rattle.rv_account.proofs.OfState.Words.{following}
use Rattle.rv_account.proofs.OfState.Words.{state_after, met_by, with_last, BecameOf, IsClient, IsClientOrNew}
use Rattle.rv_account.proofs.OfState.Words.{last_key_of}
use Rattle.std.specs.Prelude.{◌≡◌, ℕ}
use Rattle.rv_account.proofs.OfRules.Deciding.{arrives_no_cancel}
use Rattle.rv_account.proofs.OfRules.Keys.{client_of}
use Rattle.rv_account.proofs.OfRules.Numbers.{same_or_not}
use Rattle.rv_account.proofs.OfRules.OnePartner.{named_not_next}
use Rattle.rv_account.proofs.OfRules.Waits.{waiting_is_last}
use Rattle.rv_account.specs.state.After.{asked, request_after, tell_all, Following, closed, parked, with_open}
use Rattle.rv_account.proofs.OfState.Becoming.{became_on}
use Rattle.rv_account.proofs.OfState.Coming.{Comes, more}
use Rattle.rv_account.proofs.OfState.Sessions.{client_waits_there, known, none_waits_there}
use Rattle.rv_account.proofs.OfState.SessionsOn.{IsApart, IsAt, IsAt-on, greeted_at, named_at, names_no_hello}
use Rattle.rv_account.proofs.OfState.SessionsOn.{no_hello_on, other_apart, tick_apart}
use Rattle.rv_account.proofs.OfState.Telling.{own_replies, own_waits}
use Rattle.rv_account.proofs.OfState.ToldClients.{get_other, get_own, get_tell_all, told_client}

-- ---- clients that are told at most

-- a client's session keeps its incarnation, version and last number with the entry, and who is new stays so
record Keeps (a : Account) (e : Entry) (client : ℕ) : Type 0 where
  session : (i : ℕ) (v : Version) (n : ℕ) → IsAt a.entries client i v n → IsAt (more a e) client i v n
  new : (SaidHello a.entries client → ⊥) → SaidHello (more a e) client → ⊥

apart_keeps : (a : Account) (e : Entry) (client : ℕ) → IsApart e.act client → Keeps a e client
apart_keeps a e client apart =
    record {
      session = λ i v n is. IsAt-on a.entries e client i v n apart is;
      new = no_hello_on a.entries e client apart.no_hello;
    }

module _ (a : Account) (s : State) (e : Entry) (comes : Comes a s e) (settles : List Settled)
    (made : (following s e.moment e.act).settles ≡ settles) where
  told_on : (client : ℕ) → Keeps a e client
      → IsClientOrNew (with_entry a e) client (get (tell_all s.clients settles) client)
  told_on client keeps =
      subst (IsClientOrNew (with_entry a e) client) (sym (get_tell_all settles s.clients client))
      (each (client_at s client) (comes.state.clients client))
    where
      each : (o : Option ClientState) → IsClientOrNew a client o
          → IsClientOrNew (with_entry a e) client (option_map (told_client settles client) o)
      each None new = keeps.new new
      each (Some session) is =
          let at = keeps.session session.incarnation session.version session.last
          (record { opened = is.opened; number = is.last }) in
          record {
            opened = at.opened;
            last = at.number;
            request = became_on a s e comes settles made (last_key_of a.epoch client session) session.request
                is.request;
          }

  told_apart : (client : ℕ) → IsApart e.act client
      → IsClientOrNew (with_entry a e) client (get (tell_all s.clients settles) client)
  told_apart client apart = told_on client (apart_keeps a e client apart)

-- ---- the client whose number is the last

abbrev with_number : Key → LastRequest → ClientState → ClientState
with_number key request session =
    record {
      incarnation = session.incarnation;
      version = session.version;
      last = key.number;
      request = request;
    }

with_last_own : (s : State) (key : Key) (request : LastRequest) (o : Option ClientState)
    → client_at s key.client ≡ o
    → client_at (with_last s key request o) key.client ≡ option_map (with_number key request) o
with_last_own s key request None there = there
with_last_own s key request (Some session) there =
    get_own s.clients key.client (with_number key request session) key.client refl

with_last_other : (s : State) (key : Key) (request : LastRequest) (o : Option ClientState) (client : ℕ)
    → (client ≡ key.client → ⊥) → client_at (with_last s key request o) client ≡ client_at s client
with_last_other s key request None client other = refl
with_last_other s key request (Some session) client other =
    get_other s.clients key.client (with_number key request session) client other

-- a key of an entry that may follow is of its client's session
own_session : (a : Account) (s : State) (e : Entry) (key : Key) → Comes a s e → key_in e.act ≡ Some key
    → (session : ClientState) × (client_at s key.client ≡ Some session) × (key.epoch ≡ a.epoch)
    × (key.incarnation ≡ session.incarnation)
own_session a s e key comes names = each (client_at s key.client) refl (comes.state.clients key.client)
  where
    each : (o : Option ClientState) → client_at s key.client ≡ o → IsClientOrNew a key.client o
        → (session : ClientState) × (client_at s key.client ≡ Some session) × (key.epoch ≡ a.epoch)
        × (key.incarnation ≡ session.incarnation)
    each None there new =
        let has = (comes.follows.numbers.of_session key names).1 in
        absurd (new (has.0, key.incarnation, has.1.version, has.1.hello))
    each (Some session) there is =
        let of = comes.follows.numbers.of_session key names in
        let opened = is.opened in (
          session,
          there,
          of.0,
          one_incarnation a.entries key.client key.incarnation session.incarnation of.1
              (opened.h, opened.last),
        )

asked_own : (a : Account) (s : State) (e : Entry) (key : Key) (request : LastRequest) → Comes a s e
    → key_in e.act ≡ Some key → IsNextNumber a.entries key → BecameOf (more a e) key request
    → (session : ClientState) → client_at s key.client ≡ Some session
    → IsClient (with_entry a e) key.client (with_number key request session)
asked_own a s e key request comes names next became session there =
    let of = own_session a s e key comes names in
    let one : of.0 ≡ session = same_Some _ _ (sym of.1 ∙ there) in
    let incarnation : key.incarnation ≡ session.incarnation =
    of.3 ∙ ap (λ (c : ClientState). c.incarnation) one in
    let is = known a s key.client session comes.state there in
    let last : next.last ≡ session.last =
    one_last_number a.entries key.client next.last session.last next.is_last is.last in
    let number : key.number ≡ next.last + 1 = next.next in
    let at = named_at a.entries e key session.incarnation session.version session.last names
    (record { opened = is.opened; number = is.last }) (omega arith) in
    let last_key : Key = last_key_of a.epoch key.client (with_number key request session) in
    let same : key ≡ last_key = same_key key last_key of.2 refl incarnation refl in
    record {
      opened = at.opened;
      last = at.number;
      request = subst (λ k. BecameOf (more a e) k request) same became;
    }

asked_after : (a : Account) (s told : State) (e : Entry) (settles : List Settled) (key : Key)
    (request : LastRequest) → Comes a s e → (following s e.moment e.act).settles ≡ settles
    → ((client : ℕ) → client_at told client ≡ get (tell_all s.clients settles) client)
    → key_in e.act ≡ Some key → IsNextNumber a.entries key → BecameOf (more a e) key request
    → client_of e.act ≡ key.client → (client : ℕ)
    → IsClientOrNew (with_entry a e) client (client_at (asked told key request) client)
asked_after a s told e settles key request comes made is_told names next became of_client client =
    elim (same_or_not client key.client) [
      | inl own ↦
          subst (λ c. IsClientOrNew (with_entry a e) c (client_at (asked told key request) c)) (sym own)
          own_asked
      | inr other ↦
          subst (IsClientOrNew (with_entry a e) client)
          (sym (with_last_other told key request (client_at told key.client) client other ∙ is_told client))
          (told_apart a s e comes settles made client
          (other_apart e.act client (λ same. other (sym same ∙ of_client))))
    ]
  where
    own_asked : IsClientOrNew (with_entry a e) key.client (client_at (asked told key request) key.client)
    own_asked =
        let of = own_session a s e key comes names in
        let there : client_at told key.client ≡ Some (told_client settles key.client of.0) =
        is_told key.client ∙ get_tell_all settles s.clients key.client
        ∙ ap (option_map (told_client settles key.client)) of.1 in
        let asks : client_at (asked told key request) key.client ≡ Some (with_number key request of.0) =
        with_last_own told key request (client_at told key.client) refl
        ∙ ap (option_map (with_number key request)) there in
        subst (IsClientOrNew (with_entry a e) key.client) (sym asks)
        (asked_own a s e key request comes names next became of.0 of.1)

-- ---- by the act

hello_after : (a : Account) (s : State) (e : Entry) (c i : ℕ) (v : Version) → Comes a s e
    → e.act ≡ Hello c i v → (client : ℕ)
    → IsClientOrNew (with_entry a e) client (client_at (acted s e.moment (Hello c i v)).after client)
hello_after a s e c i v comes says client =
    let settles : List Settled = (acted s e.moment (Hello c i v)).settles in
    let new : ClientState = record { incarnation = i; version = v; last = 0; request = Fresh } in
    let at = greeted_at a.entries e c i v says in
    elim (same_or_not client c) [
      | inl own ↦
          subst (IsClientOrNew (with_entry a e) client)
          (sym (get_own (tell_all s.clients settles) c new client own))
          (subst (λ n. IsClient (with_entry a e) n new) (sym own)
          (record { opened = at.opened; last = at.number; request = refl }))
      | inr other ↦
          subst (IsClientOrNew (with_entry a e) client)
          (sym (get_other (tell_all s.clients settles) c new client other))
          (told_apart a s e comes settles (ap (λ does. (acted s e.moment does).settles) says) client
          (other_apart e.act client (λ same. other (sym same ∙ ap client_of says))))
    ]

tick_after : (a : Account) (s : State) (e : Entry) → Comes a s e → e.act ≡ Tick → (client : ℕ)
    → IsClientOrNew (with_entry a e) client (client_at (acted s e.moment Tick).after client)
tick_after a s e comes says client =
    told_apart a s e comes (acted s e.moment Tick).settles (ap (λ does. (acted s e.moment does).settles) says)
    client (subst (λ does. IsApart does client) (sym says) (tick_apart client))

-- what became of the request of an arrival
arrival_became : (a : Account) (s : State) (e : Entry) (key : Key) (call : Call) → Comes a s e
    → e.act ≡ Arrive key call → (o : Option Reply) → (following s e.moment e.act).reply ≡ o
    → BecameOf (more a e) key (request_after s.length call o)
arrival_became a s e key call comes says None waits =
    subst (λ n. BecameOf (more a e) key (request_after n call None)) (sym comes.state.length)
    (record {
      arrived = ap act_read (get-append_end a.entries e) ∙ ap Some says;
      waits = own_waits a s e key call comes says waits;
    })
arrival_became a s e key call comes says (Some reply) told =
    record {
      replies = record {
        place = length a.entries;
        call = call;
        arrived = ap act_read (get-append_end a.entries e) ∙ ap Some says;
        replies = own_replies a s e key call reply comes says told;
      };
      with_call = refl;
    }

arrive_after : (a : Account) (s : State) (e : Entry) (key : Key) (call : Call) → Comes a s e
    → e.act ≡ Arrive key call → (client : ℕ)
    → IsClientOrNew (with_entry a e) client (client_at (acted s e.moment (Arrive key call)).after client)
arrive_after a s e key call comes says client =
    let made : Following = acted s e.moment (Arrive key call) in
    let met : List OpenPlace = met_by s call in
    let open_then : State = with_open (closed s met made.settles) (parked s e.moment key call met) in
    asked_after a s open_then e made.settles key (request_after s.length call made.reply) comes
    (ap (λ does. (acted s e.moment does).settles) says) (λ c. refl) (ap key_in says)
    (comes.follows.numbers.counts_up key call says)
    (arrival_became a s e key call comes says made.reply (ap (λ does. (acted s e.moment does).reply) says))
    (ap client_of says) client

-- a cancel of what never came settles its number
pub cancel_became : (a : Account) (s : State) (e : Entry) (key : Key) → Comes a s e → e.act ≡ Cancel key
    → IsNextNumber a.entries key → CancelledFirst (more a e) key
cancel_became a s e key comes says next =
    let has = (comes.follows.numbers.of_session key (ap key_in says)).1 in
    record {
      place = length a.entries;
      cancelled = ap act_read (get-append_end a.entries e) ∙ ap Some says;
      not_arrived = λ r call arrived.
          elim (reads_back act_read refl a.entries e r (Arrive key call) arrived) [
            | inl before ↦ named_not_next a r key comes.legal (ap (option_and_then key_in) before.1) has next
            | inr own ↦ arrives_no_cancel key call key (sym own.1 ∙ ap Some says)
          ];
    }

-- a cancel of what waits leaves its number
cancel_keeps : (a : Account) (s : State) (e : Entry) (key : Key) → Comes a s e → e.act ≡ Cancel key
    → WaitsUnder a.entries key → (client : ℕ) → Keeps a e client
cancel_keeps a s e key comes says waits client = elim (same_or_not client key.client) [
  | inl own ↦ subst (Keeps a e) (sym own) (record { session = session; new = new })
  | inr other ↦
      apart_keeps a e client (other_apart e.act client (λ same. other (sym same ∙ ap client_of says)))
]
  where
    session : (i : ℕ) (v : Version) (n : ℕ) → IsAt a.entries key.client i v n
        → IsAt (more a e) key.client i v n
    session i v n is =
        let is_last = waiting_is_last a waits.place key waits.call comes.legal waits.waits waits.arrived in
        let same : key.number ≡ n =
        one_last_number a.entries key.client key.number n is_last.number is.number in
        subst (IsAt (more a e) key.client i v) same
        (named_at a.entries e key i v n (ap key_in says) is (omega arith))

    new : (SaidHello a.entries key.client → ⊥) → SaidHello (more a e) key.client → ⊥
    new = no_hello_on a.entries e key.client (λ i v. names_no_hello e.act key key.client i v (ap key_in says))

cancel_after : (a : Account) (s : State) (e : Entry) (key : Key) → Comes a s e → e.act ≡ Cancel key
    → (client : ℕ) → (o : Option OpenPlace) → client_waits s key.client ≡ o
    → IsClientOrNew (with_entry a e) client (client_at (cancelled s key o).after client)
cancel_after a s e key comes says client None waits =
    let none = none_waits_there a s key.client comes.legal comes.state waits in
    let next : IsNextNumber a.entries key = elim (comes.follows.numbers.cancels key says) [
      | inl under ↦
          absurd (none (record {
            place = under.place;
            key = key;
            waits = under.waits;
            names = record { named = ap (option_and_then key_in) under.arrived; of_client = refl };
          }))
      | inr next ↦ next
    ] in
    asked_after a s s e [] key CancelledUnseen comes
    (ap (λ does. (acted s e.moment does).settles) says ∙ ap (λ w. (cancelled s key w).settles) waits)
    (λ c. refl) (ap key_in says) next (cancel_became a s e key comes says next) (ap client_of says) client
cancel_after a s e key comes says client (Some there) waits =
    let has = client_waits_there a s key.client there comes.legal comes.state waits in
    let waiting : HasWaiting a.entries key.client = record {
      place = there.place;
      key = has.key;
      waits = has.waits;
      names = record { named = ap (option_and_then key_in) has.arrived; of_client = has.of_client };
    } in
    let under : WaitsUnder a.entries key = elim (comes.follows.numbers.cancels key says) [
      | inl under ↦ under
      | inr next ↦ absurd (next.idle waiting)
    ] in
    told_on a s e comes (cancelled s key (Some there)).settles
    (ap (λ does. (acted s e.moment does).settles) says ∙ ap (λ w. (cancelled s key w).settles) waits) client
    (cancel_keeps a s e key comes says under client)

pub clients_after : (a : Account) (s : State) (e : Entry) → Comes a s e → (client : ℕ)
    → IsClientOrNew (with_entry a e) client (client_at (state_after s e) client)
clients_after a s e comes client = by_act e.act refl
  where
    by_act : (does : Act) → e.act ≡ does
        → IsClientOrNew (with_entry a e) client (client_at (acted s e.moment does).after client)
    by_act (Hello c i v) says = hello_after a s e c i v comes says client
    by_act (Arrive key call) says = arrive_after a s e key call comes says client
    by_act (Cancel key) says = cancel_after a s e key comes says client (client_waits s key.client) refl
    by_act Tick says = tick_after a s e comes says client
