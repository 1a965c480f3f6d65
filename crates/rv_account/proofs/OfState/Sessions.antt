-- Where a client waits, by the state and by the account.
use Rattle.rv_account.proofs.OfState.Words.{◌+◌, ◌∙◌, nat_eq, refl, sym, ap, subst, arith, eq-eqb, eqb-true}
use Rattle.rv_account.proofs.OfState.Words.{false≢true}
use Rattle.rv_account.proofs.OfState.Words.{none-some, same_Some, slice_get-map, Key, Call, Arrive, Account}
use Rattle.rv_account.proofs.OfState.Words.{act_at}
use Rattle.rv_account.proofs.OfState.Words.{call_in, HasWaiting, IsNextNumber, Legal, Open, Waiting}
use Rattle.rv_account.proofs.OfState.Words.{one_incarnation}
use Rattle.rv_account.proofs.OfState.Words.{one_last_number, arrives_once, ClientState, LastRequest}
use Rattle.rv_account.proofs.OfState.Words.{OpenPlace, State}
use Rattle.rv_account.proofs.OfState.Words.{client_at, client_waits, open_at, place_list, place_waiting}
use Rattle.rv_account.proofs.OfState.Words.{CancelledUnseen, Fresh, RepliedTo, Waits, BecameOf, IsArrival}
use Rattle.rv_account.proofs.OfState.Words.{IsClient}
use Rattle.rv_account.proofs.OfState.Words.{IsClientOrNew, IsStateOf, last_key_of}
use Rattle.std.specs.Prelude.{◌≡◌, ℕ, Some, None, slice_get, Option, option_and_then, option_map, take, false}
use Rattle.rv_account.specs.rules.Replies.{RepliesToArrival}
use Rattle.rv_account.proofs.OfRules.Keys.{act_arrives}
use Rattle.rv_account.proofs.OfRules.Waits.{IsLast, arrival, waiting_is_last}
use Rattle.rv_account.proofs.OfState.Finding.{found_stands, mapped_stands, none_found, read_of}
use Rattle.rv_account.proofs.OfState.StayingReplies.{waits_untold}

same_key : (key : Key) (epoch : ℕ) (session : ClientState) → key.epoch ≡ epoch
    → key.incarnation ≡ session.incarnation → key.number ≡ session.last
    → key ≡ last_key_of epoch key.client session
same_key key epoch session of_epoch of_incarnation number =
    λ i. record {
      epoch = of_epoch i;
      client = key.client;
      incarnation = of_incarnation i;
      number = number i;
    }

-- what the state says of a client that has a session
pub known : (a : Account) (s : State) (client : ℕ) (session : ClientState) → IsStateOf a s
    → client_at s client ≡ Some session → IsClient a client session
known a s client session state there = subst (IsClientOrNew a client) there (state.clients client)

-- the request that waits at a place is its client's last one, and the state says so
pub record WaitsInState (a : Account) (s : State) (key : Key) (place : ℕ) : Type 0 where
  pub session : ClientState
  pub there : client_at s key.client ≡ Some session
  pub call : Call
  pub request : session.request ≡ Waits place call
  pub arrived : act_at a.entries place ≡ Some (Arrive key call)
  pub key_is : key ≡ last_key_of a.epoch key.client session

pub waits_in_state : (a : Account) (s : State) (key : Key) (call : Call) (place : ℕ) → Legal a → IsStateOf a s
    → act_at a.entries place ≡ Some (Arrive key call) → Waiting a.entries place → WaitsInState a s key place
waits_in_state a s key call place legal state arrived waits =
    by_client (client_at s key.client) refl (state.clients key.client)
  where
    is_last : IsLast a key
    is_last = waiting_is_last a place key call legal waits arrived

    -- what became of its client's last request, which is this one
    by_request : (session : ClientState) (request : LastRequest) → client_at s key.client ≡ Some session
        → session.request ≡ request → key ≡ last_key_of a.epoch key.client session
        → BecameOf a.entries key request → WaitsInState a s key place
    by_request session Fresh there is same became =
        let next : IsNextNumber (take place a.entries) key = (arrival a place key call legal arrived).next in
        let above : key.number ≡ next.last + 1 = next.next in
        let none : key.number ≡ 0 = became in
        absurd (omega arith)
    by_request session (Waits other asked) there is same became =
        let at : other ≡ place = arrives_once a other place key asked call legal became.arrived arrived in
        record {
          session = session;
          there = there;
          call = asked;
          request = is ∙ ap (λ p. Waits p asked) at;
          arrived = subst (λ p. act_at a.entries p ≡ Some (Arrive key asked)) at became.arrived;
          key_is = same;
        }
    by_request session (RepliedTo asked reply) there is same became =
        let told : RepliesToArrival a.entries key reply = became.replies in
        let at : told.place ≡ place =
        arrives_once a told.place place key told.call call legal told.arrived arrived in
        absurd (waits_untold told.call a.entries told.place reply (ap (option_and_then call_in) told.arrived)
        (subst (Waiting a.entries) (sym at) waits) told.replies)
    by_request session CancelledUnseen there is same became = absurd (became.not_arrived place call arrived)

    by_session : (session : ClientState) → client_at s key.client ≡ Some session
        → IsClient a key.client session → WaitsInState a s key place
    by_session session there client =
        let opened = client.opened in
        let incarnation : key.incarnation ≡ session.incarnation =
        one_incarnation a.entries key.client key.incarnation session.incarnation is_last.incarnation
        (opened.h, opened.last) in
        let number : key.number ≡ session.last =
        one_last_number a.entries key.client key.number session.last is_last.number client.last in
        let same : key ≡ last_key_of a.epoch key.client session =
        same_key key a.epoch session is_last.epoch incarnation number in
        by_request session session.request there refl same
        (subst (λ (k : Key). BecameOf a.entries k session.request) (sym same) client.request)

    by_client : (o : Option ClientState) → client_at s key.client ≡ o → IsClientOrNew a key.client o
        → WaitsInState a s key place
    by_client None there new =
        let has = is_last.incarnation in
        absurd (new (has.0, key.incarnation, has.1.version, has.1.hello))
    by_client (Some session) there client = by_session session there client

-- where the state says that a client's last request waits, a request of that client with its last key waits
pub record WaitsInAccount (a : Account) (client : ℕ) (session : ClientState) (place : ℕ) : Type 0 where
  pub call : Call
  pub arrived : act_at a.entries place ≡ Some (Arrive (last_key_of a.epoch client session) call)
  pub request : session.request ≡ Waits place call
  pub waits : Waiting a.entries place

pub waits_in_account : (a : Account) (s : State) (client : ℕ) (session : ClientState) (place : ℕ) → Legal a
    → IsStateOf a s → client_at s client ≡ Some session → place_waiting session.request ≡ Some place
    → WaitsInAccount a client session place
waits_in_account a s client session place legal state there is =
    by_request session.request refl is (known a s client session state there).request
  where
    by_request : (request : LastRequest) → session.request ≡ request → place_waiting request ≡ Some place
        → BecameOf a.entries (last_key_of a.epoch client session) request
        → WaitsInAccount a client session place
    by_request Fresh asked at became = absurd (none-some place at)
    by_request (Waits other call) asked at became =
        let same : other ≡ place = same_Some _ _ at in
        let key : Key = last_key_of a.epoch client session in
        record {
          call = call;
          arrived = subst (λ p. act_at a.entries p ≡ Some (Arrive key call)) same became.arrived;
          request = asked ∙ ap (λ p. Waits p call) same;
          waits = subst (Waiting a.entries) same became.waits;
        }
    by_request (RepliedTo call reply) asked at became = absurd (none-some place at)
    by_request CancelledUnseen asked at became = absurd (none-some place at)

-- an open place is found, and what is found is open
pub record FoundOpen (a : Account) (s : State) (place : ℕ) : Type 0 where
  pub there : OpenPlace
  pub found : open_at s place ≡ Some there
  pub i : ℕ
  pub stands : slice_get s.open_places i ≡ Some there
  pub at_place : there.place ≡ place
  pub arrival : IsArrival a.entries there

pub open_found : (a : Account) (s : State) (place : ℕ) → IsStateOf a s → Open a.entries place
    → FoundOpen a s place
open_found a s place state opens = by_found (open_at s place) refl
  where
    by_found : (o : Option OpenPlace) → open_at s place ≡ o → FoundOpen a s place
    by_found None none =
        let at = state.in_order.each place opens in
        let stands = mapped_stands (λ (o : OpenPlace). o.place) s.open_places at.0 place at.1 in
        let fails : nat_eq stands.0.place place ≡ false =
        none_found (λ (o : OpenPlace). nat_eq o.place place) s.open_places at.0 stands.0 none stands.1 in
        absurd (false≢true (sym fails ∙ eq-eqb stands.0.place place stands.2))
    by_found (Some there) found =
        let is = found_stands (λ (o : OpenPlace). nat_eq o.place place) s.open_places there found in
        record {
          there = there;
          found = found;
          i = is.0;
          stands = is.1;
          at_place = eqb-true there.place place is.2;
          arrival = state.arrivals is.0 there is.1;
        }

pub found_open : (a : Account) (s : State) (place : ℕ) (there : OpenPlace) → IsStateOf a s
    → open_at s place ≡ Some there → (there.place ≡ place) × Open a.entries place × IsArrival a.entries there
found_open a s place there state found =
    let is = found_stands (λ (o : OpenPlace). nat_eq o.place place) s.open_places there found in
    let same : there.place ≡ place = eqb-true there.place place is.2 in
    let at : slice_get (place_list s.open_places) is.0 ≡ Some there.place =
    slice_get-map (λ (o : OpenPlace). o.place) s.open_places is.0
    ∙ ap (option_map (λ (o : OpenPlace). o.place)) is.1 in
    let opens : Open a.entries there.place = state.in_order.are is.0 there.place at in
    (same, subst (Open a.entries) same opens, state.arrivals is.0 there is.1)

-- one waits for a client in the state exactly where one does in the account
pub record ClientWaits (a : Account) (client : ℕ) (there : OpenPlace) : Type 0 where
  pub key : Key
  pub call : Call
  pub arrived : act_at a.entries there.place ≡ Some (Arrive key call)
  pub of_client : key.client ≡ client
  pub waits : Waiting a.entries there.place

pub client_waits_there : (a : Account) (s : State) (client : ℕ) (there : OpenPlace) → Legal a → IsStateOf a s
    → client_waits s client ≡ Some there → ClientWaits a client there
client_waits_there a s client there legal state found =
    let asks = λ (c : ClientState). place_waiting c.request in
    let at = read_of (open_at s) (option_and_then asks (client_at s client)) there found in
    let session = read_of asks (client_at s client) at.0 at.1 in
    let waits = waits_in_account a s client session.0 at.0 legal state session.1 session.2 in
    let same : there.place ≡ at.0 = (found_open a s at.0 there state at.2).0 in
    let key : Key = last_key_of a.epoch client session.0 in
    record {
      key = key;
      call = waits.call;
      arrived = subst (λ p. act_at a.entries p ≡ Some (Arrive key waits.call)) (sym same) waits.arrived;
      of_client = refl;
      waits = subst (Waiting a.entries) (sym same) waits.waits;
    }

pub none_waits_there : (a : Account) (s : State) (client : ℕ) → Legal a → IsStateOf a s
    → client_waits s client ≡ None → ¬ HasWaiting a.entries client
none_waits_there a s client legal state none has =
    let opened = has.waits.is_open in
    let arrived =
    act_arrives (act_at a.entries has.place) has.key opened.call has.names.named opened.arrived in
    let waits = waits_in_state a s has.key opened.call has.place legal state arrived has.waits in
    let there : client_at s client ≡ Some waits.session =
    ap (client_at s) (sym has.names.of_client) ∙ waits.there in
    let asks = λ (c : ClientState). place_waiting c.request in
    let found = open_found a s has.place state opened in
    let at : client_waits s client ≡ Some found.there =
    ap (λ o. option_and_then (open_at s) (option_and_then asks o)) there
    ∙ ap (λ r. option_and_then (open_at s) (place_waiting r)) waits.request ∙ found.found in
    none-some found.there (sym none ∙ at)
