-- An act keeps an account's numbers exactly where its number fits the state.
use Rattle.rv_account.proofs.OfState.Words.{◌≡◌, ◌⊎◌, ◌+◌, ◌∙◌, inl, inr, ℕ, Option, Some, None}
use Rattle.rv_account.proofs.OfState.Words.{option_and_then, refl}
use Rattle.rv_account.proofs.OfState.Words.{sym, ap, subst, none-some, same_Some, Call, Key, Version, Act}
use Rattle.rv_account.proofs.OfState.Words.{Arrive}
use Rattle.rv_account.proofs.OfState.Words.{Cancel, Hello, Tick, Account, key_in, HasWaiting, IsNextNumber}
use Rattle.rv_account.proofs.OfState.Words.{Legal}
use Rattle.rv_account.proofs.OfState.Words.{WaitsUnder, HasIncarnation, same_key, ClientState, State}
use Rattle.rv_account.proofs.OfState.Words.{client_at}
use Rattle.rv_account.proofs.OfState.Words.{open_at, place_waiting, InSession, NumberIsNext, IsStateOf}
use Rattle.rv_account.proofs.OfState.Words.{last_key_of}
use Rattle.rv_account.specs.rules.Legal.{KeepsNumbers}
use Rattle.rv_account.specs.rules.Sessions.{HasOnlyLower}
use Rattle.rv_account.specs.state.Follows.{NumberFits, NumberWaits}
use Rattle.rv_account.proofs.OfState.ClientParts.{above_to_lower, account_to_session, client_known}
use Rattle.rv_account.proofs.OfState.ClientParts.{lower_to_above}
use Rattle.rv_account.proofs.OfState.ClientParts.{same_last, session_to_account}
use Rattle.rv_account.proofs.OfState.Sessions.{none_waits_there, waits_in_account, waits_in_state}

-- ---- whether a client's request waits

pub none_waits : (a : Account) (s : State) (client : ℕ) (session : ClientState) → Legal a → IsStateOf a s
    → client_at s client ≡ Some session → place_waiting session.request ≡ None → HasWaiting a.entries client
    → ⊥
none_waits a s client session legal state there idle =
    none_waits_there a s client legal state
    (ap (λ o. option_and_then (open_at s)
    (option_and_then (λ (c : ClientState). place_waiting c.request) o)) there
    ∙ ap (option_and_then (open_at s)) idle)

-- where one waits by the state it does by the account
pub waits_known : (a : Account) (s : State) (client place : ℕ) (session : ClientState) → Legal a
    → IsStateOf a s → client_at s client ≡ Some session → place_waiting session.request ≡ Some place
    → HasWaiting a.entries client
waits_known a s client place session legal state there is =
    let waits = waits_in_account a s client session place legal state there is in
    record {
      place = place;
      key = last_key_of a.epoch client session;
      waits = waits.waits;
      names = record { named = ap (option_and_then key_in) waits.arrived; of_client = refl };
    }

idle_by : (a : Account) (s : State) (client : ℕ) (session : ClientState) (o : Option ℕ) → Legal a
    → IsStateOf a s → client_at s client ≡ Some session → place_waiting session.request ≡ o
    → (HasWaiting a.entries client → ⊥) → o ≡ None
idle_by a s client session None legal state there is idle = refl
idle_by a s client session (Some place) legal state there is idle =
    absurd (idle (waits_known a s client place session legal state there is))

pub waits_not : (a : Account) (s : State) (client : ℕ) (session : ClientState) → Legal a → IsStateOf a s
    → client_at s client ≡ Some session → (HasWaiting a.entries client → ⊥)
    → place_waiting session.request ≡ None
waits_not a s client session legal state there idle =
    idle_by a s client session (place_waiting session.request) legal state there refl idle

-- ---- the next number

pub next_to_account : (a : Account) (s : State) (key : Key) → Legal a → IsStateOf a s → NumberIsNext s key
    → IsNextNumber a.entries key
next_to_account a s key legal state next =
    let of = next.of_session in
    record {
      last = next.session.last;
      is_last = (client_known a s key.client next.session state of.there).last;
      next = next.next;
      idle = none_waits a s key.client next.session legal state of.there next.idle;
    }

pub next_to_state : (a : Account) (s : State) (key : Key) (session : ClientState) → Legal a → IsStateOf a s
    → InSession s key session → IsNextNumber a.entries key → NumberIsNext s key
next_to_state a s key session legal state of next = record {
  session = session;
  of_session = of;
  next = next.next
      ∙ ap (λ n. n + 1) (sym (same_last a s key.client next.last session state of.there next.is_last));
  idle = waits_not a s key.client session legal state of.there next.idle;
}

-- ---- the number that waits

pub waits_to_account : (a : Account) (s : State) (key : Key) → Legal a → IsStateOf a s → NumberWaits s key
    → WaitsUnder a.entries key
waits_to_account a s key legal state number =
    let of = number.of_session in
    let waits = waits_in_account a s key.client number.session number.place legal state of.there
    number.waits in
    let same : last_key_of a.epoch key.client number.session ≡ key =
    same_key _ _ (sym (of.epoch ∙ state.epoch)) refl of.incarnation (sym number.last) in
    record {
      place = number.place;
      call = waits.call;
      arrived = waits.arrived ∙ ap (λ k. Some (Arrive k waits.call)) same;
      waits = waits.waits;
    }

pub waits_to_state : (a : Account) (s : State) (key : Key) → Legal a → IsStateOf a s
    → WaitsUnder a.entries key → NumberWaits s key
waits_to_state a s key legal state under =
    let waits = waits_in_state a s key under.call under.place legal state under.arrived under.waits in
    record {
      session = waits.session;
      of_session = record {
        epoch = ap (λ (k : Key). k.epoch) waits.key_is ∙ sym state.epoch;
        there = waits.there;
        incarnation = sym (ap (λ (k : Key). k.incarnation) waits.key_is);
      };
      last = ap (λ (k : Key). k.number) waits.key_is;
      place = under.place;
      waits = ap place_waiting waits.request;
    }

-- ---- the numbers of each act

pub hello_numbers : (a : Account) (client incarnation : ℕ) (v : Version)
    → HasOnlyLower a.entries client incarnation → KeepsNumbers a (Hello client incarnation v)
hello_numbers a client incarnation v lower = record {
  raises_incarnation = λ c i w is.
      let same_client : client ≡ c = cc in
      let same_incarnation : incarnation ≡ i = cc in
      subst (HasOnlyLower a.entries c) same_incarnation
      (subst (λ n. HasOnlyLower a.entries n incarnation) same_client lower);
  of_session = λ key is. absurd (none-some key is);
  counts_up = λ key call is. absurd (let no : ⊥ = cc in no);
  cancels = λ key is. absurd (let no : ⊥ = cc in no);
}

arrived_key : (key other : Key) (call more : Call) → Arrive key call ≡ Arrive other more → key ≡ other
arrived_key key other call more e = cc

arrival_numbers : (a : Account) (key : Key) (call : Call)
    → (key.epoch ≡ a.epoch) × HasIncarnation a.entries key.client key.incarnation → IsNextNumber a.entries key
    → KeepsNumbers a (Arrive key call)
arrival_numbers a key call session next = record {
  raises_incarnation = λ c i w is. absurd (let no : ⊥ = cc in no);
  of_session = λ other is. subst
      (λ (k : Key). (k.epoch ≡ a.epoch) × HasIncarnation a.entries k.client k.incarnation) (same_Some _ _ is)
      session;
  counts_up = λ other more is. subst (IsNextNumber a.entries) (arrived_key _ _ _ _ is) next;
  cancels = λ other is. absurd (let no : ⊥ = cc in no);
}

cancelled_key : (key other : Key) → Cancel key ≡ Cancel other → key ≡ other
cancelled_key key other e = cc

cancel_numbers : (a : Account) (key : Key)
    → (key.epoch ≡ a.epoch) × HasIncarnation a.entries key.client key.incarnation
    → WaitsUnder a.entries key ⊎ IsNextNumber a.entries key → KeepsNumbers a (Cancel key)
cancel_numbers a key session turn = record {
  raises_incarnation = λ c i w is. absurd (let no : ⊥ = cc in no);
  of_session = λ other is. subst
      (λ (k : Key). (k.epoch ≡ a.epoch) × HasIncarnation a.entries k.client k.incarnation) (same_Some _ _ is)
      session;
  counts_up = λ other more is. absurd (let no : ⊥ = cc in no);
  cancels = λ other is. subst (λ (k : Key). WaitsUnder a.entries k ⊎ IsNextNumber a.entries k)
      (cancelled_key _ _ is) turn;
}

pub tick_numbers : (a : Account) → KeepsNumbers a Tick
tick_numbers a = record {
  raises_incarnation = λ c i w is. absurd (let no : ⊥ = cc in no);
  of_session = λ key is. absurd (none-some key is);
  counts_up = λ key call is. absurd (let no : ⊥ = cc in no);
  cancels = λ key is. absurd (let no : ⊥ = cc in no);
}

-- ---- an act's numbers

pub turn_to_state : (a : Account) (s : State) (key : Key) (session : ClientState) → Legal a → IsStateOf a s
    → InSession s key session → WaitsUnder a.entries key ⊎ IsNextNumber a.entries key
    → NumberWaits s key ⊎ NumberIsNext s key
turn_to_state a s key session legal state of (inl waits) = inl (waits_to_state a s key legal state waits)
turn_to_state a s key session legal state of (inr next) =
    inr (next_to_state a s key session legal state of next)

pub numbers_fit : (a : Account) (s : State) (does : Act) → Legal a → IsStateOf a s → KeepsNumbers a does
    → NumberFits s does
numbers_fit a s (Hello client incarnation version) legal state keeps =
    lower_to_above a s client incarnation state (keeps.raises_incarnation client incarnation version refl)
numbers_fit a s (Arrive key call) legal state keeps =
    let session = keeps.of_session key refl in
    let of = account_to_session a s key state session.0 session.1 in
    next_to_state a s key of.0 legal state of.1 (keeps.counts_up key call refl)
numbers_fit a s (Cancel key) legal state keeps =
    let session = keeps.of_session key refl in
    let of = account_to_session a s key state session.0 session.1 in
    turn_to_state a s key of.0 legal state of.1 (keeps.cancels key refl)
numbers_fit a s Tick legal state keeps = tt

cancel_fits : (a : Account) (s : State) (key : Key) → Legal a → IsStateOf a s
    → NumberWaits s key ⊎ NumberIsNext s key → KeepsNumbers a (Cancel key)
cancel_fits a s key legal state (inl waits) =
    cancel_numbers a key (session_to_account a s key waits.session state waits.of_session)
    (inl (waits_to_account a s key legal state waits))
cancel_fits a s key legal state (inr next) =
    cancel_numbers a key (session_to_account a s key next.session state next.of_session)
    (inr (next_to_account a s key legal state next))

pub fitting_numbers : (a : Account) (s : State) (does : Act) → Legal a → IsStateOf a s → NumberFits s does
    → KeepsNumbers a does
fitting_numbers a s (Hello client incarnation version) legal state fits =
    hello_numbers a client incarnation version (above_to_lower a s client incarnation legal state fits)
fitting_numbers a s (Arrive key call) legal state fits =
    arrival_numbers a key call (session_to_account a s key fits.session state fits.of_session)
    (next_to_account a s key legal state fits)
fitting_numbers a s (Cancel key) legal state fits = cancel_fits a s key legal state fits
fitting_numbers a s Tick legal state fits = tick_numbers a
