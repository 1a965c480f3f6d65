-- Which open places an entry closes: of those, what it names and what it stops.
use Rattle.rv_account.proofs.OfState.Words.{◌≡◌, ◌⊎◌, ◌∷◌, ◌++◌, ◌∙◌, ◌↔◌, inl, inr, ℕ, List, [], Option}
use Rattle.rv_account.proofs.OfState.Words.{Some, None}
use Rattle.rv_account.proofs.OfState.Words.{length, option_and_then, refl, sym, ap, subst, slice_get}
use Rattle.rv_account.proofs.OfState.Words.{none-some}
use Rattle.rv_account.proofs.OfState.Words.{same_Some, Key, Call, Entry, Act, Hello, Arrive, Cancel, Tick}
use Rattle.rv_account.proofs.OfState.Words.{Account}
use Rattle.rv_account.proofs.OfState.Words.{Among, Names, act_at, call_in, key_in, limit_at, limit_in}
use Rattle.rv_account.proofs.OfState.Words.{IsPut, limit_of}
use Rattle.rv_account.proofs.OfState.Words.{HasWaiting, Legal, WaitsUnder, Open, StoppedAt, Waiting, act_read}
use Rattle.rv_account.proofs.OfState.Words.{OpenPlace, State, client_waits, place_list, due_at, just_open}
use Rattle.rv_account.proofs.OfState.Words.{met_by}
use Rattle.rv_account.proofs.OfState.Words.{IsArrival, IsStateOf, partners_of}
use Rattle.rv_account.specs.Calls.{limit_after}
use Rattle.rv_account.specs.rules.Sessions.{NamesKey}
use Rattle.rv_account.proofs.OfRules.Growing.{read_there}
use Rattle.rv_account.proofs.OfRules.Naming.{among_none, named_just}
use Rattle.rv_account.proofs.OfRules.Sides.{IsRequestOf, IsRequestUnder, IsRequestUntil, arrival_stops_nobody}
use Rattle.rv_account.proofs.OfRules.Sides.{cancel_stops, hello_stops, stopped_by_cancel, stopped_by_hello}
use Rattle.rv_account.proofs.OfRules.Sides.{stopped_by_tick, tick_stops}
use Rattle.rv_account.proofs.OfRules.Waits.{one_waits}
use Rattle.rv_account.proofs.OfState.Coming.{Comes, more}
use Rattle.rv_account.proofs.OfState.DueAt.{IsDuePlace, due_place, place_due}
use Rattle.rv_account.proofs.OfState.PlacesLeft.{place_among}
use Rattle.rv_account.proofs.OfState.Sessions.{ClientWaits, client_waits_there, none_waits_there}

-- the open places that an act of a moment closes: what waits of a client, what is met, or what is due
abbrev pub gone_by : State → ℕ → Act → List OpenPlace
gone_by s moment (Hello client incarnation version) = just_open (client_waits s client)
gone_by s moment (Arrive key call) = met_by s call
gone_by s moment (Cancel key) = just_open (client_waits s key.client)
gone_by s moment Tick = due_at s moment

-- the entry after those names the place, or stops what arrived there
abbrev pub ClosesAt : List Entry → Entry → ℕ → Type 0
ClosesAt es e r = Names e r ⊎ StoppedAt (es ++ e ∷ []) r (length es)

-- ---- what waits of a client

same_call : (es : List Entry) (r : ℕ) (key : Key) (call : Call) (opened : Open es r)
    → act_at es r ≡ Some (Arrive key call) → opened.call ≡ call
same_call es r key call opened arrived =
    same_Some _ _ (sym opened.arrived ∙ ap (option_and_then call_in) arrived)

pub open_waits : (es : List Entry) (r : ℕ) (key : Key) (call : Call) → Open es r
    → act_at es r ≡ Some (Arrive key call) → (IsPut call → ⊥) → Waiting es r
open_waits es r key call opened arrived no_put =
    record {
      is_open = opened;
      no_put = λ put. no_put (subst IsPut (same_call es r key call opened arrived) put);
    }

pub names_of : (es : List Entry) (client r : ℕ) (key : Key) (call : Call)
    → act_at es r ≡ Some (Arrive key call) → key.client ≡ client → NamesKey es client r key
names_of es client r key call arrived of_client =
    record { named = ap (option_and_then key_in) arrived; of_client = of_client }

pub waiting_no_put : (es : List Entry) (r : ℕ) (key : Key) (call : Call) (w : Waiting es r)
    → act_at es r ≡ Some (Arrive key call) → IsPut call → ⊥
waiting_no_put es r key call w arrived put =
    w.no_put (subst IsPut (sym (same_call es r key call w.is_open arrived)) put)

client_request : (a : Account) (client : ℕ) (there : OpenPlace) → ClientWaits a client there
    → IsRequestOf a.entries client there.place
client_request a client there w =
    record {
      key = w.key;
      call = w.call;
      arrived = w.arrived;
      of_client = sym w.of_client;
      no_put = waiting_no_put a.entries there.place w.key w.call w.waits w.arrived;
    }

request_waits : (es : List Entry) (client r : ℕ) → Open es r → IsRequestOf es client r → HasWaiting es client
request_waits es client r opened request =
    record {
      place = r;
      key = request.key;
      waits = open_waits es r request.key request.call opened request.arrived request.no_put;
      names = names_of es client r request.key request.call request.arrived (sym request.of_client);
    }

one_request : (a : Account) (client r place : ℕ) (key : Key) (call : Call) → Legal a → Open a.entries r
    → IsRequestOf a.entries client r → act_at a.entries place ≡ Some (Arrive key call) → key.client ≡ client
    → Waiting a.entries place → place ≡ r
one_request a client r place key call legal opened request arrived of_client waits =
    one_waits a client place r key request.key legal waits
    (open_waits a.entries r request.key request.call opened request.arrived request.no_put)
    (names_of a.entries client place key call arrived of_client)
    (names_of a.entries client r request.key request.call request.arrived (sym request.of_client))

client_gone : (a : Account) (s : State) (client : ℕ) → Legal a → IsStateOf a s → (o : Option OpenPlace)
    → client_waits s client ≡ o → (r : ℕ) → Open a.entries r
    → Among (place_list (just_open o)) r ↔ IsRequestOf a.entries client r
client_gone a s client legal state None waits r opened = (
  λ among. absurd (among_none [] r refl among),
  λ request. absurd (none_waits_there a s client legal state waits
      (request_waits a.entries client r opened request)),
)
client_gone a s client legal state (Some there) waits r opened =
    let w = client_waits_there a s client there legal state waits in (
      λ among. subst (IsRequestOf a.entries client) (same_Some _ _ (named_just (Some there.place) r among))
          (client_request a client there w),
      λ request. (
        0,
        ap Some (one_request a client r there.place w.key w.call legal opened request w.arrived w.of_client
            w.waits),
      ),
    )

-- ---- what a cancel stops

under_of : (es : List Entry) (key : Key) (r : ℕ) → IsRequestUnder es key r → IsRequestOf es key.client r
under_of es key r request =
    record {
      key = key;
      call = request.call;
      arrived = request.arrived;
      of_client = refl;
      no_put = request.no_put;
    }

of_under : (a : Account) (key : Key) (r : ℕ) → Legal a → WaitsUnder a.entries key → Open a.entries r
    → IsRequestOf a.entries key.client r → IsRequestUnder a.entries key r
of_under a key r legal waits opened request =
    let same = one_request a key.client r waits.place key waits.call legal opened request waits.arrived refl
    waits.waits in
    subst (IsRequestUnder a.entries key) same
    (record {
      call = waits.call;
      arrived = waits.arrived;
      no_put = waiting_no_put a.entries waits.place key waits.call waits.waits waits.arrived;
    })

-- ---- what is due

limited : (es : List Entry) (r : ℕ) (key : Key) (call : Call) (limit : ℕ)
    → act_at es r ≡ Some (Arrive key call) → limit_at es r ≡ Some limit → IsPut call → ⊥
limited es r key call limit arrived has put =
    let at = read_there act_read refl (slice_get es r) (Arrive key call) arrived in
    let none : limit_of at.0.moment call ≡ None = ap (option_and_then (limit_after at.0.moment)) put.1 in
    let is : limit_at es r ≡ None =
    ap (option_and_then limit_in) at.1
    ∙ ap (λ d. option_and_then (limit_of at.0.moment) (call_in d)) (same_Some _ _ at.2)
    ∙ none in
    none-some limit (sym is ∙ has)

place_until : (a : Account) (s : State) (moment r : ℕ) → IsStateOf a s → IsDuePlace s moment r
    → IsRequestUntil a.entries moment r
place_until a s moment r state due =
    let arrival : IsArrival a.entries due.there = state.arrivals due.i due.there due.stands in
    let has : limit_at a.entries due.there.place ≡ Some due.limit = sym arrival.limit ∙ due.has in
    subst (IsRequestUntil a.entries moment) due.at_place
    (record {
      key = arrival.key;
      call = arrival.call;
      arrived = arrival.arrived;
      no_put = limited a.entries due.there.place arrival.key arrival.call due.limit arrival.arrived has;
      limit = due.limit;
      has = has;
      elapsed = due.elapsed;
    })

until_place : (a : Account) (s : State) (moment r : ℕ) → IsStateOf a s → Open a.entries r
    → IsRequestUntil a.entries moment r → IsDuePlace s moment r
until_place a s moment r state opened request =
    let found = place_among s.open_places r (state.in_order.each r opened) in
    let arrival : IsArrival a.entries found.there = state.arrivals found.i found.there found.stands in
    record {
      i = found.i;
      there = found.there;
      stands = found.stands;
      at_place = found.at_place;
      limit = request.limit;
      has = arrival.limit ∙ ap (limit_at a.entries) found.at_place ∙ request.has;
      elapsed = request.elapsed;
    }

-- ---- what an entry closes

names_nobody : (e : Entry) (r : ℕ) → e.partners ≡ [] → Names e r → ⊥
names_nobody e r none names = among_none e.partners r none names

stops_alone : (a : Account) (e : Entry) (r : ℕ) (P : Type 0) → e.partners ≡ []
    → (StoppedAt (more a e) r (length a.entries) → P) → ClosesAt a.entries e r → P
stops_alone a e r P none leads (inl names) = absurd (names_nobody e r none names)
stops_alone a e r P none leads (inr stops) = leads stops

module _ (a : Account) (s : State) (e : Entry) (comes : Comes a s e) where
  partners_by : (does : Act) → e.act ≡ does → e.partners ≡ partners_of s does
  partners_by does is = comes.partners ∙ ap (partners_of s) is

  waits_under : (key : Key) (r : ℕ) → e.act ≡ Cancel key → Open a.entries r
      → IsRequestOf a.entries key.client r → WaitsUnder a.entries key
  waits_under key r is opened request = elim (comes.follows.numbers.cancels key is) [
    | inl waits ↦ waits
    | inr next ↦ absurd (next.idle (request_waits a.entries key.client r opened request))
  ]

  closes_by : (does : Act) → e.act ≡ does → (r : ℕ) → Open a.entries r
      → Among (place_list (gone_by s e.moment does)) r ↔ ClosesAt a.entries e r
  closes_by (Hello client incarnation version) is r opened =
      let none = partners_by (Hello client incarnation version) is in
      let same = client_gone a s client comes.legal comes.state (client_waits s client) refl r opened in (
        λ among. inr (hello_stops a.entries e client incarnation r version is (same.0 among)),
        λ closes. same.1 (stops_alone a e r (IsRequestOf a.entries client r) none
            (stopped_by_hello a.entries e client incarnation r version is) closes),
      )
  closes_by (Arrive key call) is r opened =
      let met = partners_by (Arrive key call) is in (
        λ among. inl (subst (λ places. Among places r) (sym met) among),
        λ closes. elim closes [
          | inl names ↦ subst (λ places. Among places r) met names
          | inr stops ↦ absurd (arrival_stops_nobody a.entries e key call r is stops)
        ],
      )
  closes_by (Cancel key) is r opened =
      let none = partners_by (Cancel key) is in
      let client = key.client in
      let same = client_gone a s client comes.legal comes.state (client_waits s client) refl r opened in (
        λ among.
            let request = same.0 among in
            let waits = waits_under key r is opened request in
            inr (cancel_stops a.entries e key r is (of_under a key r comes.legal waits opened request)),
        λ closes. same.1 (under_of a.entries key r (stops_alone a e r (IsRequestUnder a.entries key r) none
            (stopped_by_cancel a.entries e key r is) closes)),
      )
  closes_by Tick is r opened =
      let none = partners_by Tick is in (
        λ among. inr (tick_stops a.entries e r is
            (place_until a s e.moment r comes.state (due_place s e.moment r among))),
        λ closes. place_due s e.moment r (until_place a s e.moment r comes.state opened
            (stops_alone a e r (IsRequestUntil a.entries e.moment r) none (stopped_by_tick a.entries e r is)
            closes)),
      )

  -- an open place is among those exactly where the entry names or stops it
  pub closes : (r : ℕ) → Open a.entries r
      → Among (place_list (gone_by s e.moment e.act)) r ↔ ClosesAt a.entries e r
  closes r opened = closes_by e.act refl r opened
