-- Of those that waited before an entry just those that it settles wait no longer.
use Rattle.std.proofs.Common.{◌≡◌, ◌≢◌, ◌<◌, ◌⊎◌, ◌∷◌, ◌∙◌, ℕ, zero, suc, [], Option, Some, None}
use Rattle.std.proofs.Common.{inl, inr, refl, sym, ap, subst, slice_get}
use Rattle.std.proofs.lemmas.Bool.{cases_eq}
use Rattle.rv_text.specs.declared.call.Call.{Call}
use Rattle.rv_text.specs.declared.message.Key.{Key}
use Rattle.rv_text.specs.declared.answer.Reply.{Reply}
use Rattle.rv_text.specs.declared.answer.Reply.TheVariants as reply
use Rattle.rv_text.specs.declared.version.Version.{Version}
use Rattle.rv_session.specs.declared.client.LastRequest.{LastRequest}
use Rattle.rv_session.specs.declared.client.LastRequest.TheVariants.{CancelledUnseen, Fresh}
use Rattle.rv_session.specs.Clients.{place_waiting}
use Rattle.rv_account.specs.declared.entry.Act.{Act}
use Rattle.rv_account.specs.declared.entry.Act.TheVariants.{Arrive, Cancel, Hello, Tick}
use Rattle.rv_account.specs.state.After.{advanced, cancelled, closed, due_at, following, just_open, met_by}
use Rattle.rv_account.specs.state.After.{parked}
use Rattle.rv_account.specs.state.After.{request_after, settled_all, told_own, told_partner, with_last}
use Rattle.rv_account.specs.state.After.{with_open}
use Rattle.rv_account.specs.state.Follows.{IsNewIncarnation, NumberFits, NumberIsNext, NumberWaits}
use Rattle.rv_account.specs.state.State.{ClientState, OpenPlace, State, client_at, client_waits}
use Rattle.rv_account.proofs.OfState.MetPlaces.{met_there}
use Rattle.rv_account.proofs.OfState.Settling.{get_settled}
use Rattle.rv_account.proofs.OfState.Filtered.{get_map}
use Rattle.rv_account.proofs.OfState.Words.{none-some, same_Some}
use Rattle.rv_account.specs.state.resume.Resuming.{IsOpenIn}
use Rattle.rv_account.proofs.OfState.Resumed.Kept.{HoldsTogether, one_at}
use Rattle.rv_account.proofs.OfState.Resumed.Sessions.{put_other, put_own}
use Rattle.rv_account.proofs.OfState.Resumed.Stopping.{due_open, waits_found, waits_open}
use Rattle.rv_account.specs.state.waiting.Waiting.{IsListed, IsOver, SettlesJust, WaitsOn}
use Rattle.rv_account.proofs.OfState.OfWaiting.Carried.{IsSameOf, just_on, over_on, waits_on}
use Rattle.rv_account.proofs.OfState.OfWaiting.Closed.{closed_just, one_waits, waiter_waits}

-- ---- another client's last number

last_other : (x : State) (key : Key) (request : LastRequest) (o : Option ClientState) (other : Key)
    → other.client ≢ key.client → IsSameOf x (with_last x key request o) other
last_other x key request None other apart = record { epoch = refl; session = refl }
last_other x key request (Some session) other apart = record {
  epoch = refl;
  session = put_other x.clients key.client other.client _ apart;
}

pub none_settled : (s : State) → SettlesJust s s []
none_settled s = record { waits = λ key w. inl w; settled = λ key at. absurd (none-some key at.1) }

-- who waits has a place
waits_place : (s : State) (key : Key) (w : WaitsOn s key) → place_waiting w.session.request ≡ Some w.place
waits_place s key w = ap place_waiting w.waits

-- whose session's next number comes isn't one who waits
idle_apart : (s : State) (key other : Key) (session : ClientState) → client_at s key.client ≡ Some session
    → place_waiting session.request ≡ None → WaitsOn s other → other.client ≢ key.client
idle_apart s key other session known idle w same =
    let is : w.session ≡ session = same_Some _ _ (sym w.there ∙ ap (client_at s) same ∙ known) in
    none-some w.place (sym idle ∙ ap (λ (c : ClientState). place_waiting c.request) (sym is)
    ∙ waits_place s other w)

module _ (s : State) (is : HoldsTogether s) where
  -- ---- a tick

  tick_settles : (moment : ℕ)
      → SettlesJust s (following s moment Tick).after (following s moment Tick).settles
  tick_settles moment =
      let told = λ (there : OpenPlace) (key : Key). Some reply.TimedOut in
      let due = due_at s moment in
      just_on s (closed s due (settled_all told due)) (following s moment Tick).after (settled_all told due)
      (λ key w. record { epoch = refl; session = refl }) (closed_just s is due told (due_open s moment))

  -- ---- an arrival

  arrival_settles : (moment : ℕ) (key : Key) (c : Call) → NumberIsNext s key
      → SettlesJust s (following s moment (Arrive key c)).after (following s moment (Arrive key c)).settles
  arrival_settles moment key c next =
      let met = met_by s c in
      let told = told_partner s key c in
      let settles = settled_all told met in
      let own = told_own s key c met in
      let opens = with_open (closed s met settles) (parked s moment key c met) in
      just_on s (closed s met settles) (following s moment (Arrive key c)).after settles
      (λ other w.
      let kept = last_other opens key (request_after s.length c own) (client_at opens key.client) other
      (idle_apart s key other next.session next.of_session.there next.idle w) in
      record { epoch = kept.epoch; session = kept.session })
      (closed_just s is met told (met_there s c))

  -- ---- a hello and a cancel

  abbrev cancels : OpenPlace → Key → Option Reply
  cancels there key = Some reply.Cancelled

  just_among : (o : Option OpenPlace) → ((there : OpenPlace) → o ≡ Some there → IsOpenIn s there) → (i : ℕ)
      (there : OpenPlace) → slice_get (just_open o) i ≡ Some there → IsOpenIn s there
  just_among None is_open i there at = absurd (none-some there at)
  just_among (Some one) is_open zero there at = is_open there at
  just_among (Some one) is_open (suc i) there at = absurd (none-some there at)

  abbrev stopped_of : ℕ → State
  stopped_of client =
      closed s (just_open (client_waits s client)) (settled_all cancels (just_open (client_waits s client)))

  stops_just : (client : ℕ) → SettlesJust s (stopped_of client)
      (settled_all cancels (just_open (client_waits s client)))
  stops_just client =
      closed_just s is (just_open (client_waits s client)) cancels
      (just_among (client_waits s client) (waits_open s client))

  -- what waits of the client is settled
  stops_own : (key : Key) → WaitsOn s key
      → IsListed (settled_all cancels (just_open (client_waits s key.client))) key
  stops_own key w =
      let found = waits_found s is key.client w.session w.place w.there (waits_place s key w) in
      let stands = found.0 in
      let one : found.1 ≡ stands.there =
      one_at s is found.1 stands.there (waits_open s key.client found.1 found.2) stands.is_open found.3 in
      let own = one_waits s stands.waiter.key key
      (waiter_waits s stands.there stands.waiter (is.awaited stands.there stands.waiter stands.is_open
      stands.waits)) w stands.client_is in
      let at = get_settled cancels (just_open (client_waits s key.client)) 0 found.1 stands.waiter
      reply.Cancelled
      (ap (λ (o : Option OpenPlace). slice_get (just_open o) 0) found.2)
      (ap (λ (o : OpenPlace). o.waiter) one ∙ stands.waits) refl in
      (at.0, get_map _ _ at.0 _ at.1 ∙ ap Some own)

  module _ (moment client incarnation : ℕ) (version : Version) (new : IsNewIncarnation s client incarnation)
    where
      abbrev greeting : ClientState
      greeting = record { incarnation = incarnation; version = version; last = 0; request = Fresh }

      abbrev then : State
      then = (following s moment (Hello client incarnation version)).after

      -- the client's own request is over
      own_over : (key : Key) → WaitsOn s key → key.client ≡ client → IsOver then key
      own_over key w same = record {
        epoch = w.epoch;
        session = greeting;
        there = ap (client_at then) same ∙ put_own (stopped_of client).clients client greeting;
        over = inr (subst (λ n. n < incarnation) w.incarnation
            (new w.session (ap (client_at s) (sym same) ∙ w.there)));
      }

      other_same : (key : Key) → key.client ≢ client → IsSameOf (stopped_of client) then key
      other_same key apart = record {
        epoch = refl;
        session = put_other (stopped_of client).clients client key.client greeting apart;
      }

      hello_settles : SettlesJust s then (following s moment (Hello client incarnation version)).settles
      hello_settles = record {
        waits = λ key w. elim (cases_eq key.client client) [
          | inl same ↦ inr (
            own_over key w same,
            subst (λ n. IsListed (settled_all cancels (just_open (client_waits s n))) key) same
                (stops_own key w),
          )
          | inr apart ↦ elim ((stops_just client).waits key w) [
            | inl still ↦ inl (waits_on (stopped_of client) then key (other_same key apart) still)
            | inr over ↦ inr (over_on (stopped_of client) then key (other_same key apart) over.0, over.1)
          ]
        ];
        settled = λ key at.
            let is_over = (stops_just client).settled key at in
            elim (cases_eq key.client client) [
              | inl same ↦ (is_over.0, own_over key is_over.0 same)
              | inr apart ↦
                  (is_over.0, over_on (stopped_of client) then key (other_same key apart) is_over.1)
            ];
      }

  cancel_by : (moment : ℕ) (key : Key) → NumberWaits s key ⊎ NumberIsNext s key → (o : Option OpenPlace)
      → client_waits s key.client ≡ o
      → SettlesJust s (advanced (cancelled s key o).after moment) (cancelled s key o).settles
  cancel_by moment key number None none =
      just_on s s (advanced (cancelled s key None).after moment) []
      (λ other w.
      let kept = last_other s key CancelledUnseen (client_at s key.client) other (λ same.
      none-some _ (sym none ∙ ap (client_waits s) (sym same)
      ∙ (waits_found s is other.client w.session w.place w.there (waits_place s other w)).2)) in
      record { epoch = kept.epoch; session = kept.session }) (none_settled s)
  cancel_by moment key number (Some there) some =
      let gone = there ∷ [] in
      just_on s (closed s gone (settled_all cancels gone))
      (advanced (cancelled s key (Some there)).after moment) (settled_all cancels gone)
      (λ other w. record { epoch = refl; session = refl })
      (closed_just s is gone cancels (just_among (Some there) (λ one same.
      waits_open s key.client one (some ∙ same))))

  -- ---- an entry

  pub entry_settles : (moment : ℕ) (does : Act) → NumberFits s does
      → SettlesJust s (following s moment does).after (following s moment does).settles
  entry_settles moment (Hello client incarnation version) new =
      hello_settles moment client incarnation version new
  entry_settles moment (Arrive key c) next = arrival_settles moment key c next
  entry_settles moment (Cancel key) number = cancel_by moment key number (client_waits s key.client) refl
  entry_settles moment Tick number = tick_settles moment
