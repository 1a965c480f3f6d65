-- Each refusal is due by a legal account exactly where it is due by its state.
use Rattle.rv_account.proofs.OfState.Words.{◌≡◌, ◌⊎◌, ◌+◌, ◌<◌, ◌≤◌, ◌∙◌, ◌∷◌, [], ℕ, List, length, Option}
use Rattle.rv_account.proofs.OfState.Words.{Some, None}
use Rattle.rv_account.proofs.OfState.Words.{refl, sym, ap, Among, Call, Open, OpenPlace, place_list}
use Rattle.rv_account.proofs.OfState.Words.{subst, arith, Refusal, OldIncarnation, Key, Version, Account}
use Rattle.rv_account.proofs.OfState.Words.{Legal}
use Rattle.rv_account.proofs.OfState.Words.{HasIncarnation, LastNumber, SaidHello, Waiting, ClientState}
use Rattle.rv_account.proofs.OfState.Words.{State}
use Rattle.rv_account.proofs.OfState.Words.{client_at, place_waiting, IncarnationOld, IsStateOf}
use Rattle.std.specs.FinMap.{len}
use Rattle.rv_text.specs.declared.answer.Refusal.TheVariants.{Busy, Gap, OldNumber, OtherEpoch, OtherVersion}
use Rattle.rv_account.specs.rules.Sessions.{HasOpened}
use Rattle.rv_account.specs.rules.StepLimits.{StepLimits}
use Rattle.rv_account.specs.rules.Steps.{BusyDue, ClientsFullDueUnder, EpochFullDueUnder, GapDue}
use Rattle.rv_account.specs.rules.Steps.{NoSessionDue}
use Rattle.rv_account.specs.rules.Legal.{IsOpenOpposite}
use Rattle.rv_account.specs.rules.Steps.{OldIncarnationDue, OldNumberDue, OtherEpochDue, OtherVersionDue}
use Rattle.rv_account.specs.rules.Steps.{PlacesFullDue}
use Rattle.rv_account.proofs.OfRules.Naming.{among_none}
use Rattle.rv_account.proofs.OfRules.Counting.{one_number}
use Rattle.rv_account.proofs.OfRules.Keys.{act_arrives}
use Rattle.rv_account.proofs.OfRules.Versions.{one_opened}
use Rattle.rv_account.specs.state.Moves.{EpochDiffers, HasSessionOf, NoClientMoreUnder, NoEntryMoreUnder}
use Rattle.rv_account.specs.state.Moves.{NoPlaceMore, NumberAbove}
use Rattle.rv_account.specs.state.Moves.{NumberIsLast, NumberOld, SessionBusy, SessionLacks, VersionDiffers}
use Rattle.rv_account.specs.state.State.{opposites, waiting_count}
use Rattle.rv_account.proofs.OfState.Counted.{clients_number, open_number, wait_queues_number}
use Rattle.rv_account.proofs.OfState.ClientParts.{above_to_lower, client_known, client_new, has_said}
use Rattle.rv_account.proofs.OfState.ClientParts.{lower_to_above}
use Rattle.rv_account.proofs.OfState.ClientParts.{said_known, same_incarnation, same_last}
use Rattle.rv_account.proofs.OfState.ClientParts.{session_incarnation}
use Rattle.rv_account.proofs.OfState.NamedPlaces.{opposite_from, opposite_to}
use Rattle.rv_account.proofs.OfState.NumbersBoth.{waits_known}
use Rattle.rv_account.proofs.OfState.Sessions.{waits_in_state}

module _ (a : Account) (s : State) (legal : Legal a) (state : IsStateOf a s) where
  -- ---- epochs

  pub epoch_to : (key : Key) (refusal : Refusal) → OtherEpochDue a key refusal → EpochDiffers s key refusal
  epoch_to key refusal due = ((λ same. due.0 (same ∙ state.epoch)), due.1 ∙ ap OtherEpoch (sym state.epoch))

  pub epoch_from : (key : Key) (refusal : Refusal) → EpochDiffers s key refusal → OtherEpochDue a key refusal
  epoch_from key refusal due = ((λ same. due.0 (same ∙ sym state.epoch)), due.1 ∙ ap OtherEpoch state.epoch)

  -- ---- sessions

  pub lacks_to : (key : Key) (refusal : Refusal) → NoSessionDue a key refusal → SessionLacks s key refusal
  lacks_to key refusal due = (lower_to_above a s key.client key.incarnation state due.0, due.1)

  pub lacks_from : (key : Key) (refusal : Refusal) → SessionLacks s key refusal → NoSessionDue a key refusal
  lacks_from key refusal due = (above_to_lower a s key.client key.incarnation legal state due.0, due.1)

  pub incarnation_to : (client incarnation : ℕ) (refusal : Refusal)
      → OldIncarnationDue a client incarnation refusal → IncarnationOld s client incarnation refusal
  incarnation_to client incarnation refusal due =
      let known = said_known a s client state (has_said a client due.current due.has) in
      let same : known.0.incarnation ≡ due.current =
      same_incarnation a s client due.current known.0 state known.1 due.has in
      let lower : incarnation < due.current = due.lower in
      record {
        session = known.0;
        there = known.1;
        lower = omega arith;
        is = due.is ∙ ap OldIncarnation (sym same);
      }

  pub incarnation_from : (client incarnation : ℕ) (refusal : Refusal)
      → IncarnationOld s client incarnation refusal → OldIncarnationDue a client incarnation refusal
  incarnation_from client incarnation refusal due = record {
    current = due.session.incarnation;
    has = session_incarnation a s client due.session state due.there;
    lower = due.lower;
    is = due.is;
  }

  pub version_to : (client incarnation : ℕ) (version : Version) (refusal : Refusal)
      → OtherVersionDue a client incarnation version refusal
      → VersionDiffers s client incarnation version refusal
  version_to client incarnation version refusal due =
      let has : HasIncarnation a.entries client incarnation = (due.has.h, due.has.last) in
      let known = said_known a s client state (has_said a client incarnation has) in
      let same : known.0.version ≡ due.current =
      one_opened a.entries client known.0.incarnation incarnation known.0.version due.current
      (client_known a s client known.0 state known.1).opened due.has in
      record {
        session = known.0;
        there = known.1;
        same = same_incarnation a s client incarnation known.0 state known.1 has;
        other = λ is. due.other (sym same ∙ is);
        is = due.is ∙ ap OtherVersion (sym same);
      }

  pub version_from : (client incarnation : ℕ) (version : Version) (refusal : Refusal)
      → VersionDiffers s client incarnation version refusal
      → OtherVersionDue a client incarnation version refusal
  version_from client incarnation version refusal due = record {
    current = due.session.version;
    has = subst (λ i. HasOpened a.entries client i due.session.version) due.same
        (client_known a s client due.session state due.there).opened;
    other = due.other;
    is = due.is;
  }

  pub has_to : (client incarnation : ℕ) → HasIncarnation a.entries client incarnation
      → HasSessionOf s client incarnation
  has_to client incarnation has =
      let known = said_known a s client state (has_said a client incarnation has) in
      record {
        session = known.0;
        there = known.1;
        same = same_incarnation a s client incarnation known.0 state known.1 has;
      }

  pub has_from : (client incarnation : ℕ) → HasSessionOf s client incarnation
      → HasIncarnation a.entries client incarnation
  has_from client incarnation has =
      subst (HasIncarnation a.entries client) has.same
      (session_incarnation a s client has.session state has.there)

  -- ---- numbers

  -- a client with a last number has a session, whose last number that is
  pub last_known : (client last : ℕ) → LastNumber a.entries client last
      → (session : ClientState) × (client_at s client ≡ Some session) × (session.last ≡ last)
  last_known client last is =
      let known = said_known a s client state (has_said a client is.incarnation (is.h, is.hello)) in
      (known.0, known.1, same_last a s client last known.0 state known.1 is)

  pub old_to : (key : Key) (refusal : Refusal) → OldNumberDue a key refusal → NumberOld s key refusal
  old_to key refusal due =
      let known = last_known key.client due.last due.is_last in
      record {
        session = known.0;
        there = known.1;
        old = subst (λ n. (key.number < n) ⊎ (key.number ≡ 0)) (sym known.2) due.old;
        is = due.is ∙ ap OldNumber (sym known.2);
      }

  pub old_from : (key : Key) (refusal : Refusal) → NumberOld s key refusal → OldNumberDue a key refusal
  old_from key refusal due = record {
    last = due.session.last;
    is_last = (client_known a s key.client due.session state due.there).last;
    old = due.old;
    is = due.is;
  }

  pub last_to : (key : Key) → LastNumber a.entries key.client key.number → NumberIsLast s key
  last_to key is =
      let known = last_known key.client key.number is in
      record { session = known.0; there = known.1; last = sym known.2 }

  pub last_from : (key : Key) → NumberIsLast s key → LastNumber a.entries key.client key.number
  last_from key is =
      subst (LastNumber a.entries key.client) (sym is.last)
      (client_known a s key.client is.session state is.there).last

  pub busy_to : (key : Key) (refusal : Refusal) → BusyDue a key refusal → SessionBusy s key refusal
  busy_to key refusal due =
      let waits = due.waits in
      let w = waits.waits in
      let of_client : waits.key.client ≡ key.client = waits.names.of_client in
      let arrived = act_arrives _ waits.key w.is_open.call waits.names.named w.is_open.arrived in
      let is = waits_in_state a s waits.key w.is_open.call waits.place legal state arrived w in
      let there : client_at s key.client ≡ Some is.session = ap (client_at s) (sym of_client) ∙ is.there in
      let last : is.session.last ≡ due.last =
      same_last a s key.client due.last is.session state there due.is_last in
      record {
        session = is.session;
        there = there;
        place = waits.place;
        waits = ap place_waiting is.request;
        is = due.is ∙ ap Busy (sym last);
      }

  pub busy_from : (key : Key) (refusal : Refusal) → SessionBusy s key refusal → BusyDue a key refusal
  busy_from key refusal due = record {
    last = due.session.last;
    is_last = (client_known a s key.client due.session state due.there).last;
    waits = waits_known a s key.client due.place due.session legal state due.there due.waits;
    is = due.is;
  }

  pub gap_to : (key : Key) (refusal : Refusal) → GapDue a key refusal → NumberAbove s key refusal
  gap_to key refusal due =
      let known = last_known key.client due.last due.is_last in
      let same : known.0.last ≡ due.last = known.2 in
      let above : due.last + 1 < key.number = due.above in
      record { session = known.0; there = known.1; above = omega arith; is = due.is ∙ ap Gap (sym same) }

  pub gap_from : (key : Key) (refusal : Refusal) → NumberAbove s key refusal → GapDue a key refusal
  gap_from key refusal due = record {
    last = due.session.last;
    is_last = (client_known a s key.client due.session state due.there).last;
    above = due.above;
    is = due.is;
  }

  -- ---- how many

  new_by : (client : ℕ) (o : Option ClientState) → client_at s client ≡ o → (SaidHello a.entries client → ⊥)
      → o ≡ None
  new_by client None is new = refl
  new_by client (Some session) is new =
      absurd (new (has_said a client session.incarnation (session_incarnation a s client session state is)))

  pub clients_to : (limits : StepLimits) (client : ℕ) (refusal : Refusal)
      → ClientsFullDueUnder limits a client refusal → NoClientMoreUnder limits s client refusal
  clients_to limits client refusal due =
      let same : due.clients ≡ len s.clients =
      one_number (SaidHello a.entries) due.clients (len s.clients) due.count (clients_number a s state) in
      let full : limits.clients ≤ due.clients = due.full in
      record { is_new = new_by client (client_at s client) refl due.is_new; full = omega arith; is = due.is }

  pub clients_from : (limits : StepLimits) (client : ℕ) (refusal : Refusal)
      → NoClientMoreUnder limits s client refusal → ClientsFullDueUnder limits a client refusal
  clients_from limits client refusal due = record {
    is_new = client_new a s client state due.is_new;
    clients = len s.clients;
    count = clients_number a s state;
    full = due.full;
    is = due.is;
  }

  pub full_to : (limits : StepLimits) (need : ℕ) (refusal : Refusal)
      → EpochFullDueUnder limits a need refusal → NoEntryMoreUnder limits s need refusal
  full_to limits need refusal due =
      let same : due.waiting ≡ waiting_count s =
      one_number (Waiting a.entries) due.waiting (waiting_count s) due.count (wait_queues_number a s state) in
      let full : limits.entries < length a.entries + due.waiting + need = due.full in
      let long : s.length ≡ length a.entries = state.length in
      record { full = omega arith; is = due.is }

  pub full_from : (limits : StepLimits) (need : ℕ) (refusal : Refusal)
      → NoEntryMoreUnder limits s need refusal → EpochFullDueUnder limits a need refusal
  full_from limits need refusal due =
      let full : limits.entries < s.length + waiting_count s + need = due.full in
      let long : s.length ≡ length a.entries = state.length in
      record {
        waiting = waiting_count s;
        count = wait_queues_number a s state;
        full = omega arith;
        is =
            due.is;
      }

  -- ---- what is open

  none_by : (call : Call) (there : List OpenPlace) → opposites s call ≡ there
      → ((p : ℕ) → IsOpenOpposite a.entries call p → ⊥) → there ≡ []
  none_by call [] is alone = refl
  none_by call (first ∷ others) is alone =
      absurd (alone first.place (opposite_from a s state call first.place
      (subst (λ (l : List OpenPlace). Among (place_list l) first.place) (sym is) (0, refl))))

  pub places_to : (most : ℕ) (call : Call) (refusal : Refusal) → PlacesFullDue most a call refusal
      → NoPlaceMore most s call refusal
  places_to most call refusal due =
      let same : due.places ≡ length s.open_places =
      one_number (Open a.entries) due.places (length s.open_places) due.count (open_number a s state) in
      let full : most ≤ due.places = due.full in
      record {
        stays = due.would_stay.stays;
        alone = none_by call (opposites s call) refl due.would_stay.alone;
        full = omega arith;
        is = due.is;
      }

  pub places_from : (most : ℕ) (call : Call) (refusal : Refusal) → NoPlaceMore most s call refusal
      → PlacesFullDue most a call refusal
  places_from most call refusal due = record {
    would_stay = record {
      stays = due.stays;
      alone = λ p partner. among_none (place_list (opposites s call)) p (ap place_list due.alone)
          (opposite_to a s state call p partner);
    };
    places = length s.open_places;
    count = open_number a s state;
    full = due.full;
    is = due.is;
  }
