-- What the tables of an audit say of the account that was passed, by its state.
use Rattle.rv_audit.proofs.Words.{Call, then_some, not, WaitsUnder, IsOpenOpposite}
use Rattle.rv_audit.proofs.Words.{◌≡◌, ◌<◌, ◌≤◌, ◌∙◌, ℕ, Bool, true, false, nat_eq, List, Option, Some}
use Rattle.rv_audit.proofs.Words.{None, IsSome, refl, sym, ap, subst, arith, option_and_then, false≢true}
use Rattle.rv_audit.proofs.Words.{nat_tests}
use Rattle.rv_audit.proofs.Words.{none-some, same_Some, Key, Side, side_of}
use Rattle.rv_audit.proofs.Words.{Entry}
use Rattle.rv_audit.proofs.Words.{Account, Front, IsFront, IsOpenable, OpenAt, SomethingDue, Waiting}
use Rattle.rv_audit.proofs.Words.{AuditSession, ClientWaitsAt, HasWaiting, IfNone, IfSome, IsTrue}
use Rattle.rv_audit.proofs.Words.{NoneUntil, one_side, opposite, passed_account, stands_in, key_in}
use Rattle.std.proofs.Common.{◌↔◌, ◌^◌, is_some, option_map}
use Rattle.std.specs.Option.{option_eq}
use Rattle.rv_text.specs.declared.call.Wait.{Wait}
use Rattle.rv_account.specs.Account.{key_at, limit_at}
use Rattle.rv_account.specs.rules.Legal.{IsDueAt}
use Rattle.rv_account.specs.rules.Sessions.{HasIncarnation, LastNumber, SaidHello}
use Rattle.rv_account.specs.rules.Waiting.{SideAt}
use Rattle.rv_account.specs.state.State.{ClientState, OpenPlace, State, Waiter, client_at, open_at}
use Rattle.rv_account.specs.state.State.{place_waiting}
use Rattle.rv_account.specs.state.State.{same_side}
use Rattle.rv_account.specs.state.After.{state_of, waiter_of}
use Rattle.rv_account.specs.state.Agreement.{IsArrival, IsStateOf, TellsWaiting}
use Rattle.rv_account.proofs.OfState.Agreed.{agreed}
use Rattle.rv_account.proofs.OfState.ClientParts.{account_to_session}
use Rattle.rv_account.proofs.OfState.Due.{due_of_place}
use Rattle.rv_account.proofs.OfState.Filtered.{chained_there, find_get, mapped_there}
use Rattle.rv_account.specs.state.Follows.{InSession}
use Rattle.rv_account.proofs.OfState.NumbersBoth.{none_waits, waits_to_account, waits_to_state}
use Rattle.rv_account.proofs.OfState.Sessions.{found_open, open_found}
use Rattle.rv_account.proofs.OfState.SideLines.{same_side_is, same_side_itself}
use Rattle.rv_account.proofs.OfState.StateLaws.{states_tell_waiting}
use Rattle.rv_audit.specs.Lines.{IsFirstBeside, NobodyBeside}
use Rattle.rv_audit.specs.Marks.{IsUntil}
use Rattle.rv_audit.specs.Opens.{AuditOpen, ends_at, is_limit, is_on, opening_at}
use Rattle.rv_audit.specs.Passed.{IsAuditedIf, IsOldestOpposite, IsOfSessionOf, fitting, opening_of}
use Rattle.rv_audit.specs.Sessions.{session_in}

-- ---- sides

side_there : (es : List Entry) (there : OpenPlace) (r : ℕ) → there.place ≡ r → IsArrival es there
    → SideAt es there.side r
side_there es there r at is = grind arith

-- what is open meets another side
pub open_meets : (es : List Entry) (side : Side) (r : ℕ) → OpenAt es side r → IsSome (opposite side)
open_meets es side r there = grind arith

-- and the other side that a call meets
opposed_at : (es : List Entry) (call : Call) (side : Side) (r : ℕ) → opposite (side_of call) ≡ Some side
    → IsOpenOpposite es call r → OpenAt es side r
opposed_at es call side r opposes there = grind arith

-- ---- limits

fits_back : (limit : Option ℕ) (n : ℕ) → is_limit n (fitting limit) ≡ true → limit ≡ Some n
fits_back = grind arith

fits_on : (n : ℕ) → n < 18446744073709551616 → is_limit n (fitting (Some n)) ≡ true
fits_on n fits = grind arith

-- ---- who waits

waiter_key : (key : Key) (moment : ℕ) (wait : Option Wait) (w : Waiter) → waiter_of key moment wait ≡ Some w
    → w.key ≡ key
waiter_key = grind arith

some_waiter : (o : Option Waiter) → IsSome o → (w : Waiter) × (o ≡ Some w)
some_waiter None some = absurd (false≢true some)
some_waiter (Some w) some = (w, refl)

module _ (front : Front) (is : IsFront front) where
  abbrev a : Account
  a = passed_account front

  abbrev s : State
  s = state_of a

  state : IsStateOf a s
  state = agreed a is.legal

  tells : TellsWaiting a s
  tells = states_tell_waiting a is.legal

  -- ---- lines

  on_side : (side : Side) (r : ℕ) (o : Option OpenPlace) → open_at s r ≡ o
      → (is_on side (option_map opening_of o) ≡ true) ↔ OpenAt a.entries side r
  on_side side r None at = (
    λ on. absurd (false≢true on),
    λ opened. let found = open_found a s r state opened.is_open in
        absurd (none-some found.there (sym at ∙ found.found)),
  )
  on_side side r (Some there) at =
      let found = found_open a s r there state at in
      let own = side_there a.entries there r found.0 found.2 in (
        λ on. record {
          of_side = subst (λ t. SideAt a.entries t r) (same_side_is there.side side on) own;
          is_open = found.1;
        },
        λ opened. ap (λ t. same_side t side) (one_side a.entries there.side side r own opened.of_side)
            ∙ same_side_itself side,
      )

  line_says : (side : Side) (r : ℕ) → IsOpenable side
      → (stands_in front.opens.lines side r ≡ true) ↔ OpenAt a.entries side r
  line_says side r openable =
      let told = is.indexed.lined side r openable ∙ ap (is_on side) (is.opens r) in
      let says = on_side side r (open_at s r) refl in
      ((λ stands. says.0 (sym told ∙ stands)), (λ opened. told ∙ says.1 opened))

  pub lines_say : (side : Side) (r : ℕ) → (stands_in front.opens.lines side r ≡ true) ↔ OpenAt a.entries side
      r
  lines_say = grind (arith, line_says, open_meets)

  pub oldest_said : (call : Call) (places : List ℕ) (side : Side) (first : Option ℕ)
      → opposite (side_of call) ≡ Some side → IfSome first (IsFirstBeside front.opens.lines side places)
      → IfNone first (NobodyBeside front.opens.lines side places)
      → IsOldestOpposite a.entries call places first
  oldest_said call places side None opposes some none = λ r there.
      none r ((lines_say side r).1 (opposed_at a.entries call side r opposes there))
  oldest_said call places side (Some p) opposes some none = (
    record { side = side; opposes = opposes; there = (lines_say side p).0 some.there },
    some.beside,
    λ r less there. some.lowest r less ((lines_say side r).1 (opposed_at a.entries call side r opposes
        there)),
  )

  -- ---- limits

  ends_there : (moment r n : ℕ) (o : Option OpenPlace) → open_at s r ≡ o
      → ends_at n (option_map opening_of o) ≡ true → n ≤ moment → IsDueAt a.entries moment r
  ends_there moment r n None at ends most = absurd (false≢true ends)
  ends_there moment r n (Some there) at ends most =
      let found = find_get (λ (o : OpenPlace). nat_eq o.place r) s.open_places there at in
      due_of_place a s moment r state (record {
        i = found.0;
        there = there;
        stands = found.1;
        at_place = (found_open a s r there state at).0;
        limit = n;
        has = fits_back there.limit n ends;
        elapsed = most;
      })

  ends_at_limit : (moment r : ℕ) (due : IsDueAt a.entries moment r) → moment < 18446744073709551616
      → ends_at due.limit (opening_at front.opens r) ≡ true
  ends_at_limit moment r due fits =
      let found = open_found a s r state due.waits.is_open in
      let has = found.arrival.limit ∙ ap (limit_at a.entries) found.at_place ∙ due.has in
      let elapsed : due.limit ≤ moment = due.elapsed in
      ap (ends_at due.limit) (is.opens r ∙ ap (option_map opening_of) found.found)
      ∙ ap (λ o. is_limit due.limit (fitting o)) has ∙ fits_on due.limit (omega arith)

  pub some_due : (moment : ℕ) (found : Option ℕ) → moment < 2 ^ 64
      → IfSome found (IsUntil front.opens.limits moment) → IfNone found (NoneUntil front.opens.limits moment)
      → IsTrue (is_some found) ↔ SomethingDue a.entries moment
  some_due moment (Some r) fits some none = (
    λ yes_some. (
      r,
      ends_there moment r some.0 (open_at s r) refl
          (sym (is.indexed.limited some.0 r ∙ ap (ends_at some.0) (is.opens r)) ∙ some.1) some.2,
    ),
    λ due. refl,
  )
  some_due moment None fits some none = (
    λ yes_some. absurd (false≢true yes_some),
    λ due.
        let d = due.1 in
        let marked = is.indexed.limited d.limit due.0 ∙ ends_at_limit moment due.0 d fits in
        absurd (false≢true (sym (none d.limit due.0 d.elapsed) ∙ marked)),
  )

  -- ---- who waits

  abbrev client_in : ℕ → Option ℕ
  client_in r = option_and_then (λ (o : AuditOpen). o.client) (opening_at front.opens r)

  waits_by : (client r : ℕ) (o : Option OpenPlace) → open_at s r ≡ o
      → option_and_then (λ (o : AuditOpen). o.client) (option_map opening_of o) ≡ Some client
      → ClientWaitsAt a.entries client r
  waits_by client r None at waits = absurd (none-some client waits)
  waits_by client r (Some there) at waits =
      let found = found_open a s r there state at in
      let stands = find_get (λ (o : OpenPlace). nat_eq o.place r) s.open_places there at in
      let w = mapped_there (λ (w : Waiter). w.key.client) there.waiter client waits in
      let arrival = found.2 in
      let own = waiter_key arrival.key arrival.moment _ w.0 (sym arrival.waiter ∙ w.1) in
      subst (ClientWaitsAt a.entries client) found.0 (record {
        key = arrival.key;
        waits = (tells.waiting stands.0 there stands.1).1 (ap is_some w.1);
        names = record {
          named = ap (option_and_then key_in) arrival.arrived;
          of_client = ap (λ (k : Key). k.client) (sym own) ∙ w.2;
        };
      })

  pub waits_said : (client r : ℕ) → client_in r ≡ Some client → ClientWaitsAt a.entries client r
  waits_said = grind (arith, waits_by)

  asked_at : (client q : ℕ) (c : ClientState) (o : Option ClientState) (t : Option AuditSession)
      → IsAuditedIf o t → o ≡ Some c → place_waiting c.request ≡ Some q
      → option_and_then (λ (x : AuditSession). x.request) t ≡ Some q
  asked_at = grind arith

  -- its session and its place say where a request waits
  pub waits_told : (client : ℕ) (w : HasWaiting a.entries client)
      → (option_and_then (λ (x : AuditSession). x.request) (session_in front.sessions client) ≡ Some w.place)
      × (client_in w.place ≡ Some client)
  waits_told client w =
      let said = (tells.of_client client w.place).0
      (record { key = w.key; waits = w.waits; names = w.names }) in
      let by = chained_there (open_at s) _ said.0 said.1 in
      let asks = chained_there (λ (c : ClientState). place_waiting c.request) (client_at s client) by.0 by.1
      in
      let found = found_open a s by.0 said.0 state by.2 in
      let here : by.0 ≡ w.place = sym found.0 ∙ said.2 in
      let stands = find_get (λ (o : OpenPlace). nat_eq o.place by.0) s.open_places said.0 by.2 in
      let waiter = some_waiter said.0.waiter ((tells.waiting stands.0 said.0 stands.1).0
      (subst (Waiting a.entries) (sym said.2) w.waits)) in
      let own = waiter_key found.2.key found.2.moment _ waiter.0 (sym found.2.waiter ∙ waiter.1) in
      let key : found.2.key ≡ w.key = same_Some _ _ (sym (ap (option_and_then key_in) found.2.arrived)
      ∙ ap (λ r. key_at a.entries r) said.2 ∙ w.names.named) in (
        asked_at client w.place asks.0 (client_at s client) (session_in front.sessions client)
            (is.sessions client) asks.1 (asks.2 ∙ ap Some here),
        ap (λ r. client_in r) (sym here)
            ∙ ap (option_and_then (λ (o : AuditOpen). o.client)) (is.opens by.0
            ∙ ap (option_map opening_of) by.2)
            ∙ ap (option_map (λ (x : Waiter). x.key.client)) waiter.1
            ∙ ap Some (ap (λ (k : Key). k.client) (own ∙ key) ∙ w.names.of_client),
      )

-- where a request waits, by a test of that place
is_one : (o : Option ℕ) (n : ℕ) → option_eq nat_eq o (Some n) ≡ true → o ≡ Some n
is_one = grind arith

one_is : (o : Option ℕ) (n : ℕ) → o ≡ Some n → option_eq nat_eq o (Some n) ≡ true
one_is = grind arith

pub waiting_some : (front : Front) (client r : ℕ) (o : Option ℕ) (b : Bool) → IsFront front
    → o ≡ option_and_then (λ (o : AuditOpen). o.client) (opening_at front.opens r)
    → b ≡ option_eq nat_eq o (Some client)
    → IfSome (then_some b r) (ClientWaitsAt (passed_account front).entries client)
waiting_some = grind (arith, is_one, waits_said)

pub waiting_none : (front : Front) (client r : ℕ) (o : Option ℕ) (b : Bool) → IsFront front
    → Some r ≡ option_and_then (λ (x : AuditSession). x.request) (session_in front.sessions client)
    → o ≡ option_and_then (λ (o : AuditOpen). o.client) (opening_at front.opens r)
    → b ≡ option_eq nat_eq o (Some client)
    → IfNone (then_some b r) (HasWaiting (passed_account front).entries client → ⊥)
waiting_none front client r o true is there at test = tt
waiting_none front client r o false is there at test = λ w.
    let told = waits_told front is client w in
    let same : w.place ≡ r = same_Some _ _ (sym told.0 ∙ sym there) in
    false≢true (test ∙ one_is o client (at
    ∙ ap (λ q. option_and_then (λ (o : AuditOpen). o.client) (opening_at front.opens q)) (sym same) ∙ told.1))

-- ---- sessions

-- what is known of a client whose session it is
pub record IsKnown (entries : List Entry) (client : ℕ) (s : AuditSession) : Type 0 where
  pub incarnation : HasIncarnation entries client s.incarnation
  pub number : LastNumber entries client s.last

abbrev pub IsKnownIf : List Entry → ℕ → Option AuditSession → Type 0
IsKnownIf entries client None = SaidHello entries client → ⊥
IsKnownIf entries client (Some t) = IsKnown entries client t

known_by : (a : Account) (s : State) (client : ℕ) (o : Option ClientState) (t : Option AuditSession)
    → IsStateOf a s → client_at s client ≡ o → IsAuditedIf o t → IsKnownIf a.entries client t
known_by = grind arith

pub same_last : (o : Option ClientState) (u : Option AuditSession) (c : ClientState) (t : AuditSession)
    → IsAuditedIf o u → o ≡ Some c → u ≡ Some t → t.last ≡ c.last
same_last = grind arith

-- whether the key is that of the request which waits in its session
pub otherwise : (front : Front) (key : Key) (t : AuditSession) → IsFront front
    → IsOfSessionOf (passed_account front) key → HasWaiting (passed_account front).entries key.client
    → session_in front.sessions key.client ≡ Some t
    → IsTrue (not (nat_eq key.number t.last)) ↔ (WaitsUnder (passed_account front).entries key → ⊥)
otherwise front key t is of w session = by_test (nat_eq key.number t.last) refl
  where
    own : (c : ClientState) × InSession (state_of (passed_account front)) key c
    own = account_to_session (passed_account front) (state_of (passed_account front)) key
        (agreed (passed_account front) is.legal) of.0 of.1

    last : t.last ≡ own.0.last
    last = same_last (client_at (state_of (passed_account front)) key.client) (session_in front.sessions
        key.client) own.0 t
        (is.sessions key.client) own.1.there session

    waits_with : (o : Option ℕ) → place_waiting own.0.request ≡ o → key.number ≡ t.last
        → WaitsUnder (passed_account front).entries key
    waits_with None idle same = absurd (none_waits (passed_account front) (state_of (passed_account front))
        key.client own.0 is.legal (agreed (passed_account front) is.legal) own.1.there
        idle w)
    waits_with (Some p) waits same = waits_to_account (passed_account front) (state_of (passed_account front))
        key is.legal (agreed (passed_account front) is.legal) (record {
          session = own.0;
          of_session = own.1;
          last = same ∙ last;
          place = p;
          waits = waits;
        })

    under : WaitsUnder (passed_account front).entries key → key.number ≡ t.last
    under waits =
        let number = waits_to_state (passed_account front) (state_of (passed_account front)) key is.legal
        (agreed (passed_account front) is.legal) waits in
        let same = same_Some _ _ (sym number.of_session.there ∙ own.1.there) in
        number.last ∙ ap (λ (c : ClientState). c.last) same ∙ sym last

    by_test : (b : Bool) → nat_eq key.number t.last ≡ b
        → IsTrue (not b) ↔ (WaitsUnder (passed_account front).entries key → ⊥)
    by_test true same = (
      λ t. absurd (false≢true t),
      λ other. absurd (other (waits_with (place_waiting own.0.request) refl (grind (arith, nat_tests)))),
    )
    by_test false apart = (
      λ t waits. let same = under waits in grind (arith, nat_tests),
      λ other. refl,
    )

pub known : (front : Front) (client : ℕ) → IsFront front
    → IsKnownIf (passed_account front).entries client (session_in front.sessions client)
known front client is = known_by (passed_account front) (state_of (passed_account front)) client
    (client_at (state_of (passed_account front)) client) (session_in front.sessions client)
    (agreed (passed_account front) is.legal) refl (is.sessions client)
