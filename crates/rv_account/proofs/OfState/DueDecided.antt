-- Whether a refusal of a step of a state is due, and whether a condition of its lines holds, is decided.
use Rattle.rv_account.proofs.OfState.Words.{◌≡◌, ◌<◌, ◌+◌, ◌≤◌, ◌⊎◌, ◌∷◌, ℕ, List, [], length, Option, Some}
use Rattle.rv_account.proofs.OfState.Words.{None}
use Rattle.rv_account.proofs.OfState.Words.{inl, inr, refl, sym, subst, arith, cases_lt, none-some}
use Rattle.rv_account.proofs.OfState.Words.{same_Some, Key}
use Rattle.rv_account.proofs.OfState.Words.{Call, Stays, Version, Refusal, State, OpenPlace, ClientState}
use Rattle.rv_account.proofs.OfState.Words.{client_at}
use Rattle.rv_account.proofs.OfState.Words.{place_waiting, IncarnationOld, OldIncarnation}
use Rattle.std.specs.Prelude.{◌≢◌}
use Rattle.std.specs.FinMap.{len}
use Rattle.rv_text.specs.declared.version.Version.TheVariants.{One, Two}
use Rattle.rv_text.specs.declared.answer.Refusal.TheVariants.{OtherEpoch, NoSession, OldNumber, OtherCall}
use Rattle.rv_text.specs.declared.answer.Refusal.TheVariants.{Busy, Gap, ClientsFull, EpochFull, NoMemory}
use Rattle.rv_text.specs.declared.answer.Refusal.TheVariants.{OtherVersion}
use Rattle.rv_text.proofs.Kept.{same_call}
use Rattle.rv_account.proofs.OfRules.Numbers.{same_or_not}
use Rattle.rv_account.specs.rules.StepLimits.{StepLimits}
use Rattle.rv_account.proofs.OfRules.Deciding.{stays_or_not}
use Rattle.rv_account.specs.state.State.{opposites, waiting_count}
use Rattle.rv_account.specs.state.Follows.{IsNewIncarnation, NumberWaits}
use Rattle.rv_account.specs.state.Moves.{EpochDiffers, SessionLacks, VersionDiffers, NumberOld, CallDiffers}
use Rattle.rv_account.specs.state.Moves.{SessionBusy, NumberAbove, NoClientMoreUnder, NoEntryMoreUnder}
use Rattle.rv_account.specs.state.Moves.{NoPlaceMore}
use Rattle.rv_account.specs.state.Moves.{NumberIsLast, HasSessionOf, call_asked}

-- a refusal is due, and it isn't want of memory
pub record IsDue (due : Refusal → Type 0) : Type 0 where
  pub refusal : Refusal
  pub is_due : due refusal
  pub in_memory : refusal ≢ NoMemory

abbrev pub DueOrNot : (Refusal → Type 0) → Type 0
DueOrNot due = IsDue due ⊎ ((refusal : Refusal) → due refusal → ⊥)

-- ---- what is decided of plain values

less_or_not : (m n : ℕ) → (m < n) ⊎ (m < n → ⊥)
less_or_not m n = elim (cases_lt m n) [ inl less ↦ inl less | inr most ↦ inr (λ less. omega arith) ]

most_or_not : (m n : ℕ) → (m ≤ n) ⊎ (m ≤ n → ⊥)
most_or_not m n = elim (cases_lt n m) [ inl less ↦ inr (λ most. omega arith) | inr most ↦ inl most ]

both_or_not : (P Q : Type 0) → P ⊎ (P → ⊥) → Q ⊎ (Q → ⊥) → (P × Q) ⊎ (P × Q → ⊥)
both_or_not P Q (inr none) second = inr (λ both. none both.0)
both_or_not P Q (inl first) (inl second) = inl (first, second)
both_or_not P Q (inl first) (inr none) = inr (λ both. none both.1)

either_or_not : (P Q : Type 0) → P ⊎ (P → ⊥) → Q ⊎ (Q → ⊥) → (P ⊎ Q) ⊎ (P ⊎ Q → ⊥)
either_or_not P Q (inl first) second = inl (inl first)
either_or_not P Q (inr none) (inl second) = inl (inr second)
either_or_not P Q (inr none) (inr neither) = inr (λ some. elim some [ inl p ↦ none p | inr q ↦ neither q ])

not_or_so : (P : Type 0) → P ⊎ (P → ⊥) → (P → ⊥) ⊎ ((P → ⊥) → ⊥)
not_or_so P (inl holds) = inr (λ none. none holds)
not_or_so P (inr none) = inl none

pub same_version : (v w : Version) → (v ≡ w) ⊎ (v ≡ w → ⊥)
same_version One One = inl refl
same_version One Two = inr (λ e. let no : ⊥ = cc in no)
same_version Two One = inr (λ e. let no : ⊥ = cc in no)
same_version Two Two = inl refl

module _ (A : Type 0) where
  -- a value that may be there is there
  abbrev IsThere : Option A → Type 0
  IsThere there = (x : A) × (there ≡ Some x)

  there_or_not : (there : Option A) → IsThere there ⊎ (IsThere there → ⊥)
  there_or_not None = inr (λ h. none-some h.0 h.1)
  there_or_not (Some x) = inl (x, refl)

  -- and has a property
  abbrev Holds : (A → Type 0) → Option A → Type 0
  Holds P there = (x : A) × (there ≡ Some x) × P x

  holds_or_not : (P : A → Type 0) → ((x : A) → P x ⊎ (P x → ⊥)) → (there : Option A)
      → Holds P there ⊎ (Holds P there → ⊥)
  holds_or_not P decide None = inr (λ h. none-some h.0 h.1)
  holds_or_not P decide (Some x) = elim (decide x) [
    | inl holds ↦ inl (x, refl, holds)
    | inr none ↦ inr (λ h. none (subst P (same_Some _ _ (sym h.1)) h.2))
  ]

-- ---- refusals

-- a refusal that is due by a session
session_due : (due : Refusal → Type 0) (there : Option ClientState) (P : ClientState → Type 0)
    (refusal : ClientState → Refusal) → ((x : ClientState) → P x ⊎ (P x → ⊥))
    → ((x : ClientState) → there ≡ Some x → P x → due (refusal x))
    → ((p : Refusal) → due p → Holds ClientState P there) → ((x : ClientState) → refusal x ≢ NoMemory)
    → DueOrNot due
session_due due there P refusal decide to from in_memory =
    elim (holds_or_not ClientState P decide there) [
      | inl holds ↦ inl (record {
        refusal = refusal holds.0;
        is_due = to holds.0 holds.1 holds.2;
        in_memory = in_memory holds.0;
      })
      | inr none ↦ inr (λ p is_due. none (from p is_due))
    ]

-- a refusal that is due on a condition
condition_due : (due : Refusal → Type 0) (P : Type 0) (refusal : Refusal) → P ⊎ (P → ⊥) → (P → due refusal)
    → ((p : Refusal) → due p → P) → refusal ≢ NoMemory → DueOrNot due
condition_due due P refusal (inl holds) to from in_memory =
    inl (record { refusal = refusal; is_due = to holds; in_memory = in_memory })
condition_due due P refusal (inr none) to from in_memory = inr (λ p is_due. none (from p is_due))

new_or_not : (incarnation : ℕ) (there : Option ClientState)
    → ((x : ClientState) → there ≡ Some x → x.incarnation < incarnation)
    ⊎ (((x : ClientState) → there ≡ Some x → x.incarnation < incarnation) → ⊥)
new_or_not incarnation None = inl (λ x is. absurd (none-some x is))
new_or_not incarnation (Some session) = elim (less_or_not session.incarnation incarnation) [
  | inl less ↦ inl (λ x is. subst (λ (y : ClientState). y.incarnation < incarnation) (same_Some _ _ is) less)
  | inr most ↦ inr (λ all. most (all session refl))
]

empty_or_not : (l : List OpenPlace) → (l ≡ []) ⊎ (l ≡ [] → ⊥)
empty_or_not [] = inl refl
empty_or_not (first ∷ others) = inr (λ is. let no : ⊥ = cc in no)

none_or_not : (there : Option ClientState) → (there ≡ None) ⊎ (there ≡ None → ⊥)
none_or_not None = inl refl
none_or_not (Some session) = inr (λ is. none-some session (sym is))

module _ (s : State) where
  pub epoch_decided : (key : Key) → DueOrNot (EpochDiffers s key)
  epoch_decided key =
      condition_due (EpochDiffers s key) (key.epoch ≢ s.epoch) (OtherEpoch s.epoch)
      (not_or_so _ (same_or_not key.epoch s.epoch)) (λ differs. (differs, refl)) (λ p due. due.0) (λ e. cc)

  pub lack_decided : (key : Key) → DueOrNot (SessionLacks s key)
  lack_decided key =
      condition_due (SessionLacks s key) (IsNewIncarnation s key.client key.incarnation) NoSession
      (new_or_not key.incarnation (client_at s key.client)) (λ lacks. (lacks, refl)) (λ p due. due.0)
      (λ e. cc)

  pub incarnation_decided : (client incarnation : ℕ) → DueOrNot (IncarnationOld s client incarnation)
  incarnation_decided client incarnation =
      session_due (IncarnationOld s client incarnation) (client_at s client)
      (λ x. incarnation < x.incarnation) (λ x. OldIncarnation x.incarnation)
      (λ x. less_or_not incarnation x.incarnation)
      (λ x there lower. record { session = x; there = there; lower = lower; is = refl })
      (λ p due. (due.session, due.there, due.lower)) (λ x e. cc)

  pub version_decided : (client incarnation : ℕ) (version : Version)
      → DueOrNot (VersionDiffers s client incarnation version)
  version_decided client incarnation version =
      session_due (VersionDiffers s client incarnation version) (client_at s client)
      (λ x. (x.incarnation ≡ incarnation) × (x.version ≢ version)) (λ x. OtherVersion x.version)
      (λ x. both_or_not _ _ (same_or_not x.incarnation incarnation)
      (not_or_so _ (same_version x.version version)))
      (λ x there h. record { session = x; there = there; same = h.0; other = h.1; is = refl })
      (λ p due. (due.session, due.there, (due.same, due.other))) (λ x e. cc)

  pub number_decided : (key : Key) → DueOrNot (NumberOld s key)
  number_decided key =
      session_due (NumberOld s key) (client_at s key.client) (λ x. (key.number < x.last) ⊎ (key.number ≡ 0))
      (λ x. OldNumber x.last)
      (λ x. either_or_not _ _ (less_or_not key.number x.last) (same_or_not key.number 0))
      (λ x there old. record { session = x; there = there; old = old; is = refl })
      (λ p due. (due.session, due.there, due.old)) (λ x e. cc)

  pub call_decided : (key : Key) (call : Call) → DueOrNot (CallDiffers s key call)
  call_decided key call =
      session_due (CallDiffers s key call) (client_at s key.client)
      (λ x. Holds Call (λ came. came ≢ call) (call_asked x.request)) (λ x. OtherCall)
      (λ x. holds_or_not Call (λ came. came ≢ call) (λ came. not_or_so _ (same_call came call))
      (call_asked x.request))
      (λ x there h. record {
        session = x;
        there = there;
        came = h.0;
        with_call = h.1;
        other = h.2;
        is = refl;
      })
      (λ p due. (due.session, due.there, (due.came, due.with_call, due.other))) (λ x e. cc)

  pub busy_decided : (key : Key) → DueOrNot (SessionBusy s key)
  busy_decided key =
      session_due (SessionBusy s key) (client_at s key.client)
      (λ x. IsThere ℕ (place_waiting x.request)) (λ x. Busy x.last)
      (λ x. there_or_not ℕ (place_waiting x.request))
      (λ x there h. record { session = x; there = there; place = h.0; waits = h.1; is = refl })
      (λ p due. (due.session, due.there, (due.place, due.waits))) (λ x e. cc)

  pub above_decided : (key : Key) → DueOrNot (NumberAbove s key)
  above_decided key =
      session_due (NumberAbove s key) (client_at s key.client) (λ x. x.last + 1 < key.number)
      (λ x. Gap x.last) (λ x. less_or_not (x.last + 1) key.number)
      (λ x there above. record { session = x; there = there; above = above; is = refl })
      (λ p due. (due.session, due.there, due.above)) (λ x e. cc)

  pub clients_decided : (limits : StepLimits) (client : ℕ) → DueOrNot (NoClientMoreUnder limits s client)
  clients_decided limits client =
      condition_due (NoClientMoreUnder limits s client)
      ((client_at s client ≡ None) × (limits.clients ≤ len s.clients)) ClientsFull
      (both_or_not _ _ (none_or_not (client_at s client)) (most_or_not limits.clients (len s.clients)))
      (λ h. record { is_new = h.0; full = h.1; is = refl }) (λ p due. (due.is_new, due.full)) (λ e. cc)

  pub room_decided : (limits : StepLimits) (need : ℕ) → DueOrNot (NoEntryMoreUnder limits s need)
  room_decided limits need =
      condition_due (NoEntryMoreUnder limits s need) (limits.entries < s.length + waiting_count s + need)
      EpochFull (less_or_not limits.entries (s.length + waiting_count s + need))
      (λ full. record { full = full; is = refl })
      (λ p due. due.full) (λ e. cc)

  pub places_decided : (most : ℕ) (call : Call) → DueOrNot (NoPlaceMore most s call)
  places_decided most call =
      condition_due (NoPlaceMore most s call)
      (Stays call × ((opposites s call ≡ []) × (most ≤ length s.open_places))) EpochFull
      (both_or_not _ _ (stays_or_not call)
      (both_or_not _ _ (empty_or_not (opposites s call)) (most_or_not most (length s.open_places))))
      (λ h. record { stays = h.0; alone = h.1.0; full = h.1.1; is = refl })
      (λ p due. (due.stays, (due.alone, due.full))) (λ e. cc)

  -- ---- conditions

  pub last_decided : (key : Key) → NumberIsLast s key ⊎ (NumberIsLast s key → ⊥)
  last_decided key =
      elim (holds_or_not ClientState (λ x. key.number ≡ x.last) (λ x. same_or_not key.number x.last)
      (client_at s key.client)) [
        | inl h ↦ inl (record { session = h.0; there = h.1; last = h.2 })
        | inr none ↦ inr (λ at. none (at.session, at.there, at.last))
      ]

  pub session_decided : (client incarnation : ℕ)
      → HasSessionOf s client incarnation ⊎ (HasSessionOf s client incarnation → ⊥)
  session_decided client incarnation =
      elim (holds_or_not ClientState (λ x. x.incarnation ≡ incarnation)
      (λ x. same_or_not x.incarnation incarnation) (client_at s client)) [
        | inl h ↦ inl (record { session = h.0; there = h.1; same = h.2 })
        | inr none ↦ inr (λ has. none (has.session, has.there, has.same))
      ]

  -- the session has the key's incarnation and last number, and its request waits
  abbrev WaitsUnder : Key → ClientState → Type 0
  WaitsUnder key x = (x.incarnation ≡ key.incarnation)
      × ((key.number ≡ x.last) × IsThere ℕ (place_waiting x.request))

  waits_under_or_not : (key : Key) (x : ClientState) → WaitsUnder key x ⊎ (WaitsUnder key x → ⊥)
  waits_under_or_not key x =
      both_or_not _ _ (same_or_not x.incarnation key.incarnation)
      (both_or_not _ _ (same_or_not key.number x.last) (there_or_not ℕ (place_waiting x.request)))

  pub waits_decided : (key : Key) → NumberWaits s key ⊎ (NumberWaits s key → ⊥)
  waits_decided key =
      elim (both_or_not _ _ (same_or_not key.epoch s.epoch)
      (holds_or_not ClientState (WaitsUnder key) (waits_under_or_not key) (client_at s key.client))) [
        | inl h ↦ inl (record {
          session = h.1.0;
          of_session = record { epoch = h.0; there = h.1.1; incarnation = h.1.2.0 };
          last = h.1.2.1.0;
          place = h.1.2.1.1.0;
          waits = h.1.2.1.1.1;
        })
        | inr none ↦ inr (λ w. none (
          w.of_session.epoch,
          (w.session, w.of_session.there, (w.of_session.incarnation, (w.last, (w.place, w.waits)))),
        ))
      ]
