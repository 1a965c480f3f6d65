-- Whether something is due at a moment, told by the first moment at which something is.
use Rattle.std.proofs.Common.{◌≡◌, ◌≢◌, ◌≤◌, ◌∷◌, ℕ, Bool, true, false, not, List, [], refl, sym, ap}
use Rattle.std.proofs.Common.{subst, arith, IsTrue}
use Rattle.std.proofs.Common.{nat_le}
use Rattle.std.proofs.lemmas.Bool.{false≢true}
use Rattle.std.proofs.lemmas.Bool.Decides.{nat_tests}
use Rattle.rv_text.specs.declared.version.Version.{Version}
use Rattle.rv_text.specs.declared.message.Key.{Key}
use Rattle.rv_text.specs.declared.call.Call.{Call}
use Rattle.rv_account.specs.Account.{Among}
use Rattle.rv_account.specs.declared.entry.Act.{Act}
use Rattle.rv_account.specs.declared.entry.Act.TheVariants.{Arrive, Cancel, Hello, Tick}
use Rattle.rv_account.proofs.OfRules.Naming.{among_none}
use Rattle.rv_account.specs.state.After.{due_at}
use Rattle.rv_account.specs.state.Follows.{DueOnlyAtTick}
use Rattle.rv_account.specs.state.State.{OpenPlace, State, place_list}
use Rattle.rv_account.proofs.OfState.DueAt.{due_place, place_due}
use Rattle.rv_account.proofs.OfState.PlacesLeft.{among_place}
use Rattle.rv_machine.specs.Redoing.{IsNextLimit}

abbrev pub Iff : Type 0 → Type 0 → Type 0
Iff A B = (A → B) × (B → A)

module _ (s : State) where
  due_by : (limit moment : ℕ) (due : List OpenPlace) → due_at s limit ≡ due → due ≢ [] → limit ≤ moment
      → due_at s moment ≢ []
  due_by limit moment [] is some later none = some refl
  due_by limit moment (first ∷ others) is some later none =
      let at = subst (λ (l : List OpenPlace). slice_at l first) (sym is) (among_place (first ∷ others) 0 first
      refl) in
      let there = due_place s limit first.place at in
      let limit_is : there.limit ≤ limit = there.elapsed in
      let still = place_due s moment first.place (record {
        i = there.i;
        there = there.there;
        stands = there.stands;
        at_place = there.at_place;
        limit = there.limit;
        has = there.has;
        elapsed = omega arith;
      }) in
      among_none (place_list (due_at s moment)) first.place (ap place_list none) still
    where
      slice_at : List OpenPlace → OpenPlace → Type 0
      slice_at l o = Among (place_list l) o.place

  pub due_told : (limit moment : ℕ) (b : Bool) → nat_le limit moment ≡ b → IsNextLimit s limit
      → Iff (IsTrue b) (due_at s moment ≢ [])
  due_told limit moment true later next =
      (λ t. due_by limit moment (due_at s limit) refl next.due (grind (arith, nat_tests)), λ due. refl)
  due_told limit moment false earlier next = (
    λ t. absurd (false≢true t),
    λ due. absurd (due (next.none_before moment (grind (arith, nat_tests)))),
  )

  none_by : (due : List OpenPlace) → (due ≢ [] → ⊥) → due ≡ []
  none_by [] none = refl
  none_by (first ∷ others) none = absurd (none (λ e. cc))

  none_due : (moment : ℕ) (b : Bool) → Iff (IsTrue b) (due_at s moment ≢ [])
      → Iff (IsTrue (not b)) (due_at s moment ≡ [])
  none_due moment true due = (λ t. absurd (false≢true t), λ none. absurd (due.0 refl none))
  none_due moment false due =
      (λ t. none_by (due_at s moment) (λ some. false≢true (due.1 some)), λ none. refl)

  -- an act that is no tick passes no limit exactly where nothing is due
  pub none_passed : (moment : ℕ) (does : Act) (b : Bool) → does ≢ Tick
      → Iff (IsTrue b) (due_at s moment ≢ [])
      → Iff (IsTrue (not b)) (does ≢ Tick → DueOnlyAtTick s moment does)
  none_passed moment (Hello client incarnation version) b other due =
      let is = none_due moment b due in (λ t no_tick. is.0 t, λ only. is.1 (only other))
  none_passed moment (Arrive key call) b other due =
      let is = none_due moment b due in (λ t no_tick. is.0 t, λ only. is.1 (only other))
  none_passed moment (Cancel key) b other due =
      let is = none_due moment b due in (λ t no_tick. is.0 t, λ only. is.1 (only other))
  none_passed moment Tick b other due = absurd (other refl)

pub hello_no_tick : (does : Act) (client incarnation : ℕ) (version : Version)
    → does ≡ Hello client incarnation version → does ≢ Tick
hello_no_tick does client incarnation version is ticks = cc

pub arrival_no_tick : (does : Act) (key : Key) (call : Call) → does ≡ Arrive key call → does ≢ Tick
arrival_no_tick does key call is ticks = cc

pub cancel_no_tick : (does : Act) (key : Key) → does ≡ Cancel key → does ≢ Tick
cancel_no_tick does key is ticks = cc
