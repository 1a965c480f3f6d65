-- The time-outs of a step of an account are those of its state, and leave nothing due.
use Rattle.rv_account.proofs.OfState.Words.{◌≡◌, ◌≤◌, ◌∷◌, ◌++◌, ◌∙◌, inl, inr, ℕ, List, [], append-nil}
use Rattle.rv_account.proofs.OfState.Words.{Some, refl}
use Rattle.rv_account.proofs.OfState.Words.{sym, ap, subst, arith, none-some, Arrive, Tick, Entry, Account}
use Rattle.rv_account.proofs.OfState.Words.{act_at}
use Rattle.rv_account.proofs.OfState.Words.{call_in, with_entry, Legal, NothingDue, OpenPlace, State}
use Rattle.rv_account.proofs.OfState.Words.{due_at, following}
use Rattle.rv_account.proofs.OfState.Words.{Ticked, ticked_at, IsStateOf}
use Rattle.rv_account.specs.rules.Legal.{NamesFreePartners}
use Rattle.rv_account.specs.rules.Steps.{Ticks}
use Rattle.rv_account.specs.rules.Waiting.{limit_at}
use Rattle.rv_account.proofs.OfRules.Growing.{limit_on}
use Rattle.rv_account.proofs.OfRules.Keys.{act_called}
use Rattle.rv_account.proofs.OfRules.Sides.{Waiting-back, due_until, tick_stops}
use Rattle.rv_account.specs.state.Moves.{ticked_if, ticking, unticked}
use Rattle.rv_account.proofs.OfState.Due.{due_or_none}
use Rattle.rv_account.proofs.OfState.EntersBoth.{Entered, adds_own, comes_adds, own_comes, own_entry}
use Rattle.rv_account.proofs.OfState.Leading.{entered_legal, entered_state}
use Rattle.rv_account.proofs.OfState.MomentsBoth.{due_to_some, none_due}

-- ---- what was due is no longer, after a tick

pub tick_ends : (es : List Entry) (e : Entry) → NamesFreePartners es e → e.act ≡ Tick
    → NothingDue (es ++ e ∷ []) e.moment
tick_ends es e free says r due = elim (Waiting-back es e r free due.waits) [
  | inl was ↦
      let opened = was.there.is_open in
      let arrives = act_called (act_at es r) opened.call opened.arrived in
      let has : limit_at es r ≡ Some due.limit =
      sym (limit_on es (e ∷ []) r (Arrive arrives.0 opened.call) arrives.1) ∙ due.has in
      was.unstopped (tick_stops es e r says
      (due_until es e.moment r
      (record { waits = was.there; limit = due.limit; has = has; elapsed = due.elapsed })))
  | inr new ↦ none-some new.1.call (sym (ap call_in says) ∙ new.1.arrives)
]

-- ---- where the time-outs lead

-- the account after them, with its state, in which nothing is due at the moment
pub record TicksTo (a : Account) (moment : ℕ) (made : Ticked) (t : Account) : Type 0 where
  pub epoch : t.epoch ≡ a.epoch
  pub opened : t.opened ≡ a.opened
  pub entries : t.entries ≡ a.entries ++ made.entries
  pub legal : Legal t
  pub state : IsStateOf t made.after
  pub not_before : made.after.moment ≤ moment
  pub none : due_at made.after moment ≡ []

unticked_leads : (a t : Account) (s : State) (moment : ℕ) → Legal a → IsStateOf a s → s.moment ≤ moment
    → due_at s moment ≡ [] → t ≡ a → TicksTo a moment (unticked s) t
unticked_leads a t s moment legal state not_before none same = record {
  epoch = ap (λ (x : Account). x.epoch) same;
  opened = ap (λ (x : Account). x.opened) same;
  entries = ap (λ (x : Account). x.entries) same ∙ sym (append-nil a.entries);
  legal = subst Legal (sym same) legal;
  state = subst (λ (x : Account). IsStateOf x s) (sym same) state;
  not_before = not_before;
  none = none;
}

ticking_leads : (a t : Account) (s : State) (moment : ℕ) → Entered a s moment Tick t
    → TicksTo a moment (ticking s moment) t
ticking_leads a t s moment entered =
    let state = entered_state a t s moment Tick entered in
    let ends : NothingDue (with_entry a (own_entry s moment Tick)).entries moment =
    tick_ends a.entries (own_entry s moment Tick) entered.comes.follows.pairs.names_free_partners refl in
    record {
      epoch = ap (λ (x : Account). x.epoch) entered.is;
      opened = ap (λ (x : Account). x.opened) entered.is;
      entries = ap (λ (x : Account). x.entries) entered.is;
      legal = entered_legal a t s moment Tick entered;
      state = state;
      not_before = omega arith;
      none = none_due t (following s moment Tick).after moment state
          (subst (λ (x : Account). NothingDue x.entries moment) (sym entered.is) ends);
    }

-- ---- which time-outs there are

none_ticked : (s : State) (moment : ℕ) → due_at s moment ≡ [] → ticked_at s moment ≡ unticked s
none_ticked s moment none = ap (ticked_if s moment) none

some_by : (s : State) (moment : ℕ) (all : List OpenPlace) → (all ≡ [] → ⊥)
    → ticked_if s moment all ≡ ticking s moment
some_by s moment [] some = absurd (some refl)
some_by s moment (due ∷ others) some = refl

some_ticked : (s : State) (moment : ℕ) → (due_at s moment ≡ [] → ⊥) → ticked_at s moment ≡ ticking s moment
some_ticked s moment some = some_by s moment (due_at s moment) some

pub ticks_to : (a t : Account) (s : State) (moment : ℕ) → Legal a → IsStateOf a s → s.moment ≤ moment
    → Ticks a moment t → TicksTo a moment (ticked_at s moment) t
ticks_to a t s moment legal state not_before (inl ticks) =
    subst (λ (made : Ticked). TicksTo a moment made t)
    (sym (some_ticked s moment (due_to_some a s moment state ticks.0)))
    (ticking_leads a t s moment (adds_own a t s moment Tick legal state ticks.1))
ticks_to a t s moment legal state not_before (inr same) =
    let none = none_due a s moment state (λ r due. same.0 (r, due)) in
    subst (λ (made : Ticked). TicksTo a moment made t) (sym (none_ticked s moment none))
    (unticked_leads a t s moment legal state not_before none same.1)

pub ticks_from : (a : Account) (s : State) (moment : ℕ) → Legal a → IsStateOf a s → s.moment ≤ moment
    → (t : Account) × Ticks a moment t
ticks_from a s moment legal state not_before = elim (due_or_none a s moment state) [
  | inl due ↦
      let comes = own_comes a s moment Tick legal state
      (record { not_before = not_before; due = due_to_some a s moment state due }) tt in
      (with_entry a (own_entry s moment Tick), inl (due, comes_adds a s moment Tick comes))
  | inr none ↦ (a, inr ((λ due. due_to_some a s moment state due none), refl))
]
