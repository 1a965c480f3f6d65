-- What one more entry changes of who was met, who was stopped and who is open.
use Rattle.rv_account.proofs.OfRules.Words.{◌≡◌, ◌⊎◌, ◌<◌, ◌∷◌, ◌++◌, ◌∙◌, inl, inr, ℕ, List, [], length}
use Rattle.rv_account.proofs.OfRules.Words.{Option, Some}
use Rattle.rv_account.proofs.OfRules.Words.{None, option_and_then, refl, sym, ap, subst, arith, slice_get}
use Rattle.rv_account.proofs.OfRules.Words.{none-some}
use Rattle.rv_account.proofs.OfRules.Words.{Call, Entry, Act, Arrive, Names, NamesAt, act_at, call_at}
use Rattle.rv_account.proofs.OfRules.Words.{call_in}
use Rattle.rv_account.proofs.OfRules.Words.{NamesPartner, Met, limit_at, EndsWait, StoppedAt, Stopped, Open}
use Rattle.std.proofs.Common.{option_map}
use Rattle.rv_account.specs.rules.Waiting.{limit_in}
use Rattle.rv_account.proofs.OfRules.Places.{get-append, get-append_within, get-append_cases}
use Rattle.rv_account.proofs.OfRules.Places.{get-append_end, within}

-- ---- what is read at a place, by a reading that gives nothing where nothing stands

pub read_there : {B : Type 0} (F : Option Entry → Option B) → F None ≡ None → (o : Option Entry) (y : B)
    → F o ≡ Some y → (e : Entry) × (o ≡ Some e) × (F (Some e) ≡ Some y)
read_there F none None y h = absurd (none-some y (sym none ∙ h))
read_there F none (Some e) y h = (e, refl, h)

pub reads_within : {B : Type 0} (F : Option Entry → Option B) → F None ≡ None
    → (es : List Entry) (r : ℕ) (y : B) → F (slice_get es r) ≡ Some y → r < length es
reads_within F none es r y h = let there = read_there F none (slice_get es r) y h in within es r there.0
    there.1

pub reads_on : {B : Type 0} (F : Option Entry → Option B) → F None ≡ None
    → (es more : List Entry) (r : ℕ) (y : B) → F (slice_get es r) ≡ Some y
    → F (slice_get (es ++ more) r) ≡ Some y
reads_on F none es more r y h =
    let there = read_there F none (slice_get es r) y h in
    ap F (get-append es more r there.0 there.1) ∙ there.2

pub reads_back : {B : Type 0} (F : Option Entry → Option B) → F None ≡ None
    → (es : List Entry) (e : Entry) (r : ℕ) (y : B) → F (slice_get (es ++ e ∷ []) r) ≡ Some y
    → ((r < length es) × (F (slice_get es r) ≡ Some y)) ⊎ ((r ≡ length es) × (F (Some e) ≡ Some y))
reads_back F none es e r y h =
    let there = read_there F none (slice_get (es ++ e ∷ []) r) y h in
    elim (get-append_cases es e there.0 r there.1) [
      | inl at ↦ inl (at.0, ap F at.1 ∙ there.2)
      | inr at ↦ inr (at.0, ap (λ x. F (Some x)) at.1 ∙ there.2)
    ]

-- the readings that the definitions take
abbrev pub act_read : Option Entry → Option Act
act_read o = option_map (λ e. e.act) o

abbrev pub moment_read : Option Entry → Option ℕ
moment_read o = option_map (λ e. e.moment) o

abbrev pub call_read : Option Entry → Option Call
call_read o = option_and_then call_in (option_map (λ e. e.act) o)

-- ---- partners

pub NamesAt-on : (es more : List Entry) (p q : ℕ) → NamesAt es p q → NamesAt (es ++ more) p q
NamesAt-on es more p q h = record {
  entry = h.entry;
  there = get-append es more p h.entry h.there;
  names =
      h.names;
}

pub NamesAt-back : (es : List Entry) (e : Entry) (p q : ℕ) → NamesAt (es ++ e ∷ []) p q
    → ((p < length es) × NamesAt es p q) ⊎ ((p ≡ length es) × Names e q)
NamesAt-back es e p q h =
    elim (get-append_cases es e h.entry p h.there) [
      | inl inside ↦ inl (inside.0, record { entry = h.entry; there = inside.1; names = h.names })
      | inr last ↦ inr (last.0, subst (λ (x : Entry). Names x q) (sym last.1) h.names)
    ]

-- the last entry names its partners
pub NamesAt-last : (es : List Entry) (e : Entry) (q : ℕ) → Names e q → NamesAt (es ++ e ∷ []) (length es) q
NamesAt-last es e q names = record { entry = e; there = get-append_end es e; names = names }

-- ---- pairs

pub NamesPartner-on : (es more : List Entry) (p q : ℕ) → NamesPartner es p q → NamesPartner (es ++ more) p q
NamesPartner-on es more p q h = record {
  call = h.call;
  arrived = reads_on call_read refl es more p h.call h.arrived;
  meets = h.meets;
  named = NamesAt-on es more p q h.named;
}

pub NamesPartner-back : (es : List Entry) (e : Entry) (p q : ℕ) → NamesPartner (es ++ e ∷ []) p q
    → NamesPartner es p q ⊎ ((p ≡ length es) × Names e q)
NamesPartner-back es e p q h =
    elim (NamesAt-back es e p q h.named) [
      | inl named ↦ elim (reads_back call_read refl es e p h.call h.arrived) [
        | inl arrived ↦ inl (record { call = h.call; arrived = arrived.1; meets = h.meets; named = named.1 })
        | inr arrived ↦ absurd (omega arith)
      ]
      | inr named ↦ inr named
    ]

pub Met-on : (es more : List Entry) (r : ℕ) → Met es r → Met (es ++ more) r
Met-on es more r h = record {
  later = h.later;
  earlier = h.earlier;
  names = NamesPartner-on es more h.later
      h.earlier h.names;
  part = h.part;
}

-- who is met with one more entry was met before, or is that entry, or is one of its partners
pub Met-back : (es : List Entry) (e : Entry) (r : ℕ) → Met (es ++ e ∷ []) r
    → Met es r ⊎ ((r ≡ length es) ⊎ Names e r)
Met-back es e r h =
    elim (NamesPartner-back es e h.later h.earlier h.names) [
      | inl names ↦ inl (record { later = h.later; earlier = h.earlier; names = names; part = h.part })
      | inr new ↦ elim h.part [
        | inl is ↦ inr (inl (is ∙ new.0))
        | inr is ↦ inr (inr (subst (Names e) (sym is) new.1))
      ]
    ]

-- ---- stops

-- a request's limit is read where the request stands
pub limit_on : (es more : List Entry) (r : ℕ) (act : Act) → act_at es r ≡ Some act
    → limit_at (es ++ more) r ≡ limit_at es r
limit_on es more r act there =
    let inside : r < length es = reads_within act_read refl es r act there in
    ap (option_and_then limit_in) (get-append_within es more r inside)

unfoldable pub StoppedAt-on : (es more : List Entry) (r s : ℕ) → StoppedAt es r s → StoppedAt (es ++ more) r s
StoppedAt-on es more r s h = record {
  key = h.key;
  call = h.call;
  stopper = h.stopper;
  arrived = reads_on act_read refl es more r (Arrive h.key h.call) h.arrived;
  no_put = h.no_put;
  later = h.later;
  there = get-append es more s h.stopper h.there;
  ends = subst (EndsWait h.stopper.act h.stopper.moment h.key) (sym (limit_on es more r (Arrive h.key h.call)
      h.arrived)) h.ends;
}

pub Stopped-on : (es more : List Entry) (r : ℕ) → Stopped es r → Stopped (es ++ more) r
Stopped-on es more r h = (h.0, StoppedAt-on es more r h.0 h.1)

-- what stops a request among the first entries stopped it before
pub StoppedAt-back : (es more : List Entry) (r s : ℕ) → s < length es → StoppedAt (es ++ more) r s
    → StoppedAt es r s
StoppedAt-back es more r s inside h =
    let later : r < s = h.later in
    let arrived : act_at es r ≡ Some (Arrive h.key h.call) =
    ap act_read (sym (get-append_within es more r (omega arith))) ∙ h.arrived in
    record {
      key = h.key;
      call = h.call;
      stopper = h.stopper;
      arrived = arrived;
      no_put = h.no_put;
      later = later;
      there = sym (get-append_within es more s inside) ∙ h.there;
      ends = subst (EndsWait h.stopper.act h.stopper.moment h.key) (limit_on es more r (Arrive h.key h.call)
          arrived) h.ends;
    }

-- who is stopped with one more entry was stopped before, or by that entry
pub Stopped-back : (es : List Entry) (e : Entry) (r : ℕ) → Stopped (es ++ e ∷ []) r
    → Stopped es r ⊎ StoppedAt (es ++ e ∷ []) r (length es)
Stopped-back es e r h =
    elim (get-append_cases es e h.1.stopper h.0 h.1.there) [
      | inl stopper ↦ inl (h.0, StoppedAt-back es (e ∷ []) r h.0 stopper.0 h.1)
      | inr stopper ↦ inr (subst (StoppedAt (es ++ e ∷ []) r) stopper.0 h.1)
    ]

-- ---- who is open

unfoldable pub Open-on : (es : List Entry) (e : Entry) (r : ℕ) → Open es r → (Names e r → ⊥)
    → (StoppedAt (es ++ e ∷ []) r (length es) → ⊥) → Open (es ++ e ∷ []) r
Open-on es e r h unnamed unstopped = record {
  call = h.call;
  arrived = reads_on call_read refl es (e ∷ []) r h.call h.arrived;
  stays = h.stays;
  unmet = λ met. elim (Met-back es e r met) [
    | inl before ↦ h.unmet before
    | inr new ↦ elim new [
      | inl last ↦ let inside : r < length es = reads_within call_read refl es r h.call h.arrived in
          omega arith
      | inr named ↦ unnamed named
    ]
  ];
  unstopped = λ stopped. elim (Stopped-back es e r stopped) [
    | inl before ↦ h.unstopped before
    | inr new
        ↦ unstopped new
  ];
}

unfoldable pub Open-back : (es more : List Entry) (r : ℕ) (h : Open (es ++ more) r)
    → call_at es r ≡ Some h.call → Open es r
Open-back es more r h arrived = record {
  call = h.call;
  arrived = arrived;
  stays = h.stays;
  unmet = λ met. h.unmet (Met-on es more r met);
  unstopped = λ stopped. h.unstopped (Stopped-on es more r stopped);
}
