-- What an unmet request is told by its wait: that it stays, and that who waits is told nothing.
use Rattle.rv_account.proofs.OfState.Words.{◌≡◌, ◌⊎◌, ◌<◌, ◌≤◌, ◌++◌, ◌∙◌, inl, inr, ℕ, zero, suc, List}
use Rattle.rv_account.proofs.OfState.Words.{length, take}
use Rattle.rv_account.proofs.OfState.Words.{Some, option_and_then, refl, sym, ap, subst, arith, slice_get}
use Rattle.rv_account.proofs.OfState.Words.{cases_lt}
use Rattle.rv_account.proofs.OfState.Words.{same_Some, Reply, Call, Wait, Now, Millis, Forever, wait_of}
use Rattle.rv_account.proofs.OfState.Words.{Arrive, Entry}
use Rattle.rv_account.proofs.OfState.Words.{Account, call_at, Lasts, Legal, RepliesUnmet, Met, StoppedAt}
use Rattle.rv_account.proofs.OfState.Words.{Waiting}
use Rattle.rv_account.proofs.OfState.Words.{act_read, call_read, reads_on, reads_within, within}
use Rattle.rv_account.specs.rules.Replies.{ToldStopped}
use Rattle.rv_account.specs.rules.Waiting.{EndsWait, NamesPartner, limit_at, limit_in}
use Rattle.rv_account.proofs.OfRules.Growing.{StoppedAt-on}
use Rattle.rv_account.proofs.OfRules.FirstStops.{told_on}
use Rattle.rv_account.proofs.OfRules.Fronts.{read_front}
use Rattle.rv_account.proofs.OfRules.OnePartner.{goes_unnamed, partner_open}
use Rattle.rv_account.proofs.OfRules.Places.{get-append_within, get-take}
use Rattle.rv_text.specs.declared.answer.Reply as reply

-- ---- by whether the wait lasts

-- what is told at once where a wait doesn't last
abbrev pub told_at_once : Wait → Reply → Reply
told_at_once Now at_once = at_once
told_at_once (Millis n) at_once = reply.TheVariants.TimedOut
told_at_once Forever at_once = at_once

-- a wait that lasts is told what stopped it first, and one that doesn't what is told at once
abbrev pub ByLasting : List Entry → ℕ → Wait → Reply → Reply → Type 0
ByLasting es r wait at_once told = (Lasts (Some wait) × ToldStopped es r told)
    ⊎ ((Lasts (Some wait) → ⊥) × (told ≡ told_at_once wait at_once))

pub by_lasting : (wait : Wait) (es : List Entry) (r : ℕ) (at_once told : Reply)
    → RepliesUnmet es r wait at_once told → ByLasting es r wait at_once told
by_lasting Now es r at_once told replies = inr ((λ lasts. lasts), replies)
by_lasting (Millis zero) es r at_once told replies = inr ((λ lasts. omega arith), replies)
by_lasting (Millis (suc n)) es r at_once told replies = inl (omega arith, replies)
by_lasting Forever es r at_once told replies = inl (tt, replies)

pub lasting_told : (wait : Wait) (es : List Entry) (r : ℕ) (at_once told : Reply) → Lasts (Some wait)
    → ToldStopped es r told → RepliesUnmet es r wait at_once told
lasting_told Now es r at_once told lasts stopped = absurd lasts
lasting_told (Millis zero) es r at_once told lasts stopped = absurd (omega arith)
lasting_told (Millis (suc n)) es r at_once told lasts stopped = stopped
lasting_told Forever es r at_once told lasts stopped = stopped

pub passing_told : (wait : Wait) (es : List Entry) (r : ℕ) (at_once : Reply) → (Lasts (Some wait) → ⊥)
    → RepliesUnmet es r wait at_once (told_at_once wait at_once)
passing_told Now es r at_once passes = refl
passing_told (Millis zero) es r at_once passes = refl
passing_told (Millis (suc n)) es r at_once passes = absurd (passes (omega arith))
passing_told Forever es r at_once passes = absurd (passes tt)

-- ---- who was stopped or never stays is not met later

pub stopped_in_front : (es : List Entry) (n r s : ℕ) → s < n → StoppedAt es r s → StoppedAt (take n es) r s
stopped_in_front es n r s less h =
    let later : r < s = h.later in
    let same : limit_at (take n es) r ≡ limit_at es r =
    ap (option_and_then limit_in) (get-take es n r (omega arith)) in
    record {
      key = h.key;
      call = h.call;
      stopper = h.stopper;
      arrived = read_front act_read es n r (Arrive h.key h.call) (omega arith) h.arrived;
      no_put = h.no_put;
      later = later;
      there = get-take es n s less ∙ h.there;
      ends = subst (EndsWait h.stopper.act h.stopper.moment h.key) (sym same) h.ends;
    }

-- nobody names a request that was stopped before
pub stopped_unnamed : (a : Account) (p r s : ℕ) → Legal a → s < p → StoppedAt a.entries r s
    → NamesPartner a.entries p r → ⊥
stopped_unnamed a p r s legal less stopped names =
    (partner_open a p r legal names).there.is_open.unstopped
    (s, stopped_in_front a.entries p r s less stopped)

-- a pair that stands in the first entries is a pair of theirs
pub names_before : (es more : List Entry) (p q : ℕ) → p < length es → NamesPartner (es ++ more) p q
    → NamesPartner es p q
names_before es more p q inside names =
    let same : slice_get (es ++ more) p ≡ slice_get es p = get-append_within es more p inside in
    record {
      call = names.call;
      arrived = sym (ap call_read same) ∙ names.arrived;
      meets = names.meets;
      named = record {
        entry = names.named.entry;
        there = sym same ∙ names.named.there;
        names = names.named.names;
      };
    }

-- an unmet arrival that nobody names later stays unmet
pub unnamed_unmet : (es more : List Entry) (r : ℕ) → r < length es → (Met es r → ⊥)
    → ((p : ℕ) → length es ≤ p → NamesPartner (es ++ more) p r → ⊥) → Met (es ++ more) r → ⊥
unnamed_unmet es more r inside unmet unnamed met = elim (cases_lt met.later (length es)) [
  | inl before ↦
      unmet (record {
        later = met.later;
        earlier = met.earlier;
        names = names_before es more met.later met.earlier before met.names;
        part = met.part;
      })
  | inr after ↦ elim met.part [
    | inl own ↦ omega arith
    | inr named ↦
        unnamed met.later (omega arith) (subst (NamesPartner (es ++ more) met.later) (sym named) met.names)
  ]
]

module _ (wait : Wait) (es more : List Entry) (epoch opened r : ℕ) (call : Call) (at_once told : Reply) where
  abbrev whole : Account
  whole = record { epoch = epoch; opened = opened; entries = es ++ more }

  unnamed_later : (p : ℕ) → Legal whole → call_at es r ≡ Some call → wait_of call ≡ Some wait
      → RepliesUnmet es r wait at_once told → length es ≤ p → NamesPartner (es ++ more) p r → ⊥
  unnamed_later p legal arrived is replies later names = elim (by_lasting wait es r at_once told replies) [
    | inr passes ↦
        goes_unnamed whole p r call legal (reads_on call_read refl es more r call arrived)
        (λ stays. passes.0 (subst Lasts is stays.1)) names
    | inl lasts ↦
        let s = lasts.1.place in
        let stops = lasts.1.stop.stops in
        let inside : s < length es = within es s stops.stopper stops.there in
        stopped_unnamed whole p r s legal (omega arith) (StoppedAt-on es more r s stops) names
  ]

  pub still_unmet : Legal whole → call_at es r ≡ Some call → wait_of call ≡ Some wait → (Met es r → ⊥)
      → RepliesUnmet es r wait at_once told → Met (es ++ more) r → ⊥
  still_unmet legal arrived is unmet replies =
      unnamed_unmet es more r (reads_within call_read refl es r call arrived) unmet
      (λ p. unnamed_later p legal arrived is replies)

-- ---- what it is told

pub unmet_stays : (wait : Wait) (es more : List Entry) (r : ℕ) (at_once told : Reply)
    → RepliesUnmet es r wait at_once told → RepliesUnmet (es ++ more) r wait at_once told
unmet_stays wait es more r at_once told replies = elim (by_lasting wait es r at_once told replies) [
  | inl lasts ↦ lasting_told wait (es ++ more) r at_once told lasts.0 (told_on es more r told lasts.1)
  | inr passes ↦
      subst (RepliesUnmet (es ++ more) r wait at_once) (sym passes.1)
      (passing_told wait (es ++ more) r at_once passes.0)
]

pub unmet_waits_not : (wait : Wait) (es : List Entry) (r : ℕ) (call : Call) (at_once told : Reply)
    → call_at es r ≡ Some call → wait_of call ≡ Some wait → Waiting es r
    → RepliesUnmet es r wait at_once told → ⊥
unmet_waits_not wait es r call at_once told arrived is w replies =
    let same : w.is_open.call ≡ call = same_Some _ _ (sym w.is_open.arrived ∙ arrived) in
    elim (by_lasting wait es r at_once told replies) [
      | inl lasts ↦ w.is_open.unstopped (lasts.1.place, lasts.1.stop.stops)
      | inr passes ↦ passes.0 (subst Lasts (ap wait_of same ∙ is) w.is_open.stays.1)
    ]
