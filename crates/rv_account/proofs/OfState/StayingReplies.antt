-- A reply stays where the account goes on, and who waits has none.
use Rattle.rv_account.proofs.OfState.Words.{◌≡◌, ◌<◌, ◌∷◌, ◌++◌, ◌∙◌, inl, inr, ℕ, List, [], length, Option}
use Rattle.rv_account.proofs.OfState.Words.{Some, None}
use Rattle.rv_account.proofs.OfState.Words.{option_and_then, option_map, refl, sym, ap, subst, none-some}
use Rattle.rv_account.proofs.OfState.Words.{same_Some}
use Rattle.rv_account.proofs.OfState.Words.{Reply, Call, Key, item_of, Entry, call_at, IsPut, Stays, Legal}
use Rattle.rv_account.proofs.OfState.Words.{Drains}
use Rattle.rv_account.proofs.OfState.Words.{IsFrontItem, MeetsKey, RepliesAt, RepliesMet, Waiting}
use Rattle.rv_account.proofs.OfState.Words.{call_read, reads_on}
use Rattle.rv_account.proofs.OfState.Words.{reads_within, key_read}
use Rattle.rv_text.specs.declared.call.Call.TheVariants.{Put, Transfer, Take, Swap, Count, Peek, Drain}
use Rattle.rv_text.specs.declared.version.Version.TheVariants.{Two}
use Rattle.rv_account.proofs.Items.{joined, parts}
use Rattle.rv_account.specs.Account.{items_at, partners_at}
use Rattle.rv_account.specs.rules.Replies.{Counts, HasNoItem}
use Rattle.rv_account.proofs.OfRules.Getting.{Meet-on, gets_met, gets_on}
use Rattle.rv_account.proofs.OfRules.Growing.{Met-on}
use Rattle.rv_account.proofs.OfRules.Looking.{looks_waits_not, same_before}
use Rattle.rv_account.proofs.OfRules.Versions.{asked_back, asked_on}
use Rattle.rv_account.proofs.OfState.UnmetReplies.{still_unmet, unmet_stays, unmet_waits_not}
use Rattle.rv_text.specs.declared.answer.Reply as reply

-- ---- what a drain takes stays

items_on : (es more : List Entry) (places : List ℕ) (xs : List (List ℕ)) → items_at es places ≡ Some xs
    → items_at (es ++ more) places ≡ Some xs
items_on es more [] xs is = is
items_on es more (p ∷ places) xs is =
    let first = parts es p places xs is in
    let here = reads_on (λ o. option_and_then item_of (call_read o)) refl es more p first.0 first.2 in
    joined (es ++ more) p places first.0 first.1 here (items_on es more places first.1 first.3)
    ∙ ap Some (sym first.4)

pub drained_from : (es : List Entry) (o : Option (List ℕ)) (xs : List (List ℕ))
    → option_and_then (items_at es) o ≡ Some xs
    → (places : List ℕ) × (o ≡ Some places) × (items_at es places ≡ Some xs)
drained_from es None xs is = absurd (none-some xs is)
drained_from es (Some places) xs is = (places, refl, is)

pub drains_on : (es more : List Entry) (r : ℕ) (xs : List (List ℕ)) → Drains es r xs
    → Drains (es ++ more) r xs
drains_on es more r xs is =
    let from = drained_from es (partners_at es r) xs is in
    let there = reads_on (λ o. option_map (λ e. e.partners) o) refl es more r from.0 from.1 in
    ap (option_and_then (items_at (es ++ more))) there ∙ items_on es more from.0 xs from.2

-- ---- what a transfer that was met is told stays

pub meets_key_on : (es more : List Entry) (r : ℕ) (key : Key) → MeetsKey es r key
    → MeetsKey (es ++ more) r key
meets_key_on es more r key h =
    record {
      place = h.place;
      meet = Meet-on es more r h.place h.meet;
      named = reads_on key_read refl es more h.place key h.named;
    }

receipt_on : (es more : List Entry) (r : ℕ) (told : Reply) → r < length es → RepliesMet es r told
    → RepliesMet (es ++ more) r told
receipt_on es more r told inside (inl two) =
    inl (asked_on es more r Two two.0, two.1, meets_key_on es more r two.1 two.2, two.3)
receipt_on es more r told inside (inr other) =
    inr ((λ two. other.0 (asked_back es more r Two inside two)), other.1)

-- ---- a reply stays

pub reply_stays : (call : Call) (es more : List Entry) (epoch opened r : ℕ) (told : Reply)
    → Legal (record { epoch = epoch; opened = opened; entries = es ++ more }) → call_at es r ≡ Some call
    → RepliesAt es r call told → RepliesAt (es ++ more) r call told
reply_stays (Put queue item) es more epoch opened r told legal arrived is = is
reply_stays (Transfer queue item wait) es more epoch opened r told legal arrived (inl met) =
    let inside = reads_within call_read refl es r (Transfer queue item wait) arrived in
    inl (Met-on es more r met.0, receipt_on es more r told inside met.1)
reply_stays (Transfer queue item wait) es more epoch opened r told legal arrived (inr unmet) =
    let own : Call = Transfer queue item wait in
    let alone : Reply = reply.TheVariants.Nobody in
    inr (
      still_unmet wait es more epoch opened r own alone told legal arrived refl unmet.0 unmet.1,
      unmet_stays wait es more r alone told unmet.1,
    )
reply_stays (Take queue wait) es more epoch opened r told legal arrived (inl met) =
    inl (met.0, gets_on es more r met.0 met.1, met.2)
reply_stays (Take queue wait) es more epoch opened r told legal arrived (inr unmet) =
    let own : Call = Take queue wait in
    let alone : Reply = reply.TheVariants.Empty in
    inr (
      still_unmet wait es more epoch opened r own alone told legal arrived refl unmet.0 unmet.1,
      unmet_stays wait es more r alone told unmet.1,
    )
reply_stays (Swap exchanger item wait) es more epoch opened r told legal arrived (inl met) =
    inl (met.0, gets_on es more r met.0 met.1, met.2)
reply_stays (Swap exchanger item wait) es more epoch opened r told legal arrived (inr unmet) =
    let own : Call = Swap exchanger item wait in
    let alone : Reply = reply.TheVariants.TimedOut in
    inr (
      still_unmet wait es more epoch opened r own alone told legal arrived refl unmet.0 unmet.1,
      unmet_stays wait es more r alone told unmet.1,
    )
reply_stays (Count queue) es more epoch opened r told legal arrived (items, consumers, counts, is) =
    let front = same_before es more r (Count queue) arrived in
    (items, consumers, subst (λ xs. Counts xs queue items consumers) front counts, is)
reply_stays (Peek queue) es more epoch opened r told legal arrived (inl front) =
    let same = same_before es more r (Peek queue) arrived in
    inl (front.0, subst (λ xs. IsFrontItem xs queue front.0) same front.1, front.2)
reply_stays (Peek queue) es more epoch opened r told legal arrived (inr none) =
    inr (subst (λ xs. HasNoItem xs queue) (same_before es more r (Peek queue) arrived) none.0, none.1)
reply_stays (Drain queue max) es more epoch opened r told legal arrived drains =
    (drains.0, drains_on es more r drains.0 drains.1, drains.2)

-- ---- who waits has no reply

put_waits_not : (es : List Entry) (r queue : ℕ) (item : List ℕ) → call_at es r ≡ Some (Put queue item)
    → Waiting es r → ⊥
put_waits_not es r queue item arrived w =
    let same : Put queue item ≡ w.is_open.call = same_Some _ _ (sym arrived ∙ w.is_open.arrived) in
    w.no_put (subst IsPut same (refl, refl))

drain_waits_not : (es : List Entry) (r queue max : ℕ) → call_at es r ≡ Some (Drain queue max)
    → Waiting es r → ⊥
drain_waits_not es r queue max arrived w =
    let same : w.is_open.call ≡ Drain queue max = same_Some _ _ (sym w.is_open.arrived ∙ arrived) in
    let stays : Stays (Drain queue max) = subst Stays same w.is_open.stays in
    stays.1

pub waits_untold : (call : Call) (es : List Entry) (r : ℕ) (told : Reply) → call_at es r ≡ Some call
    → Waiting es r → RepliesAt es r call told → ⊥
waits_untold (Put queue item) es r told arrived w is = put_waits_not es r queue item arrived w
waits_untold (Transfer queue item wait) es r told arrived w (inl met) = w.is_open.unmet met.0
waits_untold (Transfer queue item wait) es r told arrived w (inr unmet) =
    unmet_waits_not wait es r (Transfer queue item wait) reply.TheVariants.Nobody told arrived refl w unmet.1
waits_untold (Take queue wait) es r told arrived w (inl met) = w.is_open.unmet (gets_met es r met.0 met.1)
waits_untold (Take queue wait) es r told arrived w (inr unmet) =
    unmet_waits_not wait es r (Take queue wait) reply.TheVariants.Empty told arrived refl w unmet.1
waits_untold (Swap exchanger item wait) es r told arrived w (inl met) =
    w.is_open.unmet (gets_met es r met.0 met.1)
waits_untold (Swap exchanger item wait) es r told arrived w (inr unmet) =
    unmet_waits_not wait es r (Swap exchanger item wait) reply.TheVariants.TimedOut told arrived refl w
    unmet.1
waits_untold (Count queue) es r told arrived w replies =
    looks_waits_not es r queue (Count queue) arrived refl w
waits_untold (Peek queue) es r told arrived w replies =
    looks_waits_not es r queue (Peek queue) arrived refl w
waits_untold (Drain queue max) es r told arrived w replies = drain_waits_not es r queue max arrived w
