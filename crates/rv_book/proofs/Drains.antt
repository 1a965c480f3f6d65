-- The items that a drain is told: each that it meets has one, and they fit.
use Rattle.rv_book.proofs.Words.{◌≡◌, ◌≤◌, ◌∷◌, ◌∙◌, ℕ, suc, List, [], length, Option, Some, None}
use Rattle.rv_book.proofs.Words.{option_and_then, option_map, refl, sym, ap, subst, arith, slice_get}
use Rattle.rv_book.proofs.Words.{none-some, same_Some, Call, Gives, Takes, item_of, side_of, FitsItem, Entry}
use Rattle.rv_book.proofs.Words.{Account, Among, act_at, call_at, call_in, opposite, Legal}
use Rattle.rv_book.proofs.Words.{FitsAccount, NamesPartner, gives_item, read_whole, call_read, read_there}
use Rattle.rv_book.proofs.Words.{act_fits, act_there, partner_open, one_opposite}
use Rattle.std.specs.List.{All}
use Rattle.std.proofs.lemmas.List.Elements.{All-cons, All-nil}
use Rattle.rv_text.specs.declared.call.Call.TheVariants.{Drain}
use Rattle.rv_text.specs.Limits.{FitsCall, FitsItems}
use Rattle.rv_text.proofs.Kept.{item_fits}
use Rattle.rv_account.specs.Account.{item_at, items_at, partners_at}
use Rattle.rv_account.proofs.Items.{joined, parts}
use Rattle.rv_book.specs.Replies.{Drains}
use Rattle.rv_account.proofs.OfRules.WithinLimits.{call_of_act}
use Rattle.rv_account.proofs.OfState.StayingReplies.{drained_from}

-- ---- the items of a list of places

-- where each place has an item, all have theirs
pub all_items : (es : List Entry) (places : List ℕ)
    → ((p : ℕ) → Among places p → (x : List ℕ) × (item_at es p ≡ Some x))
    → (xs : List (List ℕ)) × (items_at es places ≡ Some xs)
all_items es [] each = ([], refl)
all_items es (p ∷ places) each =
    let first = each p (0, refl) in
    let rest = all_items es places (λ q at. each q (suc at.0, at.1)) in
    (first.0 ∷ rest.0, joined es p places first.0 rest.0 first.1 rest.1)

-- as many as places, and each within the limits of a text
pub items_count : (es : List Entry) (places : List ℕ) (xs : List (List ℕ)) → items_at es places ≡ Some xs
    → length xs ≡ length places
items_count es [] xs is = ap length (same_Some _ _ (sym is))
items_count es (p ∷ places) xs is =
    let first = parts es p places xs is in
    ap length first.4 ∙ ap suc (items_count es places first.1 first.3)

item_at_fits : (a : Account) (p : ℕ) (x : List ℕ) → FitsAccount a → item_at a.entries p ≡ Some x → FitsItem x
item_at_fits a p x fits is = by_call (call_at a.entries p) refl is
  where
    by_call : (o : Option Call) → call_at a.entries p ≡ o → option_and_then item_of o ≡ Some x → FitsItem x
    by_call None arrived has = absurd (none-some x has)
    by_call (Some call) arrived has =
        let does = act_there call_in (act_at a.entries p) call arrived in
        item_fits call x (call_of_act does.0 call (act_fits a p does.0 fits does.1) does.2) has

items_fit : (a : Account) (places : List ℕ) (xs : List (List ℕ)) → FitsAccount a
    → items_at a.entries places ≡ Some xs → All FitsItem xs
items_fit a [] xs fits is = subst (All FitsItem) (same_Some _ _ is) (All-nil FitsItem)
items_fit a (p ∷ places) xs fits is =
    let first = parts a.entries p places xs is in
    subst (All FitsItem) (sym first.4) (All-cons FitsItem first.0 first.1 (item_at_fits a p first.0 fits
    first.2) (items_fit a places first.1 fits first.3))

-- ---- what a drain takes

module _ (queue max : ℕ) where
  abbrev own : Call
  own = Drain queue max

  -- whoever a drain names hands over an item
  hands_item : (b : Account) (r p : ℕ) → Legal b → call_at b.entries r ≡ Some own → NamesPartner b.entries r p
      → (x : List ℕ) × (item_at b.entries p ≡ Some x)
  hands_item b r p legal arrived names =
      let partner = partner_open b r p legal names in
      let call : names.call ≡ own = same_Some _ _ (sym names.arrived ∙ arrived) in
      let side : partner.side ≡ Gives queue = one_opposite (Takes queue) (Gives queue) partner.side refl
      (subst (λ c. opposite (side_of c) ≡ Some partner.side) call partner.opposes) in
      let giver = partner.there.of_side in
      let gives = gives_item giver.call queue (giver.is ∙ side) in
      let whole = read_whole call_read refl b.entries r p giver.call giver.arrived in
      (gives.0, ap (option_and_then item_of) whole.1 ∙ gives.1)

  -- so each drain has its items
  pub has_items : (b : Account) (r : ℕ) → Legal b → call_at b.entries r ≡ Some own
      → (xs : List (List ℕ)) × Drains b.entries r xs
  has_items b r legal arrived =
      let at = read_there call_read refl (slice_get b.entries r) own arrived in
      let e : Entry = at.0 in
      let all = all_items b.entries e.partners (λ p named. hands_item b r p legal arrived (record {
        call = own;
        arrived = arrived;
        meets = refl;
        named = record { entry = e; there = at.1; names = named };
      })) in (
        all.0,
        ap (option_and_then (items_at b.entries)) (ap (option_map (λ (e : Entry). e.partners)) at.1)
            ∙ all.1,
      )

  -- no more than it may take, and each within its limit
  pub fits_drained : (a : Account) (r : ℕ) (xs : List (List ℕ)) → Legal a → FitsAccount a
      → call_at a.entries r ≡ Some own → Drains a.entries r xs → FitsItems xs
  fits_drained a r xs legal fits arrived is =
      let at = read_there call_read refl (slice_get a.entries r) own arrived in
      let e : Entry = at.0 in
      let from = drained_from a.entries (partners_at a.entries r) xs is in
      let same : e.partners ≡ from.0 = same_Some _ _ (sym (ap (option_map (λ (e : Entry). e.partners)) at.1)
      ∙ from.1) in
      let few : length e.partners ≤ max = (legal r e at.1).pairs.names_free_partners.few own at.2 in
      let as_many : length xs ≡ length from.0 = items_count a.entries from.0 xs from.2 in
      let does = act_there call_in (act_at a.entries r) own arrived in
      let own_fits : FitsCall own = call_of_act does.0 own (act_fits a r does.0 fits does.1) does.2 in
      (omega (arith, few, as_many, ap length same, own_fits), items_fit a from.0 xs fits from.2)
