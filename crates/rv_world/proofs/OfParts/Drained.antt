-- Whom a drain meets in a legal account: those that its entry names, each with its item in the drain's list.
use Rattle.rv_world.proofs.OfParts.Words.{◌≡◌, ◌∙◌, inl, inr, ℕ, List, length, Option, Some, None, option_map}
use Rattle.rv_world.proofs.OfParts.Words.{refl, sym, ap, subst, slice_get, none-some, same_Some, Key, Call}
use Rattle.rv_world.proofs.OfParts.Words.{Entry, Account, call_at, Legal, Meet, ArrivesAt}
use Rattle.std.proofs.Common.{option_and_then}
use Rattle.std.specs.List.Sorted.{IsStrictlyIncreasing}
use Rattle.rv_text.specs.declared.call.Call.TheVariants.{Drain}
use Rattle.rv_text.specs.Calls.{item_of}
use Rattle.rv_account.specs.Account.{Names, items_at}
use Rattle.rv_account.specs.Calls.{Stays}
use Rattle.rv_account.proofs.Items.{item_among}
use Rattle.rv_book.specs.Replies.{Drains}
use Rattle.rv_book.proofs.Drains.{has_items, items_count}
use Rattle.rv_account.proofs.OfRules.Keys.{act_called}
use Rattle.rv_account.proofs.OfRules.OnePartner.{goes_unnamed}
use Rattle.rv_world.specs.parts.Headline.{HandsOverAt, IsToldAmong}

-- ---- the entry of a drain

-- the items are those of the partners that the entry at t names
pub record TakesItems (es : List Entry) (t : ℕ) (items : List (List ℕ)) : Type 0 where
  pub entry : Entry
  pub there : slice_get es t ≡ Some entry
  pub has : items_at es entry.partners ≡ Some items

takes_by : (es : List Entry) (t : ℕ) (items : List (List ℕ)) (o : Option Entry) → slice_get es t ≡ o
    → option_and_then (items_at es) (option_map (λ (e : Entry). e.partners) o) ≡ Some items
    → TakesItems es t items
takes_by es t items None there is = absurd (none-some items is)
takes_by es t items (Some e) there is = record { entry = e; there = there; has = is }

pub takes_items : (es : List Entry) (t : ℕ) (items : List (List ℕ)) → Drains es t items
    → TakesItems es t items
takes_items es t items is = takes_by es t items (slice_get es t) refl is

pub as_many : (es : List Entry) (t : ℕ) (items : List (List ℕ)) → (takes : TakesItems es t items)
    → length takes.entry.partners ≡ length items
as_many es t items takes = sym (items_count es takes.entry.partners items takes.has)

-- ---- who hands over an item

called_by : (o : Option Call) (item : List ℕ) → option_and_then item_of o ≡ Some item
    → (call : Call) × (o ≡ Some call) × (item_of call ≡ Some item)
called_by None item is = absurd (none-some item is)
called_by (Some call) item is = (call, refl, is)

-- each partner hands over the item in its place
pub hands_over_at : (es : List Entry) (t place g : ℕ) (items : List (List ℕ))
    → (takes : TakesItems es t items) → slice_get takes.entry.partners place ≡ Some g
    → HandsOverAt es items place g
hands_over_at es t place g items takes there =
    let its = item_among es takes.entry.partners items place g takes.has there in
    let giver = called_by (call_at es g) its.0 its.1 in
    let act = act_called _ giver.0 giver.1 in
    record { key = act.0; call = giver.0; arrived = act.1; item = its.0; hands_over = giver.2; there = its.2 }

-- ---- whom a drain meets

module _ (a : Account) (t queue max : ℕ) (legal : Legal a) (arrived : call_at a.entries t ≡ Some
    (Drain queue max)) where
  goes : Stays (Drain queue max) → ⊥
  goes stays = stays.1

  -- nobody names it, so whom it meets it names
  pub names_met : (s : ℕ) (e : Entry) → slice_get a.entries t ≡ Some e → Meet a.entries s t → Names e s
  names_met s e there (inl names) = absurd (goes_unnamed a s t (Drain queue max) legal arrived goes names)
  names_met s e there (inr names) =
      let named = names.named in
      let same : named.entry ≡ e = same_Some _ _ (sym named.there ∙ there) in
      subst (λ (x : Entry). Names x s) same named.names

  pub meets_named : (s : ℕ) (e : Entry) → slice_get a.entries t ≡ Some e → Names e s → Meet a.entries s t
  meets_named s e there names = inr (record {
    call = Drain queue max;
    arrived = arrived;
    meets = refl;
    named = record { entry = e; there = there; names = names };
  })

  pub partners_rise : (e : Entry) → slice_get a.entries t ≡ Some e → IsStrictlyIncreasing e.partners
  partners_rise e there = (legal t e there).pairs.names_free_partners.rising

  -- and it is told the item of each whom it meets
  pub told_among : (g : ℕ) (giver : Call) (item : List ℕ) (key : Key) → call_at a.entries g ≡ Some giver
      → item_of giver ≡ Some item → ArrivesAt a.entries key t (Drain queue max) → Meet a.entries g t
      → IsToldAmong a.entries key g t item
  told_among g giver item key given hands there meet =
      let has = has_items queue max a t legal arrived in
      let takes = takes_items a.entries t has.0 has.1 in
      let named = names_met g takes.entry takes.there meet in
      let its = item_among a.entries takes.entry.partners has.0 named.0 g takes.has named.1 in
      let same : its.0 ≡ item = same_Some _ _ (sym its.1 ∙ ap (option_and_then item_of) given ∙ hands) in
      record {
        partners = takes.entry.partners;
        named = ap (option_map (λ (e : Entry). e.partners)) takes.there;
        items = has.0;
        told = inl (record {
          place = t;
          call = Drain queue max;
          arrived = there;
          replies =
              (has.0, has.1, refl);
        });
        place = named.0;
        giver_there = named.1;
        item_there = its.2 ∙ ap Some same;
      }
