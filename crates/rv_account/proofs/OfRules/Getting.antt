-- Who gets an item from whom it meets: it stays so, it is one item, and it is within the limits.
use Rattle.rv_account.proofs.OfRules.Words.{◌≡◌, ◌++◌, ◌∙◌, inl, inr, ℕ, List, Some, refl, sym, ap}
use Rattle.rv_account.proofs.OfRules.Words.{same_Some, Call}
use Rattle.rv_account.proofs.OfRules.Words.{may_name, Entry, Account, act_at, call_at, call_in, Legal, Met}
use Rattle.rv_text.specs.Calls.{item_of}
use Rattle.rv_text.specs.Limits.{FitsItem}
use Rattle.rv_text.proofs.Kept.{item_fits}
use Rattle.rv_account.specs.rules.Limits.{FitsAccount}
use Rattle.rv_account.specs.rules.Replies.{GetsItem, Meet}
use Rattle.rv_account.proofs.OfRules.Growing.{NamesPartner-on, call_read, reads_on}
use Rattle.rv_account.proofs.OfRules.WithinLimits.{act_fits, act_there, call_of_act}
use Rattle.rv_account.proofs.OfRules.OnePartner.{meets_one}

pub Meet-on : (es more : List Entry) (r s : ℕ) → Meet es r s → Meet (es ++ more) r s
Meet-on es more r s (inl names) = inl (NamesPartner-on es more r s names)
Meet-on es more r s (inr names) = inr (NamesPartner-on es more s r names)

pub gets_on : (es more : List Entry) (r : ℕ) (item : List ℕ) → GetsItem es r item
    → GetsItem (es ++ more) r item
gets_on es more r item gets = record {
  giver = gets.giver;
  call = gets.call;
  meet = Meet-on es more gets.giver r gets.meet;
  arrived = reads_on call_read refl es more gets.giver gets.call gets.arrived;
  hands_over = gets.hands_over;
}

pub meet_met : (es : List Entry) (r s : ℕ) → Meet es r s → Met es r
meet_met es r s (inl names) = record { later = r; earlier = s; names = names; part = inl refl }
meet_met es r s (inr names) = record { later = s; earlier = r; names = names; part = inr refl }

pub gets_met : (es : List Entry) (r : ℕ) (item : List ℕ) → GetsItem es r item → Met es r
gets_met es r item gets = elim gets.meet [
  | inl names ↦ meet_met es r gets.giver (inr names)
  | inr names
      ↦ meet_met es r gets.giver (inl names)
]

-- what gets an item, and may name one, gets one item
pub one_item : (b : Account) (r : ℕ) (call : Call) (x y : List ℕ) → Legal b → call_at b.entries r ≡ Some call
    → may_name call ≡ 1 → GetsItem b.entries r x → GetsItem b.entries r y → x ≡ y
one_item b r call x y legal arrived single first second =
    let giver : first.giver ≡ second.giver = meets_one b r first.giver second.giver call legal arrived single
    first.meet second.meet in
    let same : first.call ≡ second.call = same_Some _ _ (sym first.arrived ∙ ap (call_at b.entries) giver
    ∙ second.arrived) in
    same_Some _ _ (sym first.hands_over ∙ ap item_of same ∙ second.hands_over)

pub given_fits : (a : Account) (r : ℕ) (item : List ℕ) → FitsAccount a → GetsItem a.entries r item
    → FitsItem item
given_fits a r item fits gets =
    let does = act_there call_in (act_at a.entries gets.giver) gets.call gets.arrived in
    item_fits gets.call item (call_of_act does.0 gets.call (act_fits a gets.giver does.0 fits does.1) does.2)
    gets.hands_over
