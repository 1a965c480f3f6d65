-- Among places that aren't all open one is closed.
use Rattle.std.proofs.Common.{◌≡◌, ◌∷◌, ℕ, zero, suc, List, [], Some, refl, subst, inl, inr}
use Rattle.std.proofs.Common.{slice_get}
use Rattle.std.proofs.lemmas.Option.{none-some, same_Some}
use Rattle.rv_account.specs.declared.entry.Entry.{Entry}
use Rattle.rv_account.specs.Account.{Among}
use Rattle.rv_audit.specs.AccountRules.{rank_of}
use Rattle.rv_audit.specs.declared.rule.Rule.TheVariants.{P2}
use Rattle.rv_account.proofs.OfRules.Naming.{among_or_not}
use Rattle.rv_account.specs.state.State.{State, place_list}
use Rattle.rv_verify.specs.follow.state_rules.Ruling.{KeepsUpTo, NamesClosed}
use Rattle.rv_verify.specs.follow.state_rules.Walking.{HoldsOfAll}

one_closed : (opened places : List ℕ) → (HoldsOfAll (Among opened) places → ⊥)
    → (p : ℕ) × Among places p × (Among opened p → ⊥)
one_closed opened [] some = absurd (some (λ p at. absurd (none-some p at.1)))
one_closed opened (x ∷ places) some = elim (among_or_not opened x) [
  | inr closed ↦ (x, (0, refl), closed)
  | inl there ↦
      let rest = one_closed opened places (λ all. some (λ p at. by_index there all p at.0 at.1)) in
      (rest.0, (suc rest.1.0, rest.1.1), rest.2)
]
  where
    by_index : Among opened x → HoldsOfAll (Among opened) places → (p i : ℕ)
        → slice_get (x ∷ places) i ≡ Some p → Among opened p
    by_index there all p zero at = subst (Among opened) (same_Some _ _ at) there
    by_index there all p (suc i) at = all p (i, at)

pub names_closed : (s : State) (e : Entry) (partners : List ℕ) → partners ≡ e.partners
    → KeepsUpTo (rank_of P2) s e → (HoldsOfAll (Among (place_list s.open_places)) partners → ⊥)
    → NamesClosed s e
names_closed s e partners are kept some =
    let closed = one_closed (place_list s.open_places) partners some in record {
      kept = kept;
      place = closed.0;
      names = subst (λ (ps : List ℕ). Among ps closed.0) are closed.1;
      closed = closed.2;
    }
