-- Whether an entry names well, told by its parts.
use Rattle.std.proofs.Common.{◌≡◌, ◌<◌, ◌≤◌, ◌∙◌, ℕ, suc, Bool, true, false, List, [], ◌∷◌, length, Some}
use Rattle.std.proofs.Common.{refl, sym}
use Rattle.std.proofs.Common.{ap, subst, arith, IsTrue, inl, inr, nat_eq}
use Rattle.std.proofs.lemmas.Bool.{cases_lt, false≢true}
use Rattle.std.proofs.lemmas.Bool.Decides.{nat_tests}
use Rattle.std.specs.List.Sorted.{IsStrictlyIncreasing}
use Rattle.rv_text.specs.declared.call.Call.{Call}
use Rattle.rv_account.specs.declared.entry.Entry.{Entry}
use Rattle.rv_account.specs.Account.{Names, call_in}
use Rattle.rv_account.specs.Calls.{may_name}
use Rattle.rv_account.proofs.OfRules.Naming.{among_none, first_among}
use Rattle.rv_audit.specs.AccountRules.{ArrivesToMeet, NamesTooMany}
use Rattle.rv_account.specs.state.Kept.{NamesWell}
use Rattle.rv_account.specs.state.State.{State}
use Rattle.rv_verify.specs.follow.state_rules.Walking.{HoldsOfAll}
use Rattle.rv_verify.proofs.OfFollow.OfAsked.DueNow.{Iff}

abbrev pub No : Type 0 → Type 0
No A = Iff (IsTrue false) A

pub never : (A : Type 0) → (A → ⊥) → No A
never A none = (λ t. absurd (false≢true t), λ a. absurd (none a))

few_by : (e : Entry) → (NamesTooMany e → ⊥) → (call : Call) → call_in e.act ≡ Some call
    → length e.partners ≤ may_name call
few_by e none call arrives = elim (cases_lt (may_name call) (length e.partners)) [
  | inl many ↦ absurd (none (record { call = call; arrives = arrives; many = many }))
  | inr few ↦ few
]

module _ (s : State) (e : Entry) where
  pub many_not : NamesTooMany e → NamesWell s e → ⊥
  many_not many well =
      let few = well.few many.call many.arrives in let more = many.many in omega (arith, few, more)

  module _ (partners : List ℕ) (are : partners ≡ e.partners) where
    pub fall_not : (IsStrictlyIncreasing partners → ⊥) → NamesWell s e → ⊥
    fall_not fall well = fall (subst IsStrictlyIncreasing (sym are) well.rising)

    pub pass_not : (length : ℕ) → length ≡ s.length → (HoldsOfAll (λ p. p < length) partners → ⊥)
        → NamesWell s e → ⊥
    pass_not length is pass well =
        pass (subst (λ n. HoldsOfAll (λ p. p < n) partners) (sym is)
        (subst (λ (ps : List ℕ). HoldsOfAll (λ p. p < s.length) ps) (sym are) well.earlier))

    well_from : (length : ℕ) → length ≡ s.length → (NamesTooMany e → ⊥) → IsStrictlyIncreasing partners
        → HoldsOfAll (λ p. p < length) partners → ((p : ℕ) → Names e p → ArrivesToMeet e) → NamesWell s e
    well_from length is many rising below meets = record {
      rising = subst IsStrictlyIncreasing are rising;
      few = few_by e many;
      meets = meets;
      earlier = subst (λ (ps : List ℕ). HoldsOfAll (λ p. p < s.length) ps) are
          (subst (λ n. HoldsOfAll (λ p. p < n) partners) is below);
    }

    module _ (length_is : ℕ) (is : length_is ≡ s.length) (many : NamesTooMany e → ⊥)
        (rising : IsStrictlyIncreasing partners) (below : HoldsOfAll (λ p. p < length_is) partners) where
      pub well_alone : nat_eq (length partners) 0 ≡ true → Iff (IsTrue true) (NamesWell s e)
      well_alone none = (
        λ t. well_from length_is is many rising below
            (λ p names. absurd (among_none e.partners p (sym are ∙ empty_is partners none) names)),
        λ well. refl,
      )
        where
          empty_is : (ps : List ℕ) → nat_eq (length ps) 0 ≡ true → ps ≡ []
          empty_is [] t = refl
          empty_is (p ∷ ps) t = absurd (let none : suc (length ps) ≡ 0 = grind (arith, nat_tests) in
              omega arith)

      pub well_meeting : (b : Bool) → nat_eq (length partners) 0 ≡ false → Iff (IsTrue b) (ArrivesToMeet e)
          → Iff (IsTrue b) (NamesWell s e)
      well_meeting b some meets = (
        λ t. well_from length_is is many rising below (λ p names. meets.0 t),
        λ well. elim (first_among e.partners) [
          | inl first ↦ meets.1 (well.meets first.0 first.1)
          | inr none ↦ absurd (false≢true (sym some ∙ ap (λ (ps : List ℕ). nat_eq (length ps) 0)
              (are ∙ none)))
        ],
      )
