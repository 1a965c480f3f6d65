-- The mark under which a connection stands in the index: dropped, and moved.
use Rattle.std.proofs.Common.{◌≡◌, ◌≢◌, ◌⊎◌, ◌∙◌, ℕ, Bool, true, false, Option, None, Some, refl, sym}
use Rattle.std.proofs.Common.{ap}
use Rattle.std.proofs.Common.{inl, inr, nat_eq}
use Rattle.std.proofs.lemmas.Bool.{cases_eq, eq-eqb, eqb-true}
use Rattle.rv_server_connections.specs.declared.subscribers.pairs.Pairs.{Pairs}
use Rattle.rv_server_connections.specs.subscribers.Pairs.{ChangesPairs, SamePairs, stands_under}
use Rattle.rv_server_connections.specs.Fields.{Drops, Remarks, StandsByMark, has_mark}

true_or_false : (b : Bool) → (b ≡ true) ⊎ (b ≡ false)
true_or_false true = inl refl
true_or_false false = inr refl

-- ---- moved

module _ (p q r : Pairs) (c : ℕ) (mark : Option ℕ) (stood : StandsByMark p c mark) where
  pub moves_none : Drops p c mark r → Remarks p c None r
  moves_none drops = record {
    own = λ e. none_at e (true_or_false (has_mark mark e));
    others = λ e k apart. drops.others e k (inl apart);
  }
    where
      none_at : (e : ℕ) → (has_mark mark e ≡ true) ⊎ (has_mark mark e ≡ false)
          → stands_under r e c ≡ false
      none_at e (inl marked) = drops.own e marked
      none_at e (inr other) = drops.others e c (inr other) ∙ stood e ∙ other

  pub stands_by : (e : ℕ) → mark ≡ Some e → stands_under p e c ≡ true
  stands_by e is = stood e ∙ ap (λ m. has_mark m e) is ∙ eq-eqb e e refl

-- what was added and taken out again stands as before
pub added_removed : (p q r : Pairs) (n c : ℕ) → stands_under p n c ≡ false → ChangesPairs p q n c true
    → ChangesPairs q r n c false → SamePairs p r
added_removed p q r n c none adds removes e k = elim (cases_eq e n) [
  | inl same ↦ elim (cases_eq k c) [
    | inl here ↦ ap (λ m. stands_under r m k) same ∙ ap (λ m. stands_under r n m) here ∙ removes.own
        ∙ sym none ∙ ap (λ m. stands_under p n m) (sym here) ∙ ap (λ m. stands_under p m k) (sym same)
    | inr apart ↦ removes.others e k (inr apart) ∙ adds.others e k (inr apart)
  ]
  | inr apart ↦ removes.others e k (inl apart) ∙ adds.others e k (inl apart)
]

-- who stood nowhere and was added stands there alone
pub added_alone : (p q : Pairs) (c n : ℕ) → ((e : ℕ) → stands_under p e c ≡ false)
    → ChangesPairs p q n c true → Remarks p c (Some n) q
added_alone p q c n none adds = record {
  own = λ e. own_at e (cases_eq e n);
  others = λ e k apart. adds.others e k (inr apart);
}
  where
    apart_false : (e : ℕ) (b : Bool) → nat_eq n e ≡ b → (e ≢ n) → nat_eq n e ≡ false
    apart_false e true same apart = absurd (apart (sym (eqb-true n e same)))
    apart_false e false other apart = other

    own_at : (e : ℕ) → (e ≡ n) ⊎ (e ≢ n) → stands_under q e c ≡ nat_eq n e
    own_at e (inl same) = ap (λ m. stands_under q m c) same ∙ adds.own ∙ sym (eq-eqb n e (sym same))
    own_at e (inr apart) = adds.others e c (inl apart) ∙ none e ∙ sym (apart_false e (nat_eq n e) refl apart)
