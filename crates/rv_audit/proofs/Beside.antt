-- Of the places under a number those that are none of some others: one looks from each to the next.
use Rattle.rv_audit.proofs.Words.{◌≡◌, ◌-◌, ◌<◌, ◌∙◌, inl, inr, ℕ, true, List, Option, Some, None, sym}
use Rattle.rv_audit.proofs.Words.{subst, arith, false≢true, Among}
use Rattle.rv_audit.proofs.Words.{IsFirstBehind, NoneBehind, is_marked_under, Marks}
use Rattle.std.proofs.lemmas.Bool.{cases_order}
use Rattle.rv_audit.specs.Marks.{AreNamedTo, IsBehind, IsLowestBeside, NoneBeside}

-- how many places are left to be looked at
abbrev pub left_from : Option ℕ → ℕ
left_from None = 18446744073709551617
left_from (Some p) = 18446744073709551616 - p

pub fewer_left : (last : Option ℕ) (place : ℕ) → IsBehind last place → place < 18446744073709551616
    → left_from (Some place) < left_from last
fewer_left = grind arith

module _ (m : Marks) (number : ℕ) (places : List ℕ) (last : Option ℕ) (named : AreNamedTo m number places
    last)
  where
    pub none_left : NoneBehind m number last → NoneBeside m number places
    none_left none p there = elim (named p there) [
      | inl among ↦ among
      | inr behind ↦ absurd (false≢true (sym (none p behind) ∙ there))
    ]

    module _ (place : ℕ) (first : IsFirstBehind m number last place) where
      below : (p : ℕ) → p < place → is_marked_under m number p ≡ true → Among places p
      below p less there = elim (named p there) [
        | inl among ↦ among
        | inr behind ↦ absurd (false≢true (sym (first.lowest p behind less) ∙ there))
      ]

      pub lowest_left : (Among places place → ⊥) → IsLowestBeside m number places place
      lowest_left beside = record { there = first.there; beside = beside; lowest = below }

      pub named_to : Among places place → AreNamedTo m number places (Some place)
      named_to among p there = elim (cases_order p place) [
        | inl same ↦ inl (subst (Among places) (sym same) among)
        | inr differ ↦ elim differ [ inl less ↦ inl (below p less there) | inr more ↦ inr more ]
      ]
