-- Deadlines are totally ordered, and the order is that of moments and places.
use Rattle.std.proofs.Common.{◌≡◌, inl, inr, ◌⊎◌, refl, sym}
use Rattle.std.specs.declared.cmp.Ordering.{Ordering}
use Rattle.std.specs.declared.cmp.Ordering.TheVariants.{Less, Equal, Greater}
use Rattle.std.specs.Ordering.{nat_cmp, ordering_then}
use Rattle.std.specs.Cmp.{IsTotalOrder, nat_cmp_total, then_total, on_total, ranked}
use Rattle.std.specs.FinSet.{IsAntisymmetric}
use Rattle.rv_due.specs.Deadlines.{Deadline, by_moment, Precedes}

pub by_moment_total : IsTotalOrder by_moment
by_moment_total = then_total (on_total (λ (d : Deadline). d.0) nat_cmp_total)
    (on_total (λ (d : Deadline). d.1) nat_cmp_total)

then_equal : (a b : Ordering) → ordering_then a b ≡ Equal → (a ≡ Equal) × (b ≡ Equal)
then_equal Less b e = absurd (cc)
then_equal Equal b e = (refl, e)
then_equal Greater b e = absurd (cc)

pub by_moment-IsAntisymmetric : IsAntisymmetric by_moment
by_moment-IsAntisymmetric a b e =
    let both = then_equal (nat_cmp a.0 b.0) (nat_cmp a.1 b.1) e in
    let moments : a.0 ≡ b.0 = ranked a.0 b.0 Equal (sym both.0) in
    let places : a.1 ≡ b.1 = ranked a.1 b.1 Equal (sym both.1) in
    λ i. (moments i, places i)

then_less : (a b : Ordering) → ordering_then a b ≡ Less → (a ≡ Less) ⊎ ((a ≡ Equal) × (b ≡ Less))
then_less Less b e = inl refl
then_less Equal b e = inr (refl, e)
then_less Greater b e = absurd (cc)

pub precedes : (a b : Deadline) → by_moment a b ≡ Less → Precedes a b
precedes a b e = elim (then_less (nat_cmp a.0 b.0) (nat_cmp a.1 b.1) e) [
  | inl moments ↦ inl (ranked a.0 b.0 Less (sym moments))
  | inr both ↦ inr (ranked a.0 b.0 Equal (sym both.0), ranked a.1 b.1 Less (sym both.1))
]
