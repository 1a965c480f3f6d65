-- A table without sockets.
use Rattle.std.proofs.Common.{◌≡◌, ◌++◌, ◌∷◌, ℕ, List, [], None, Option, Some, arith, get_or, refl, suc, zero}
use Rattle.std.specs.List.{sum_by}
use Rattle.std.proofs.lemmas.List.Sums.{sum_by-cons}
use Rattle.rv_traffic.specs.declared.links.link.Socket.{Socket}
use Rattle.rv_traffic.specs.links.Table.{AreTallied, link_at, one_at, over_at, pending_at}

abbrev pub AreNone : {S : Type 0} → List (Option (Socket S)) → Type 0
AreNone [] = Unit {0}
AreNone (None ∷ table) = AreNone table
AreNone (Some link ∷ table) = ⊥

module _ {S : Type 0} where
  pub none_push : (table : List (Option (Socket S))) → AreNone table → AreNone (table ++ None ∷ [])
  none_push [] none = none
  none_push (None ∷ table) none = none_push table none
  none_push (Some link ∷ table) none = absurd none

  pub none_at : (table : List (Option (Socket S))) (n : ℕ) → AreNone table → link_at table n ≡ None
  none_at [] n none = refl
  none_at (None ∷ table) zero none = refl
  none_at (None ∷ table) (suc n) none = none_at table n none
  none_at (Some link ∷ table) n none = absurd none

  none_sum : (f : Option (Socket S) → ℕ) (table : List (Option (Socket S))) → f None ≡ 0 → AreNone table
      → sum_by f table ≡ 0
  none_sum f [] nothing none = refl
  none_sum f (None ∷ table) nothing none =
      omega (arith, sum_by-cons f None table, nothing, none_sum f table nothing none)
  none_sum f (Some link ∷ table) nothing none = absurd none

  pub none_counted : (table : List (Option (Socket S))) → AreNone table → AreTallied table 0 0
  none_counted table none =
      let ones = none_sum one_at table refl none in
      let bytes = none_sum pending_at table refl none in
      record {
        counts = omega (arith, ones);
        pends = omega (arith, bytes);
        few = none_sum over_at table refl none;
      }
