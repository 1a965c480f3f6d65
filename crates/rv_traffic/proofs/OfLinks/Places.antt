-- One place of the table changes, and what of all is counted.
use Rattle.std.proofs.Common.{◌≡◌, ◌∙◌, ◌+◌, ◌-◌, ◌*◌, ◌^◌, ◌<◌, ◌≤◌, ◌∷◌, ℕ, List, [], None, Option, Some}
use Rattle.std.proofs.Common.{ap, arith, drop, length, slice_set, suc, sym, take, zero}
use Rattle.std.specs.List.{sum_by}
use Rattle.std.proofs.lemmas.List.{get_or-set_same, length-drop, set-set, take_rest}
use Rattle.std.proofs.lemmas.List.Sums.{sum_by-cons}
use Rattle.std.proofs.lemmas.Option.{none-some}
use Rattle.rv_traffic.specs.declared.links.link.Socket.{Socket}
use Rattle.rv_traffic.specs.links.Table.{ChangesOne, link_at, one_at, over_at, pending_at}

module _ {S : Type 0} where
  -- one place after another call for it
  pub one_again : (old mid : List (Option (Socket S))) (n : ℕ) (slot : Option (Socket S))
      → ChangesOne old n mid → n < length mid → ChangesOne old n (slice_set mid n slot)
  one_again old mid n slot first within =
      ap (λ (l : List (Option (Socket S))). slice_set l n slot) first
      ∙ set-set old n (link_at mid n) slot
      ∙ ap (λ (o : Option (Socket S)). slice_set old n o) (sym (get_or-set_same mid n slot None within))

  -- all that is pending, where no buffer has more than it may
  pub few_all : (table : List (Option (Socket S)))
      → sum_by pending_at table ≤ (2 ^ 63 - 1) * length table + sum_by over_at table
  few_all [] = omega arith
  few_all (slot ∷ table) =
      omega (
        arith,
        few_all table,
        few_one slot,
        sum_by-cons pending_at slot table,
        sum_by-cons over_at slot table,
      )
    where
      few_one : (slot : Option (Socket S)) → pending_at slot ≤ (2 ^ 63 - 1) + over_at slot
      few_one slot = omega arith

  ones_all : (table : List (Option (Socket S))) → sum_by one_at table ≤ length table
  ones_all [] = omega arith
  ones_all (None ∷ table) = omega (arith, sum_by-cons one_at None table, ones_all table)
  ones_all (Some link ∷ table) = omega (arith, sum_by-cons one_at (Some link) table, ones_all table)

  -- where one place is empty there is room for one more
  pub few_ones : (table : List (Option (Socket S))) (n : ℕ) → n < length table → link_at table n ≡ None
      → sum_by one_at table < length table
  few_ones [] n within none = absurd (omega (arith, within))
  few_ones (None ∷ table) n within none = omega (arith, sum_by-cons one_at None table, ones_all table)
  few_ones (Some link ∷ table) zero within none = absurd (none-some link (sym none))
  few_ones (Some link ∷ table) (suc n) within none =
      omega (arith, sum_by-cons one_at (Some link) table, few_ones table n (omega (arith, within)) none)

-- what comes after some bytes is no longer than all
pub rest_le : (bytes : List ℕ) (taken : ℕ)
    → length (take (length bytes - taken) (drop taken bytes)) ≤ length bytes
rest_le bytes taken = omega (arith, ap length (take_rest bytes taken), length-drop taken bytes)
