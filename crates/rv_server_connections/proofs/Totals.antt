-- Sums over the connections that are open, where one changes.
use Rattle.std.proofs.Common.{◌≡◌, ◌≢◌, ◌<◌, ◌≤◌, ◌+◌, ◌-◌, ◌*◌, ◌∙◌, ℕ, Option, None, arith, refl}
use Rattle.std.proofs.Common.{ap}
use Rattle.std.proofs.Common.{inl, inr, zero, suc}
use Rattle.std.proofs.lemmas.Bool.{cases_eq}
use Rattle.rv_server_connections.specs.connection.Traffic.{Traffic}
use Rattle.rv_server_connections.specs.Connections.{count_at, total_below}

abbrev pub AllBelow : (ℕ → Option Traffic) → ℕ → Type 0
AllBelow wires n = (connection : ℕ) → n ≤ connection → wires connection ≡ None

module _ (count : Traffic → ℕ) where
  -- numbers that no connection is open under count nothing
  extends : (w : ℕ → Option Traffic) (n k : ℕ) → AllBelow w n
      → total_below count w (n + k) ≡ total_below count w n
  extends w n zero none = ap (total_below count w) (let same : n + 0 ≡ n = omega arith in same)
  extends w n (suc k) none =
      let more : n + suc k ≡ suc (n + k) = omega arith in
      let nothing : count_at count (w (n + k)) ≡ 0 = ap (count_at count) (none (n + k) (omega arith)) in
      ap (total_below count w) more ∙ omega (arith, nothing, extends w n k none)

  pub up_to : (w : ℕ → Option Traffic) (n m : ℕ) → AllBelow w n → n ≤ m
      → total_below count w m ≡ total_below count w n
  up_to w n m none below =
      let more : m ≡ n + (m - n) = omega arith in
      ap (total_below count w) more ∙ extends w n (m - n) none

  same_below : (w v : ℕ → Option Traffic) (n : ℕ) → ((o : ℕ) → o < n → v o ≡ w o)
      → total_below count v n ≡ total_below count w n
  same_below w v zero same = refl
  same_below w v (suc n) same =
      let last : count_at count (v n) ≡ count_at count (w n) = ap (count_at count) (same n (omega arith)) in
      omega (arith, last, same_below w v n (λ o less. same o (omega arith)))

  one_changes : (w v : ℕ → Option Traffic) (c n : ℕ) → c < n → ((o : ℕ) → o ≢ c → v o ≡ w o)
      → total_below count v n + count_at count (w c) ≡ total_below count w n + count_at count (v c)
  one_changes w v c zero less others = absurd (omega arith)
  one_changes w v c (suc n) less others = elim (cases_eq n c) [
    | inl same ↦
        let below = same_below w v n (λ o under. others o (λ is. absurd (omega (arith, is, same, under)))) in
        let old : count_at count (w n) ≡ count_at count (w c) = ap (λ k. count_at count (w k)) same in
        let new : count_at count (v n) ≡ count_at count (v c) = ap (λ k. count_at count (v k)) same in
        omega (arith, below, old, new)
    | inr apart ↦
        let last : count_at count (v n) ≡ count_at count (w n) = ap (count_at count) (others n apart) in
        let under : c < n = omega (arith, less, apart) in
        omega (arith, last, one_changes w v c n under others)
  ]

  -- where one connection changes, the sum does as its count
  pub totals : (w v : ℕ → Option Traffic) (c room more : ℕ) → AllBelow w room → AllBelow v more
      → ((o : ℕ) → o ≢ c → v o ≡ w o)
      → total_below count v more + count_at count (w c) ≡ total_below count w room + count_at count (v c)
  totals w v c room more none_old none_new others =
      let most : ℕ = room + (more + suc c) in
      let old : total_below count w most ≡ total_below count w room =
      up_to w room most none_old (omega arith) in
      let new : total_below count v most ≡ total_below count v more =
      up_to v more most none_new (omega arith) in
      omega (arith, old, new, one_changes w v c most (omega arith) others)

  -- where each counts as before, the sum does
  pub same_totals : (w v : ℕ → Option Traffic) (n : ℕ)
      → ((o : ℕ) → count_at count (v o) ≡ count_at count (w o))
      → total_below count v n ≡ total_below count w n
  same_totals w v zero same = refl
  same_totals w v (suc n) same = omega (arith, same n, same_totals w v n same)

  pub bounded : (w : ℕ → Option Traffic) (n : ℕ) → ((o : ℕ) → count_at count (w o) ≤ 131071)
      → total_below count w n ≤ 131071 * n
  bounded w zero few = omega arith
  bounded w (suc n) few = omega (arith, few n, bounded w n few)

  under_total : (w : ℕ → Option Traffic) (c n : ℕ) → c < n → count_at count (w c) ≤ total_below count w n
  under_total w c zero less = absurd (omega arith)
  under_total w c (suc n) less = elim (cases_eq n c) [
    | inl same ↦
        let last : count_at count (w n) ≡ count_at count (w c) = ap (λ k. count_at count (w k)) same in
        omega (arith, last)
    | inr apart ↦ omega (arith, under_total w c n (omega (arith, less, apart)))
  ]

  -- each one's count is part of the sum
  pub part_of : (w : ℕ → Option Traffic) (c room : ℕ) → AllBelow w room
      → count_at count (w c) ≤ total_below count w room
  part_of w c room none =
      let most : ℕ = room + suc c in
      let all : total_below count w most ≡ total_below count w room = up_to w room most none (omega arith) in
      omega (arith, all, under_total w c most (omega arith))
