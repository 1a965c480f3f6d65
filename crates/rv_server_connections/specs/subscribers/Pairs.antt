-- Which connections stand under which numbers.
use Rattle.std.specs.Prelude.{ℕ, ◌≡◌, ◌≢◌, ◌⊎◌, ◌<◌, ◌≤◌, ◌↔◌, Bool, List, AllPairs, Contains, false, nat_eq}
use Rattle.std.specs.Prelude.{true}
use Rattle.std.specs.List.{list_any}
use Rattle.std.specs.Map.{keys_of}
use Rattle.std.specs.Ordering.{nat_cmp, ordering_then}
use Rattle.std.specs.BTreeSet.{btree_set_len, contains}
use Rattle.rv_server_connections.specs.declared.subscribers.pairs.Pairs.{Pairs}

-- whether the connection stands under the number
abbrev pub stands_under : Pairs → ℕ → ℕ → Bool
stands_under p number connection =
    contains (λ (x y : ℕ × ℕ). ordering_then (nat_cmp x.0 y.0) (nat_cmp x.1 y.1)) p.pairs (number, connection)

-- whether some connection stands under the number
abbrev pub some_under : Pairs → ℕ → Bool
some_under p number = list_any (nat_eq number) (keys_of p.pairs.keys)

-- the same connections stand under each number
abbrev pub SamePairs : Pairs → Pairs → Type 0
SamePairs old new = (number connection : ℕ) → stands_under new number connection ≡ stands_under old number
    connection

-- one connection is under one more number, or under one fewer
pub record ChangesPairs (old new : Pairs) (number connection : ℕ) (stands : Bool) : Type 0 where
  pub own : stands_under new number connection ≡ stands
  pub others : (n c : ℕ) → (n ≢ number) ⊎ (c ≢ connection) → stands_under new n c ≡ stands_under old n c

-- the lowest connection that is under the number; none is
pub record IsLowestUnder (p : Pairs) (number connection : ℕ) : Type 0 where
  pub there : stands_under p number connection ≡ true
  pub lowest : (c : ℕ) → stands_under p number c ≡ true → connection ≤ c

abbrev pub NoneUnder : Pairs → ℕ → Type 0
NoneUnder p number = (c : ℕ) → stands_under p number c ≡ false

-- the lowest under the lowest number; none is under any
pub record IsLeastPair (p : Pairs) (least : ℕ × ℕ) : Type 0 where
  pub there : stands_under p least.0 least.1 ≡ true
  pub lowest : (n c : ℕ) → stands_under p n c ≡ true → (least.0 < n) ⊎ ((least.0 ≡ n) × (least.1 ≤ c))

abbrev pub NoPairs : Pairs → Type 0
NoPairs p = (n c : ℕ) → stands_under p n c ≡ false

-- how many there are, each counted under each of its numbers
abbrev pub pair_count : Pairs → ℕ
pair_count p = btree_set_len p.pairs

-- the connection stands under some number up to this one
pub record StandsUpTo (p : Pairs) (most connection : ℕ) : Type 0 where
  pub number : ℕ
  pub up_to : number ≤ most
  pub there : stands_under p number connection ≡ true

-- no connection stands under two numbers
abbrev pub StandOnce : Pairs → Type 0
StandOnce p = (m n connection : ℕ) → stands_under p m connection ≡ true → stands_under p n connection ≡ true
    → m ≡ n

-- the connections that stand under a number up to this one are listed, and no other
pub record ListsUpTo (p : Pairs) (most : ℕ) (listed : List ℕ) : Type 0 where
  pub each : (connection : ℕ) → Contains listed connection ↔ StandsUpTo p most connection
  pub once : StandOnce p → AllPairs (λ one other. one ≢ other) listed
