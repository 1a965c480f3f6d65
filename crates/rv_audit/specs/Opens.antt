-- What is open, as a table keeps it by its place, and the tables in which it is found.
use Rattle.std.specs.Prelude.{◌≡◌, ◌≢◌, ℕ, Bool, true, false, cond, nat_eq, nat_lt, List, Option, None, Some}
use Rattle.std.specs.List.{list_any}
use Rattle.std.specs.Ordering.{nat_cmp}
use Rattle.std.specs.BTreeMap.{btree_map_len, get}
use Rattle.rv_text.specs.declared.call.Side.{Side}
use Rattle.rv_account.specs.state.State.{same_side}
use Rattle.rv_audit.specs.Lines.{IsOpenable, stands_in}
use Rattle.rv_audit.specs.Marks.{is_marked_under}
pub use Rattle.rv_audit.specs.declared.opens.AuditOpen.{AuditOpen}
use Rattle.rv_audit.specs.declared.opens.Opens.{Opens}

-- what is open at a place; how many places are open
abbrev pub opening_at : Opens → ℕ → Option AuditOpen
opening_at t place = get nat_cmp t.places place

abbrev pub count_of : Opens → ℕ
count_of t = btree_map_len t.places

-- whether it is on a side, whether it has a limit, and whether that has come at a moment
abbrev pub is_on : Side → Option AuditOpen → Bool
is_on side None = false
is_on side (Some there) = same_side there.side side

abbrev pub is_limit : ℕ → Option ℕ → Bool
is_limit limit None = false
is_limit limit (Some other) = nat_eq other limit

abbrev pub ends_at : ℕ → Option AuditOpen → Bool
ends_at limit None = false
ends_at limit (Some there) = is_limit limit there.limit

abbrev pub has_come : ℕ → Option ℕ → Bool
has_come moment None = false
has_come moment (Some limit) = cond (nat_lt moment limit) false true

-- each is on its side and under its limit in the tables, and nothing else is
abbrev pub AreLined : Opens → Type 0
AreLined t = (side : Side) (place : ℕ) → IsOpenable side
    → stands_in t.lines side place ≡ is_on side (opening_at t place)

abbrev pub AreLimited : Opens → Type 0
AreLimited t = (limit place : ℕ) → is_marked_under t.limits limit place ≡ ends_at limit (opening_at t place)

pub record AreTabled (t : Opens) : Type 0 where
  pub lined : AreLined t
  pub limited : AreLimited t

-- this is open at the place, or nothing is, and each other place has what it had
pub record OpensAt (old new : Opens) (place : ℕ) (there : Option AuditOpen) : Type 0 where
  pub indexed : AreTabled new
  pub own : opening_at new place ≡ there
  pub others : (r : ℕ) → r ≢ place → opening_at new r ≡ opening_at old r

-- the same if something is given
abbrev pub OpensIf : Opens → Opens → ℕ → Option AuditOpen → Type 0
OpensIf old new place None = new ≡ old
OpensIf old new place (Some there) = OpensAt old new place (Some there)

-- nothing is open at these places, and each other place has what it had
abbrev pub is_among : List ℕ → ℕ → Bool
is_among places r = list_any (λ p. nat_eq p r) places

pub record ClosesEach (old new : Opens) (places : List ℕ) : Type 0 where
  pub indexed : AreTabled new
  pub are : (r : ℕ) → opening_at new r ≡ cond (is_among places r) None (opening_at old r)

-- the same for those whose limit has come at a moment
abbrev pub left_after : ℕ → Option AuditOpen → Option AuditOpen
left_after moment None = None
left_after moment (Some there) = cond (has_come moment there.limit) None (Some there)

pub record ClosesUntil (old new : Opens) (moment : ℕ) : Type 0 where
  pub indexed : AreTabled new
  pub are : (r : ℕ) → opening_at new r ≡ left_after moment (opening_at old r)
