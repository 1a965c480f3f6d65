-- What is open in a table when some places were closed, one after the other.
use Rattle.rv_audit.proofs.Words.{◌≡◌, ◌⊎◌, ◌≤◌, ◌∙◌, ℕ, Bool, true, false, Option, Some, None}
use Rattle.rv_audit.proofs.Words.{refl, sym, ap, arith, false≢true, nat_eq, nat_tests, Opens}
use Rattle.rv_audit.proofs.Words.{NoneUntil}
use Rattle.std.proofs.Common.{cond, nat_lt}
use Rattle.rv_audit.specs.Opens.{AreTabled, ClosesUntil, AuditOpen, ends_at, has_come, is_limit}
use Rattle.rv_audit.specs.Opens.{left_after, opening_at}

-- some places were closed whose limit had come at a moment
pub record ClosedSome (old new : Opens) (moment : ℕ) : Type 0 where
  pub indexed : AreTabled new
  pub are : (r : ℕ) → (opening_at new r ≡ opening_at old r)
      ⊎ ((opening_at new r ≡ None) × (left_after moment (opening_at old r) ≡ None))

-- what is left when no limit is left that has come
module _ (old new : Opens) (moment : ℕ) (closed : ClosedSome old new moment)
    (none : NoneUntil new.limits moment) where
  not_come : (r : ℕ) (there : AuditOpen) (limit : Option ℕ) → there.limit ≡ limit
      → opening_at new r ≡ Some there → has_come moment limit ≡ false
  not_come r there None is at = refl
  not_come r there (Some limit) is at = by_order (nat_lt moment limit) refl
    where
      by_order : (b : Bool) → nat_lt moment limit ≡ b → cond b false true ≡ false
      by_order true later = refl
      by_order false come =
          let marked = closed.indexed.limited limit r ∙ ap (ends_at limit) at ∙ ap (is_limit limit) is in
          let most : limit ≤ moment = grind (arith, nat_tests) in
          let own : nat_eq limit limit ≡ true = grind (arith, nat_tests) in
          absurd (false≢true (sym (none limit r most) ∙ marked ∙ own))

  stays : (r : ℕ) (o : Option AuditOpen) → opening_at new r ≡ o → o ≡ left_after moment o
  stays = grind (arith, not_come)

  pub closed_all : ClosesUntil old new moment
  closed_all = grind (arith, stays)
