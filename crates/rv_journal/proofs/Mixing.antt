-- A write and a sync after it leave what mixes the bytes into what there was.
use Rattle.std.proofs.Common.{◌≡◌, ◌⊎◌, inl, inr, ⊎_elim, ℕ, ◌+◌, ◌<◌, List, length, get_or, refl, sym, ◌∙◌}
use Rattle.std.proofs.Common.{ap, subst, arith}
use Rattle.std.specs.Prelude.{IsTrue}
use Rattle.std.proofs.Math.ListN.{set}
use Rattle.std.proofs.lemmas.Bool.{cases_eq}
use Rattle.std.proofs.lemmas.List.{get_or-set_other, get_or-set_same, length-set}
use Rattle.rv_journal.specs.Device.{Disk, Holds, IsRewritten, KeepsFile, LeavesOnly, MayMix, Mixed, Only}
use Rattle.rv_journal.specs.Device.{Rewrites, WritesFile}
use Rattle.rv_journal.proofs.Moments.{started, goes_on}

-- a file is one of the ways to mix bytes into it
pub mixed_same : (at : ℕ) (bytes file : List ℕ) → Mixed at bytes file file
mixed_same at bytes file = record {
  no_shorter = omega arith;
  no_longer = omega arith;
  below =
      λ i low before. refl;
  above = λ i low after. refl;
  each = λ i low within. inl refl;
}

-- and so it is with one of its old bytes back
module _ (at : ℕ) (bytes old new : List ℕ) (mixed : Mixed at bytes old new) (place : ℕ) where
  abbrev pub back : List ℕ
  back = set new place (get_or old place 0)

  size : length back ≡ length new
  size = length-set new place (get_or old place 0)

  byte : (i : ℕ) → i < length old → (get_or back i 0 ≡ get_or old i 0) ⊎ (get_or back i 0 ≡ get_or new i 0)
  byte i low = ⊎_elim (λ (is : i ≡ place). inl (ap (λ (n : ℕ). get_or back n 0) is
      ∙ get_or-set_same new place (get_or old place 0) 0 (omega (arith, low, is, mixed.no_shorter))
      ∙ ap (λ (n : ℕ). get_or old n 0) (sym is)))
      (λ (other : i ≡ place → ⊥). inr (get_or-set_other new place i (get_or old place 0) 0 other))
      (cases_eq i place)

  kept : (i : ℕ) → i < length old → get_or new i 0 ≡ get_or old i 0 → get_or back i 0 ≡ get_or old i 0
  kept i low same = ⊎_elim (λ (was : get_or back i 0 ≡ get_or old i 0). was)
      (λ (is : get_or back i 0 ≡ get_or new i 0). is ∙ same) (byte i low)

  pub mixed_back : Mixed at bytes old back
  mixed_back = record {
    no_shorter = omega (arith, size, mixed.no_shorter);
    no_longer = omega (arith, size, mixed.no_longer);
    below = λ i low before. kept i low (mixed.below i low before);
    above = λ i low after. kept i low (mixed.above i low after);
    each = λ i within low. ⊎_elim (λ (was : get_or back (at + i) 0 ≡ get_or old (at + i) 0). inl was)
        (λ (is : get_or back (at + i) 0 ≡ get_or new (at + i) 0).
        ⊎_elim (λ (old_one : get_or new (at + i) 0 ≡ get_or old (at + i) 0). inl (is ∙ old_one))
        (λ (written : get_or new (at + i) 0 ≡ get_or bytes i 0). inr (is ∙ written))
        (mixed.each i within low)) (byte (at + i) low);
  }

module _ {D : Type 0} (disk : Disk D) (at : ℕ) (bytes : List ℕ) (old mid : D) (writes : WritesFile disk at
    bytes
    old mid) where
  at_first : LeavesOnly disk old old (MayMix disk at bytes old)
  at_first = started disk old (MayMix disk at bytes old) (λ c left. (c, left, mixed_same at bytes c))

  any_written : LeavesOnly disk old mid (MayMix disk at bytes old)
  any_written = goes_on disk old old mid (MayMix disk at bytes old) at_first writes.time writes.crash

  pub rewrites_written : Rewrites disk at bytes old mid
  rewrites_written = record { tells = writes.tells; others = writes.others; any_moment = any_written }

  module _ (new : D) (keeps : KeepsFile disk mid new) where
    pub rewrites_synced : Rewrites disk at bytes old new
    rewrites_synced = record {
      tells = keeps.tells ∙ writes.tells;
      others = λ told. subst (λ (f : List ℕ). Mixed at bytes (disk.seen old) f)
          (sym (keeps.seen (writes.tells ∙ told))) (writes.others told);
      any_moment = goes_on disk old mid new (MayMix disk at bytes old) any_written keeps.time
          (λ c left. writes.crash c (keeps.crash c left));
    }

    pub is_rewritten : IsTrue (disk.tells mid) → Holds (disk.seen old) at bytes (disk.seen mid)
        → Only (disk.seen mid) (disk.may_leave new) → IsRewritten disk at bytes old new
    is_rewritten told holds only = record {
      holds = subst (λ (f : List ℕ). Holds (disk.seen old) at bytes f) (sym (keeps.seen told)) holds;
      durable = subst (λ (f : List ℕ). Only f (disk.may_leave new)) (sym (keeps.seen told)) only;
    }
