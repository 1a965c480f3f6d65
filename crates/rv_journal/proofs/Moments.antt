-- How a crash at any moment of some calls goes on over one more.
use Rattle.std.proofs.Common.{◌∙◌, inl, inr, ⊎_elim, ℕ, List, arith, refl}
use Rattle.rv_journal.specs.Device.{Disk, Elapses, LeavesOnly}

pub started : {D : Type 0} (disk : Disk D) (now : D) (P : List ℕ → Type 0)
    → ((c : List ℕ) → disk.may_leave now c → P c) → LeavesOnly disk now now P
started disk now P so =
    record {
      same = refl;
      later = omega arith;
      each = λ c left. so c (disk.only_now now c left);
      before = λ t c le left. inl left;
    }

pub goes_on : {D : Type 0} (disk : Disk D) (old mid new : D) (P : List ℕ → Type 0) → LeavesOnly disk old mid P
    → Elapses disk mid new → ((c : List ℕ) → disk.may_leave new c → P c) → LeavesOnly disk old new P
goes_on disk old mid new P so_far time so =
    record {
      same = time.same ∙ so_far.same;
      later = omega (arith, so_far.later, time.later);
      each = λ c left. ⊎_elim (λ (was : disk.left_since mid (disk.moment old) c). so_far.each c was) (so c)
          (time.nothing_else (disk.moment old) c so_far.later left);
      before = λ t c le left. ⊎_elim (λ (was : disk.left_since mid t c). so_far.before t c le was)
          (λ (now : disk.may_leave new c). inr (so c now)) (time.nothing_else t c
          (omega (arith, le, so_far.later)) left);
    }

pub weaker : {D : Type 0} (disk : Disk D) (old new : D) (P Q : List ℕ → Type 0) → LeavesOnly disk old new P
    → ((c : List ℕ) → P c → Q c) → LeavesOnly disk old new Q
weaker disk old new P Q only so =
    record {
      same = only.same;
      later = only.later;
      each = λ c left. so c (only.each c left);
      before = λ t c le left. ⊎_elim (λ (was : disk.left_since old t c). inl was) (λ (p : P c). inr (so c p))
          (only.before t c le left);
    }

-- two runs, one after the other
pub joined : {D : Type 0} (disk : Disk D) (old mid new : D) (P : List ℕ → Type 0) → LeavesOnly disk old mid P
    → LeavesOnly disk mid new P → LeavesOnly disk old new P
joined disk old mid new P first second =
    record {
      same = second.same ∙ first.same;
      later = omega (arith, first.later, second.later);
      each = λ c left. ⊎_elim (λ (was : disk.left_since mid (disk.moment old) c). first.each c was)
          (λ (p : P c). p) (second.before (disk.moment old) c first.later left);
      before = λ t c le left. ⊎_elim (λ (was : disk.left_since mid t c). first.before t c le was)
          (λ (p : P c). inr p) (second.before t c (omega (arith, le, first.later)) left);
    }
