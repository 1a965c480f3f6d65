-- One more call joins those that a file has had.
use Rattle.std.proofs.Common.{◌≡◌, inl, inr, ⊎_elim, ℕ, ◌<◌, ◌≤◌, List, [], ◌∷◌, ◌++◌, length, take}
use Rattle.std.proofs.Common.{refl, sym, ◌∙◌, ap, subst, arith, length-append}
use Rattle.std.proofs.lemmas.Bool.{cases_lt}
use Rattle.std.proofs.lemmas.List.{take_all, take-append-le}
use Rattle.rv_journal.specs.Device.{Elapses}
use Rattle.rv_journal.specs.Memory.{HasSome, IsCalled, LeavesAfter, LeavesOf, MemoryState, after_call}
use Rattle.rv_journal.specs.Memory.{after_calls}
use Rattle.rv_journal.specs.Memory.{memory_disk}
use Rattle.rv_journal.specs.declared.testing.memory.DeviceCall.{DeviceCall}
use Rattle.rv_journal.specs.declared.testing.memory.DeviceCall.TheVariants.{Write, Sync}

-- what the last of the calls makes of it
after_last : (file : List ℕ) (calls : List DeviceCall) (call : DeviceCall)
    → after_calls file (calls ++ call ∷ []) ≡ after_call (after_calls file calls) call
after_last file [] call = refl
after_last file (first ∷ calls) call = after_last (after_call file first) calls call

-- and what a crash leaves after it
last_left : (was : List ℕ → Type 0) (file : List ℕ) (calls : List DeviceCall) (call : DeviceCall) (c : List ℕ)
    → LeavesAfter was file (calls ++ call ∷ []) c
    → LeavesAfter (λ d. LeavesAfter was file calls d) (after_calls file calls) (call ∷ []) c
last_left was file [] call c left = left
last_left was file (Write at bytes ∷ calls) call c left = last_left (λ new. (old : List ℕ) × was old
    × HasSome at bytes.items old new) (after_call file (Write at bytes)) calls call c left
last_left was file (Sync ∷ calls) call c left = last_left (λ new. new ≡ file) file calls call c left

last_leaves : (was : List ℕ → Type 0) (file : List ℕ) (calls : List DeviceCall) (call : DeviceCall)
    (c : List ℕ) → LeavesAfter (λ d. LeavesAfter was file calls d) (after_calls file calls) (call ∷ []) c
    → LeavesAfter was file (calls ++ call ∷ []) c
last_leaves was file [] call c left = left
last_leaves was file (Write at bytes ∷ calls) call c left = last_leaves (λ new. (old : List ℕ) × was old
    × HasSome at bytes.items old new) (after_call file (Write at bytes)) calls call c left
last_leaves was file (Sync ∷ calls) call c left = last_leaves (λ new. new ≡ file) file calls call c left

-- what may be left of one file may be left of all that has it
one_of : (was : List ℕ → Type 0) (one seen : List ℕ) → was one → (call : DeviceCall) (c : List ℕ)
    → LeavesAfter (λ d. d ≡ one) seen (call ∷ []) c → LeavesAfter was seen (call ∷ []) c
one_of was one seen so (Write at bytes) c left = (
  left.0,
  subst (λ (d : List ℕ). was d) (sym left.1) so,
  left.2,
)
one_of was one seen so Sync c left = left

-- a file is written anew call by call
pub record HasReplayed (first : List ℕ) (calls : List DeviceCall) (seen left : List ℕ) : Type 0 where
  pub seen_is : seen ≡ after_calls first calls
  pub left_is : LeavesOf first calls left

pub none_replayed : (first seen left : List ℕ) → seen ≡ first → left ≡ first → HasReplayed first [] seen left
none_replayed first seen left seen_is left_is = record { seen_is = seen_is; left_is = left_is }

pub one_replayed : (first : List ℕ) (calls : List DeviceCall) (seen left : List ℕ)
    → HasReplayed first calls seen left → (call : DeviceCall) (then_seen then_left : List ℕ)
    → then_seen ≡ after_call seen call → LeavesAfter (λ d. d ≡ left) seen (call ∷ []) then_left
    → HasReplayed first (calls ++ call ∷ []) then_seen then_left
one_replayed first calls seen left had call then_seen then_left seen_is left_is = record {
  seen_is = seen_is ∙ ap (λ (l : List ℕ). after_call l call) had.seen_is ∙ sym (after_last first calls call);
  left_is = last_leaves (λ d. d ≡ first) first calls call then_left (one_of (LeavesOf first calls) left
      (after_calls first calls) had.left_is call then_left
      (subst (λ (l : List ℕ). LeavesAfter (λ d. d ≡ left) l (call ∷ []) then_left) had.seen_is left_is));
}

module _ (old new : MemoryState) (call : DeviceCall) (is : IsCalled call old new) where
  both : {T : Type 0} (f : List ℕ → List DeviceCall → T) → f new.first new.calls
      ≡ f old.first (old.calls ++ call ∷ [])
  both f = ap (λ (first : List ℕ). f first new.calls) is.first
      ∙ ap (λ (calls : List DeviceCall). f old.first calls) is.calls

  pub seen_after : memory_disk.seen new ≡ after_call (memory_disk.seen old) call
  seen_after = both after_calls ∙ after_last old.first old.calls call

  pub left_after : (c : List ℕ) → memory_disk.may_leave new c
      → LeavesAfter (memory_disk.may_leave old) (memory_disk.seen old) (call ∷ []) c
  left_after c left = last_left (λ d. d ≡ old.first) old.first old.calls call c
      (subst (λ (calls : List DeviceCall). LeavesOf old.first calls c) is.calls
      (subst (λ (first : List ℕ). LeavesOf first new.calls c) is.first left))

  longer : length new.calls ≡ length (old.calls ++ call ∷ [])
  longer = ap length is.calls

  sooner : (k : ℕ) → k ≤ length old.calls → take k new.calls ≡ take k old.calls
  sooner k le = ap (λ (l : List DeviceCall). take k l) is.calls ∙ take-append-le k old.calls (call ∷ []) le

  pub elapses_to : Elapses memory_disk old new
  elapses_to = record {
    same = is.number;
    later = omega (arith, longer, length-append old.calls (call ∷ []));
    nothing_else = λ t c le left. ⊎_elim (λ (after : length old.calls < left.0). inr
        (subst (λ (l : List DeviceCall). LeavesOf new.first l c) (take_all left.0 new.calls
        (omega (arith, after, longer, length-append old.calls (call ∷ [])))) left.3))
        (λ (was : left.0 ≤ length old.calls). inl (
          left.0,
          left.1,
          was,
          subst (λ (f : List ℕ). LeavesOf f (take left.0 old.calls) c) is.first
              (subst (λ (l : List DeviceCall). LeavesOf new.first l c) (sooner left.0 was) left.3),
        ))
        (cases_lt (length old.calls) left.0);
    keeps = λ t c le left. (
      left.0,
      left.1,
      omega (arith, left.2, longer, length-append old.calls (call ∷ [])),
      subst (λ (f : List ℕ). LeavesOf f (take left.0 new.calls) c) (sym is.first)
          (subst (λ (l : List DeviceCall). LeavesOf old.first l c) (sym (sooner left.0 left.2)) left.3),
    );
  }
