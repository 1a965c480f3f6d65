-- For crates that keep calls and give replies: what fits, part by part, and that two calls are the same or
-- not.
use Rattle.std.proofs.Common.{◌≡◌, ◌⊎◌, inl, inr, ℕ, List, ◌++◌, Bool, true, false, Option, Some, None, refl}
use Rattle.std.proofs.Common.{subst, arith, Decides}
use Rattle.std.specs.Str.{bytes_eq}
use Rattle.std.proofs.lemmas.Slice.Eq.{bytes_eq-Decides}
use Rattle.std.proofs.lemmas.Bool.{cases_order, false≢true}
use Rattle.std.proofs.lemmas.Option.{none-some, same_Some}
use Rattle.rv_text.specs.declared.call.Wait.{Wait}
use Rattle.rv_text.specs.declared.call.Wait.TheVariants as wait
use Rattle.rv_text.specs.declared.call.Call.{Call}
use Rattle.rv_text.specs.declared.call.Call.TheVariants as call
use Rattle.rv_text.specs.declared.answer.Reply.TheVariants as reply
use Rattle.rv_text.specs.Calls.{nature_of, side_of, wait_of, drains_of, item_of, MayWait}
use Rattle.rv_text.specs.Members.{IsWithin}
use Rattle.rv_text.specs.Rows.{side_row, max_or_wait_row, item_row, call_row}
use Rattle.rv_text.specs.Limits.{FitsMax, FitsItem, FitsCall, FitsReply}
use Rattle.rv_text.proofs.ByKind.{Each, Each-parts, each_within}

item_alone : (gives : Option (List ℕ)) (item : List ℕ) → gives ≡ Some item → Each IsWithin (item_row gives)
    → FitsItem item
item_alone None item is h = absurd (none-some item is)
item_alone (Some other) item is h = subst FitsItem (same_Some _ _ is) h.0

-- the item of a call that fits fits
pub item_fits : (call : Call) (item : List ℕ) → FitsCall call → item_of call ≡ Some item → FitsItem item
item_fits call item fits is =
    let n = nature_of call in
    let max_or_wait = max_or_wait_row n.drains n.wait in
    let rest = (Each-parts IsWithin (side_row n.side) (max_or_wait ++ item_row n.item)
    (each_within (call_row call) fits.0).1).1 in
    item_alone n.item item is (Each-parts IsWithin max_or_wait (item_row n.item) rest).1

max_alone : (drains : Option ℕ) (waits : Option Wait) (max : ℕ) → drains ≡ Some max
    → Each IsWithin (max_or_wait_row drains waits) → FitsMax max
max_alone None waits max is h = absurd (none-some max is)
max_alone (Some other) waits max is h = subst FitsMax (same_Some _ _ is) h.0

-- a drain that fits takes 1 to 16 items at most
pub max_fits : (call : Call) (max : ℕ) → FitsCall call → drains_of call ≡ Some max → FitsMax max
max_fits call max fits is =
    let n = nature_of call in
    let max_or_wait = max_or_wait_row n.drains n.wait in
    let rest = (Each-parts IsWithin (side_row n.side) (max_or_wait ++ item_row n.item)
    (each_within (call_row call) fits.0).1).1 in
    max_alone n.drains n.wait max is (Each-parts IsWithin max_or_wait (item_row n.item) rest).0

-- a call that fits has a wait of its side
pub may_wait : (call : Call) → FitsCall call → MayWait (side_of call) (wait_of call)
may_wait call fits = fits.1

-- replies of a word alone fit
pub done_fits : FitsReply reply.Done
done_fits = tt

pub empty_fits : FitsReply reply.Empty
empty_fits = tt

pub received_fits : FitsReply reply.Received
received_fits = tt

pub nobody_fits : FitsReply reply.Nobody
nobody_fits = tt

-- a swap's item that fits fits
pub swapped_fits : (item : List ℕ) → FitsItem item → FitsReply (reply.Swapped item)
swapped_fits item fits = fits

pub timed_out_fits : FitsReply reply.TimedOut
timed_out_fits = tt

pub cancelled_fits : FitsReply reply.Cancelled
cancelled_fits = tt

-- a peek's item that fits fits
pub peeked_fits : (item : List ℕ) → FitsItem item → FitsReply (reply.Peeked item)
peeked_fits item fits = fits

-- ---- whether two calls are the same

decided : (b : Bool) (A : Type 0) → Decides b A → A ⊎ (A → ⊥)
decided true A d = inl (d.0 refl)
decided false A d = inr (λ h. absurd (false≢true (d.1 h)))

same_text : (xs ys : List ℕ) → (xs ≡ ys) ⊎ (xs ≡ ys → ⊥)
same_text xs ys = decided (bytes_eq xs ys) (xs ≡ ys) (bytes_eq-Decides xs ys)

same_number : (m n : ℕ) → (m ≡ n) ⊎ (m ≡ n → ⊥)
same_number m n = elim (cases_order m n) [
  | inl same ↦ inl same
  | inr differ ↦ inr (λ same. elim differ [ inl less ↦ omega arith | inr more ↦ omega arith ])
]

-- two facts that make a third, and follow from it
both : {A B C : Type 0} → A ⊎ (A → ⊥) → B ⊎ (B → ⊥) → (A → B → C) → (C → A × B) → C ⊎ (C → ⊥)
both (inl a) (inl b) make parts = inl (make a b)
both (inl a) (inr apart) make parts = inr (λ c. apart (parts c).1)
both (inr apart) b make parts = inr (λ c. apart (parts c).0)

-- a fact that follows from another and leads to it
alone : {A C : Type 0} → A ⊎ (A → ⊥) → (A → C) → (C → A) → C ⊎ (C → ⊥)
alone (inl a) make part = inl (make a)
alone (inr apart) make part = inr (λ c. apart (part c))

millis_part : (m n : ℕ) → wait.Millis m ≡ wait.Millis n → m ≡ n
millis_part m n e = cc

same_wait : (v w : Wait) → (v ≡ w) ⊎ (v ≡ w → ⊥)
same_wait wait.Now wait.Now = inl refl
same_wait (wait.Millis m) (wait.Millis n) = alone (same_number m n) (λ millis. cc) (millis_part m n)
same_wait wait.Forever wait.Forever = inl refl
same_wait _ _ = inr (λ e. absurd (let no : ⊥ = cc in no))

put_parts : (q r : ℕ) (i j : List ℕ) → call.Put q i ≡ call.Put r j → (q ≡ r) × (i ≡ j)
put_parts q r i j e = (cc, cc)

transfer_parts : (q r : ℕ) (i j : List ℕ) (v w : Wait) → call.Transfer q i v ≡ call.Transfer r j w
    → (call.Put q i ≡ call.Put r j) × (v ≡ w)
transfer_parts q r i j v w e = let queue : q ≡ r = cc in let item : i ≡ j = cc in (cc, cc)

swap_parts : (m n : ℕ) (i j : List ℕ) (v w : Wait) → call.Swap m i v ≡ call.Swap n j w
    → (call.Put m i ≡ call.Put n j) × (v ≡ w)
swap_parts m n i j v w e = let exchanger : m ≡ n = cc in let item : i ≡ j = cc in (cc, cc)

take_parts : (q r : ℕ) (v w : Wait) → call.Take q v ≡ call.Take r w → (q ≡ r) × (v ≡ w)
take_parts q r v w e = (cc, cc)

drain_parts : (q r m n : ℕ) → call.Drain q m ≡ call.Drain r n → (q ≡ r) × (m ≡ n)
drain_parts q r m n e = (cc, cc)

same_put : (q r : ℕ) (i j : List ℕ) → (call.Put q i ≡ call.Put r j) ⊎ (call.Put q i ≡ call.Put r j → ⊥)
same_put q r i j = both (same_number q r) (same_text i j) (λ queue item. cc) (put_parts q r i j)

pub same_call : (c d : Call) → (c ≡ d) ⊎ (c ≡ d → ⊥)
same_call (call.Put q i) (call.Put r j) = same_put q r i j
same_call (call.Transfer q i v) (call.Transfer r j w) = both (same_put q r i j) (same_wait v w)
    (λ put wait. let parts = put_parts q r i j put in cc) (transfer_parts q r i j v w)
same_call (call.Take q v) (call.Take r w) = both (same_number q r) (same_wait v w) (λ queue wait. cc)
    (take_parts q r v w)
same_call (call.Swap m i v) (call.Swap n j w) = both (same_put m n i j) (same_wait v w)
    (λ put wait. let parts = put_parts m n i j put in cc) (swap_parts m n i j v w)
same_call (call.Count q) (call.Count r) = alone (same_number q r) (λ queue. cc) (λ e. cc)
same_call (call.Peek q) (call.Peek r) = alone (same_number q r) (λ queue. cc) (λ e. cc)
same_call (call.Drain q m) (call.Drain r n) = both (same_number q r) (same_number m n) (λ queue max. cc)
    (drain_parts q r m n)
same_call _ _ = inr (λ e. absurd (let no : ⊥ = cc in no))
