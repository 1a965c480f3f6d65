-- The place that opens where an arrival stays.
use Rattle.std.proofs.Common.{◌≡◌, ◌≢◌, ◌<◌, ◌+◌, ◌++◌, ◌∷◌, ◌∙◌, ◌&&◌, ℕ, zero, suc, List, []}
use Rattle.std.proofs.Common.{Bool, true, false}
use Rattle.std.proofs.Common.{Option, Some, None, IsSome, is_some, inl, inr, refl, sym, ap, subst, arith}
use Rattle.std.proofs.Common.{slice_get, take}
use Rattle.std.specs.Prelude.{option_and_then}
use Rattle.std.proofs.lemmas.Bool.{false≢true}
use Rattle.std.proofs.lemmas.Bool.Decides.{nat_tests}
use Rattle.rv_text.specs.declared.call.Call.{Call}
use Rattle.rv_text.specs.declared.call.Call.TheVariants as call
use Rattle.rv_text.specs.declared.call.Wait.{Wait}
use Rattle.rv_text.specs.declared.call.Wait.TheVariants.{Now, Millis, Forever}
use Rattle.rv_text.specs.declared.message.Key.{Key}
use Rattle.rv_text.specs.Calls.{side_of, wait_of}
use Rattle.rv_text.specs.Limits.{FitsCall}
use Rattle.rv_account.specs.Calls.{Lasts, Stays, limit_after, limit_of, may_name, opposite}
use Rattle.rv_account.proofs.OfRules.CallKinds.{staying_single}
use Rattle.rv_account.specs.state.After.{lasts_by, met_by, opened_by, stays_open, waiter_of}
use Rattle.rv_account.specs.state.State.{OpenPlace, State, Waiter, line_of, opposites, same_side}
use Rattle.rv_account.proofs.OfState.Words.{none-some, same_Some}
use Rattle.rv_account.proofs.OfState.Filtered.{append_get, get_filter}
use Rattle.rv_account.proofs.OfState.SideLines.{same_side_itself}
use Rattle.rv_account.specs.state.resume.Resuming.{IsOpenIn, LiesOpen}

-- ---- rising places

in_end : (v o : OpenPlace) (j : ℕ) → slice_get (v ∷ []) j ≡ Some o → v ≡ o
in_end v o zero at = same_Some _ _ at
in_end v o (suc j) at = absurd (none-some o at)

pub one_of_one : (v o : OpenPlace) → (j : ℕ) × (slice_get (v ∷ []) j ≡ Some o) → v ≡ o
one_of_one v o at = in_end v o at.0 at.1

abbrev Rise : List OpenPlace → Type 0
Rise all = (i j : ℕ) (one other : OpenPlace) → i < j → slice_get all i ≡ Some one
    → slice_get all j ≡ Some other → one.place < other.place

-- with one more, above all others
pub rise_end : (all : List OpenPlace) (v : OpenPlace) → Rise all
    → ((i : ℕ) (o : OpenPlace) → slice_get all i ≡ Some o → o.place < v.place) → Rise (all ++ v ∷ [])
rise_end [] v rise below zero zero one other less at there = absurd (omega arith)
rise_end [] v rise below i (suc j) one other less at there = absurd (none-some other there)
rise_end [] v rise below (suc i) zero one other less at there = absurd (omega arith)
rise_end (x ∷ all) v rise below i zero one other less at there = absurd (omega arith)
rise_end (x ∷ all) v rise below zero (suc j) one other less at there = elim (append_get all (v ∷ []) j other
    there) [
      | inl before ↦ rise 0 (suc before.0) one other (omega arith) at before.1
      | inr last ↦ subst (λ (o : OpenPlace). one.place < o.place) (in_end v other last.0 last.1)
          (below 0 one at)
    ]
rise_end (x ∷ all) v rise below (suc i) (suc j) one other less at there =
    rise_end all v (λ k l a b under first second. rise (suc k) (suc l) a b (omega arith) first second)
    (λ k o first. below (suc k) o first) i j one other (omega arith) at there

-- ---- what stays

both_first : (b c : Bool) → (b && c) ≡ true → b ≡ true
both_first true c is = refl
both_first false c is = is

both_second : (b c : Bool) → (b && c) ≡ true → c ≡ true
both_second true c is = is
both_second false c is = absurd (false≢true is)

lasts_is : (wait : Option Wait) → lasts_by wait ≡ true → Lasts wait
lasts_is None is = tt
lasts_is (Some Now) is = absurd (false≢true is)
lasts_is (Some (Millis n)) is = grind (arith, nat_tests)
lasts_is (Some Forever) is = tt

-- what stays met nobody
pub none_met : (c : Call) (met : List OpenPlace) → stays_open c met ≡ true → met ≡ []
none_met c [] stays = refl
none_met c (first ∷ others) stays = absurd (false≢true stays)

pub stays_by : (c : Call) (met : List OpenPlace) → stays_open c met ≡ true → Stays c
stays_by c [] stays = (
  both_first (is_some (opposite (side_of c))) (lasts_by (wait_of c)) stays,
  lasts_is (wait_of c) (both_second (is_some (opposite (side_of c))) (lasts_by (wait_of c)) stays),
)
stays_by c (first ∷ others) stays = absurd (false≢true stays)

none_taken : (n : ℕ) (l : List OpenPlace) → n ≡ 1 → take n l ≡ [] → l ≡ []
none_taken n [] one none = refl
none_taken n (x ∷ l) one none = absurd (some_taken (sym (ap (λ k. take k (x ∷ l)) one) ∙ none))
  where
    some_taken : x ∷ take 0 l ≡ [] → ⊥
    some_taken is = cc

pub none_opposite : (s : State) (c : Call) → stays_open c (met_by s c) ≡ true → opposites s c ≡ []
none_opposite s c stays = none_taken (may_name c) (opposites s c)
    (staying_single c (stays_by c (met_by s c) stays)) (none_met c (met_by s c) stays)

-- nobody stands on a side that it meets
pub faces_none : (s : State) (c : Call) (there : OpenPlace) → stays_open c (met_by s c) ≡ true
    → IsOpenIn s there → opposite (side_of c) ≢ Some there.side
faces_none s c there stays at opposes =
    let none : opposites s c ≡ [] = none_opposite s c stays in
    let found = get_filter (λ (o : OpenPlace). same_side o.side there.side) s.open_places at.0 there at.1
    (same_side_itself there.side) in
    none-some there (sym (ap (λ (l : List OpenPlace). slice_get l found.0) (sym (ap (line_of s) opposes)
    ∙ none))
    ∙ found.1)

-- ---- its waiter and limit

pub waiter_is : (key : Key) (moment : ℕ) (wait : Option Wait) (w : Waiter)
    → waiter_of key moment wait ≡ Some w
    → w ≡ record { key = key; since = moment }
waiter_is key moment None w is = absurd (none-some w is)
waiter_is key moment (Some wait) w is = sym (same_Some _ _ is)

pub waiter_there : (key : Key) (moment : ℕ) (wait : Option Wait) → IsSome wait
    → waiter_of key moment wait ≡ Some (record { key = key; since = moment })
waiter_there key moment None some = absurd (false≢true some)
waiter_there key moment (Some wait) some = refl

abbrev limit_by : ℕ → Option Wait → Option ℕ
limit_by moment wait = option_and_then (limit_after moment) wait

limit_later : (moment limit : ℕ) (wait : Option Wait) → Lasts wait → (o : Option Wait) → wait ≡ o
    → limit_by moment o ≡ Some limit → moment < limit
limit_later moment limit wait lasts None is has = absurd (none-some limit has)
limit_later moment limit wait lasts (Some Now) is has = absurd (none-some limit has)
limit_later moment limit wait lasts (Some Forever) is has = absurd (none-some limit has)
limit_later moment limit wait lasts (Some (Millis n)) is has =
    let some : 0 < n = subst Lasts is lasts in
    let same : moment + n ≡ limit = same_Some _ _ has in omega (arith, some, same)

-- its limit is after the moment
pub limit_behind : (moment limit : ℕ) (c : Call) → Stays c → limit_of moment c ≡ Some limit → moment < limit
limit_behind moment limit c stays has = limit_later moment limit (wait_of c) stays.1 (wait_of c) refl has

-- a put's item lies there
pub put_lies : (s : State) (moment : ℕ) (key : Key) (c : Call) → FitsCall c → Stays c → wait_of c ≡ None
    → LiesOpen (opened_by s moment key c)
put_lies s moment key (call.Put queue item) fits stays none = record {
  queue = queue;
  side = refl;
  queue_fits = fits.0.0;
  item = item;
  has = refl;
  item_fits = fits.0.1;
  unlimited = refl;
}
put_lies s moment key (call.Transfer queue item wait) fits stays none = absurd (none-some wait (sym none))
put_lies s moment key (call.Take queue wait) fits stays none = absurd (none-some wait (sym none))
put_lies s moment key (call.Swap exchanger item wait) fits stays none = absurd (none-some wait (sym none))
put_lies s moment key (call.Count queue) fits stays none = absurd (false≢true stays.0)
put_lies s moment key (call.Peek queue) fits stays none = absurd (false≢true stays.0)
put_lies s moment key (call.Drain queue max) fits stays none = absurd (none-some Now (sym none))
