-- One call stands at a place since a moment.
use Rattle.std.proofs.Common.{◌≡◌, ◌+◌, ◌∙◌, ℕ, List, Option, Some, None, IsSome, ap, arith, refl, sym}
use Rattle.std.specs.Prelude.{option_and_then}
use Rattle.rv_account.specs.Calls.{Lasts, limit_after}
use Rattle.rv_account.specs.state.Standing.{StandsFor}
use Rattle.rv_session.specs.declared.open.OpenPlace.{OpenPlace}
use Rattle.rv_text.specs.Calls.{item_of, side_of, wait_of}
use Rattle.rv_text.specs.declared.call.Call.{Call}
use Rattle.rv_text.specs.declared.call.Call.TheVariants as call
use Rattle.rv_text.specs.declared.call.Side.{Side}
use Rattle.rv_text.specs.declared.call.Side.TheVariants.{Exchanges, Gives, Takes}
use Rattle.rv_text.specs.declared.call.Wait.{Wait}
use Rattle.rv_text.specs.declared.call.Wait.TheVariants.{Forever, Millis, Now}

-- one wait ends at a limit
one_wait : (since : ℕ) (v w : Option Wait) → IsSome v → IsSome w → Lasts v → Lasts w
    → option_and_then (limit_after since) v ≡ option_and_then (limit_after since) w → v ≡ w
one_wait since None w some some' lasts lasts' same = absurd (cc)
one_wait since (Some v) None some some' lasts lasts' same = absurd (cc)
one_wait since (Some Now) (Some w) some some' lasts lasts' same = absurd lasts
one_wait since (Some v) (Some Now) some some' lasts lasts' same = absurd lasts'
one_wait since (Some (Millis n)) (Some (Millis m)) some some' lasts lasts' same =
    let ends : since + n ≡ since + m = cc in
    let long : n ≡ m = omega (arith, ends) in
    ap (λ k. Some (Millis k)) long
one_wait since (Some (Millis n)) (Some Forever) some some' lasts lasts' same = absurd (cc)
one_wait since (Some Forever) (Some (Millis m)) some some' lasts lasts' same = absurd (cc)
one_wait since (Some Forever) (Some Forever) some some' lasts lasts' same = refl

-- a call that waits, by its side, its item and its wait
abbrev by_parts : Side → Option (List ℕ) → Option Wait → Call
by_parts (Gives queue) (Some item) (Some wait) = call.Transfer queue item wait
by_parts (Takes queue) item (Some wait) = call.Take queue wait
by_parts (Exchanges exchanger) (Some item) (Some wait) = call.Swap exchanger item wait
by_parts side item wait = call.Count 0

waiting_is : (c : Call) → IsSome (wait_of c) → Lasts (wait_of c)
    → c ≡ by_parts (side_of c) (item_of c) (wait_of c)
waiting_is (call.Put queue item) some lasts = absurd (cc)
waiting_is (call.Transfer queue item wait) some lasts = refl
waiting_is (call.Take queue wait) some lasts = refl
waiting_is (call.Swap exchanger item wait) some lasts = refl
waiting_is (call.Count queue) some lasts = absurd (cc)
waiting_is (call.Peek queue) some lasts = absurd (cc)
waiting_is (call.Drain queue max) some lasts = absurd lasts

pub call_once : (there : OpenPlace) (since : ℕ) (c d : Call) → StandsFor there since c
    → StandsFor there since d → c ≡ d
call_once there since c d x y =
    let wait = one_wait since (wait_of c) (wait_of d) x.may_wait y.may_wait x.lasts y.lasts
    (sym x.limit ∙ y.limit) in
    let side = sym x.side ∙ y.side in
    let item = sym x.item ∙ y.item in
    waiting_is c x.may_wait x.lasts ∙ (λ i. by_parts (side i) (item i) (wait i))
    ∙ sym (waiting_is d y.may_wait y.lasts)
