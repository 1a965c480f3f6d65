-- The tables of what is open, where one that was open before is open again.
use Rattle.std.proofs.Common.{◌≡◌, ◌<◌, ◌≤◌, ◌++◌, ◌∷◌, ◌∙◌, ◌+◌, ◌^◌, ℕ, List, [], Bool, true, false, cond}
use Rattle.std.proofs.Common.{Option, Some, None, is_some, length, refl, sym, ap, arith}
use Rattle.std.proofs.lemmas.Bool.Decides.{nat_tests}
use Rattle.std.specs.Prelude.{filter, option_and_then, option_map}
use Rattle.std.specs.FinMap.{FinMap}
use Rattle.std.specs.Ordering.{nat_cmp}
use Rattle.std.specs.Option.{option_or}
use Rattle.std.specs.Prelude.{nat_lt}
use Rattle.rv_session.specs.Claims.{Claiming, if_above}
use Rattle.rv_session.specs.ClientOrder.{is_above}
use Rattle.rv_session.specs.declared.client.ClientState.{ClientState}
use Rattle.rv_session.specs.OwedDuty.{OwedDuty}
use Rattle.rv_due.specs.Deadlines.{Deadlines}
use Rattle.rv_account.specs.state.State.{OpenPlace, Waiter}
use Rattle.rv_model_queues.specs.Laying.{LaidOn}
use Rattle.rv_model_queues.specs.Views.{WaitQueues}
use Rattle.rv_machine.specs.open_places.OpenMap.{count_waiting, duty_at, with_limit}
use Rattle.rv_machine.specs.open_places.Indexed.{AreIndexed}
use Rattle.rv_machine.specs.open_places.Reopening.{CanBeClaimed, ClaimsUpTo, MayReopen, StandsOpen}
use Rattle.rv_machine.specs.open_places.Reopening.{duty_of_waiter}
use Rattle.rv_machine.proofs.OfOpenPlaces.Firsts.{count_owed}
use Rattle.rv_machine.proofs.OfOpenPlaces.Laying.{counted_more, laid_index}

fewer_left : {X : Type 0} (p : X → Bool) (xs : List X) → length (filter p xs) ≤ length xs
fewer_left p [] = omega arith
fewer_left p (x ∷ xs) = by_head (p x) (fewer_left p xs)
  where
    by_head : (b : Bool) → length (filter p xs) ≤ length xs
        → length (cond b (x ∷ filter p xs) (filter p xs)) ≤ length (x ∷ xs)
    by_head true less = omega (arith, less)
    by_head false less = omega (arith, less)

one_more : (b : Bool) → cond b 1 0 ≤ 1
one_more true = omega arith
one_more false = omega arith

-- who waits is counted
pub counts : (all : List OpenPlace) (old : WaitQueues) (waiting count : ℕ) (due : Deadlines) (one : OpenPlace)
    (claims : Claiming) (duty : Option OwedDuty) → AreIndexed all old waiting due
    → MayReopen all one claims → count ≡ cond (is_some duty) 1 0 → waiting + count < 2 ^ 64
counts all old waiting count due one claims duty is may count_is =
    let fewer : count_waiting all ≤ length all = fewer_left (λ (o : OpenPlace). is_some o.waiter) all in
    let most = one_more (is_some duty) in
    omega (arith, fewer, most, count_is, is.counted, may.few)

-- the duty of who waits is the one that is owed there
pub owed_there : (one : OpenPlace) (clients : FinMap nat_cmp ClientState) → StandsOpen one clients
    → duty_of_waiter clients one.waiter ≡ duty_at one
owed_there one clients stands = by_waiter one.waiter refl
  where
    by_waiter : (w : Option Waiter) → one.waiter ≡ w → duty_of_waiter clients w
        ≡ option_map (λ x. record { place = one.place; client = x.key.client }) w
    by_waiter None is = refl
    by_waiter (Some w) is =
        ap (option_map (λ place. record { place = place; client = w.key.client })) (stands.awaited w is)

pub reopened : (all : List OpenPlace) (old new : WaitQueues) (waiting count : ℕ) (due after : Deadlines)
    (one : OpenPlace) (claims : Claiming) (duty : Option OwedDuty)
    → AreIndexed all old waiting due
    → MayReopen all one claims → duty ≡ duty_of_waiter claims.table.clients one.waiter
    → LaidOn old new one.side one.place duty → count ≡ cond (is_some duty) 1 0
    → after ≡ with_limit one.limit one.place due → AreIndexed (all ++ one ∷ []) new (waiting + count) after
reopened all old new waiting count due after one claims duty is may duty_is laid count_is after_is =
    let owed : duty ≡ duty_at one = duty_is ∙ owed_there one claims.table.clients may.stands in
    let counted : count ≡ cond (is_some {T = Waiter} one.waiter) 1 0 =
    count_is ∙ ap (λ b. cond b 1 0) (count_owed one duty (sym owed)) in
    laid_index all old waiting due one is may.below new laid.waits
    (λ owes parked at. laid.parked owes parked (at ∙ sym owed)) may.stands.fits may.stands.limited
    (waiting + count) after
    (ap (λ n. n + count) is.counted ∙ ap (λ n. count_waiting all + n) counted
    ∙ sym (counted_more all old waiting due one is may.below))
    after_is

-- ---- duties that are made

-- the duty of who waits at the place can be made
pub can_claim : (one : OpenPlace) (claims : Claiming) → StandsOpen one claims.table.clients
    → is_above claims.last one.place ≡ true → CanBeClaimed claims one.waiter
can_claim one claims stands above = by_waiter one.waiter refl
  where
    by_waiter : (w : Option Waiter) → one.waiter ≡ w → CanBeClaimed claims w
    by_waiter None is = tt
    by_waiter (Some w) is =
        ap (option_and_then (if_above claims.last)) (stands.awaited w is)
        ∙ ap (λ (b : Bool). cond b (Some one.place) None) above
        ∙ sym (stands.awaited w is)

is_less : (x y : ℕ) → x < y → nat_lt x y ≡ true
is_less x y less = grind (arith, nat_tests)

-- what was made is of the place, if it was
pub claims_up_to : (one : OpenPlace) (clients : FinMap nat_cmp ClientState) → StandsOpen one clients
    → (before after : Option ℕ) (duty : Option OwedDuty) → duty ≡ duty_of_waiter clients one.waiter
    → after ≡ option_or (option_map (λ (d : OwedDuty). d.place) duty) before
    → ClaimsUpTo before one.place after
claims_up_to one clients stands before after duty duty_is is other less above =
    ap (λ (o : Option ℕ). is_above o other) (is ∙ ap (λ (d : Option OwedDuty).
    option_or (option_map (λ (x : OwedDuty). x.place) d) before) (duty_is ∙ owed_there one clients stands))
    ∙ by_waiter one.waiter
  where
    by_waiter : (w : Option Waiter) → is_above (option_or (option_map (λ (x : OwedDuty). x.place)
        (option_map (λ (x : Waiter). record { place = one.place; client = x.key.client }) w)) before) other
        ≡ true
    by_waiter None = above
    by_waiter (Some w) = is_less one.place other less

-- nothing was made: the last one stays
pub claims_none : (before : Option ℕ) (place : ℕ) → ClaimsUpTo before place before
claims_none before place other less above = above
