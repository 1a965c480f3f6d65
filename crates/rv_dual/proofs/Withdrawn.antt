-- A queue from which the request at a place was withdrawn.
use Rattle.std.proofs.Common.{◌≡◌, ◌⊎◌, inl, inr, ℕ, [], List, Option, Some, None, ap, ◌∙◌}
use Rattle.std.specs.Prelude.{IfSome, IfNone, not}
use Rattle.std.proofs.lemmas.Option.{slice_get-get_or}
use Rattle.std.proofs.lemmas.List.Kept.{AllPairs-filter}
use Rattle.rv_session.specs.OwedDuty.{OwedDuty}
use Rattle.rv_dual.specs.declared.giver.Offer.{Offer}
use Rattle.rv_dual.specs.declared.giver.Offer.TheVariants.{Waits}
use Rattle.rv_dual.specs.Offers.{is_at, waits_at, IsEarlier, IsEarlierTaker}
use Rattle.rv_dual.specs.Entries.{PassesNowhere}
use Rattle.rv_dual.specs.Slots.{WaitingLine}
use Rattle.rv_dual.specs.Queue.{Queue, IsDual, KeepsRooms}
use Rattle.rv_dual.specs.Withdrawing.{TakesAt, WaitsAt, Withdraws, without_giver, without_taker}
use Rattle.rv_dual.proofs.Found.{other_place}

giver_side : (place : ℕ) (givers : List Offer) (takers : List OwedDuty) → (givers ≡ []) ⊎ (takers ≡ [])
    → (without_giver place givers ≡ []) ⊎ (takers ≡ [])
giver_side place givers takers (inl none) = inl (ap (without_giver place) none)
giver_side place givers takers (inr none) = inr none

taker_side : (place : ℕ) (givers : List Offer) (takers : List OwedDuty) → (givers ≡ []) ⊎ (takers ≡ [])
    → (givers ≡ []) ⊎ (without_taker place takers ≡ [])
taker_side place givers takers (inl none) = inl none
taker_side place givers takers (inr none) = inr (ap (without_taker place) none)

pub dual_without_giver : (place : ℕ) (givers : List Offer) (takers : List OwedDuty) → IsDual givers takers
    → IsDual (without_giver place givers) takers
dual_without_giver place givers takers is = record {
  one_side = giver_side place givers takers is.one_side;
  givers_rise = AllPairs-filter IsEarlier (λ offer. not (waits_at place offer)) givers is.givers_rise;
  takers_rise = is.takers_rise;
}

pub dual_without_taker : (place : ℕ) (givers : List Offer) (takers : List OwedDuty) → IsDual givers takers
    → IsDual givers (without_taker place takers)
dual_without_taker place givers takers is = record {
  one_side = taker_side place givers takers is.one_side;
  givers_rise = is.givers_rise;
  takers_rise = AllPairs-filter IsEarlierTaker (λ duty. not (is_at place duty)) takers is.takers_rise;
}

nobody : (q : Queue) (place : ℕ) → PassesNowhere (waits_at place) q.givers
    → PassesNowhere (is_at place) q.takers → (duty : OwedDuty) → ¬ WaitsAt q place duty
nobody q place no_giver no_taker duty (inl gives) =
    let at = gives.0 in
    other_place duty.place place (no_giver at.0 (Waits duty) (slice_get-get_or q.givers at.0 (Waits duty) at.1
    ∙ ap Some at.2)) gives.1
nobody q place no_giver no_taker duty (inr takes) =
    let at = takes.0 in
    other_place duty.place place (no_taker at.0 duty (slice_get-get_or q.takers at.0 duty at.1
    ∙ ap Some at.2)) takes.1

taker_waits : (q : Queue) (place : ℕ) (result : Option OwedDuty) → IfSome result (TakesAt q.takers place)
    → IfSome result (WaitsAt q place)
taker_waits q place None takes = tt
taker_waits q place (Some duty) takes = inr takes

nobody_waits : (q : Queue) (place : ℕ) (result : Option OwedDuty) → PassesNowhere (waits_at place) q.givers
    → IfNone result (PassesNowhere (is_at place) q.takers)
    → IfNone result ((duty : OwedDuty) → ¬ WaitsAt q place duty)
nobody_waits q place None no_giver no_taker = nobody q place no_giver no_taker
nobody_waits q place (Some duty) no_giver no_taker = tt

pub withdraws_taker : (old new : Queue) (place : ℕ) (result : Option OwedDuty)
    → PassesNowhere (waits_at place) old.givers → IfSome result (TakesAt old.takers place)
    → IfNone result (PassesNowhere (is_at place) old.takers) → new.givers ≡ without_giver place old.givers
    → new.takers ≡ without_taker place old.takers
    → KeepsRooms old new → IfNone result (new ≡ old) → Withdraws old new place result
withdraws_taker old new place result no_giver takes no_taker givers takers room same = record {
  some = taker_waits old place result takes;
  none = nobody_waits old place result no_giver no_taker;
  same = same;
  givers = givers;
  takers = takers;
  room = room;
}

abbrev pub lines_as_queue : WaitingLine Offer → WaitingLine OwedDuty → Queue
lines_as_queue givers takers = record {
  givers = givers.waiting;
  takers = takers.waiting;
  giver_room =
      givers.room;
  taker_room = takers.room;
}

-- where neither line changed the queue didn't
pub same_lines : (result : Option OwedDuty) (givers givers' : WaitingLine Offer) (takers takers' :
    WaitingLine OwedDuty) → givers' ≡ givers → IfNone result (takers' ≡ takers)
    → IfNone result (lines_as_queue givers' takers' ≡ lines_as_queue givers takers)
same_lines None givers givers' takers takers' same_givers same_takers =
    ap (λ line. lines_as_queue line takers') same_givers ∙ ap (λ line. lines_as_queue givers line) same_takers
same_lines (Some duty) givers givers' takers takers' same_givers same_takers = tt
