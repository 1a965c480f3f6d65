-- The tables of what is open, where one more is laid after all others.
use Rattle.std.proofs.Common.{◌≡◌, ◌≢◌, ◌⊎◌, ◌<◌, ◌++◌, ◌∷◌, ◌∙◌, ◌+◌, ℕ, List, [], Bool, true, false}
use Rattle.std.proofs.Common.{cond, Option, Some, None, IsSome, is_some, length, refl, sym, ap, subst}
use Rattle.std.proofs.Common.{arith}
use Rattle.std.proofs.Common.{slice_get, nat_eq, inl, inr}
use Rattle.std.specs.Prelude.{filter, option_and_then}
use Rattle.std.proofs.lemmas.Bool.Decides.{nat_tests}
use Rattle.std.proofs.lemmas.List.{append-nil, length-append, map-append}
use Rattle.std.proofs.lemmas.List.Elements.{filter-append}
use Rattle.rv_text.specs.declared.call.Side.{Side}
use Rattle.rv_text.specs.Limits.{FitsSide}
use Rattle.rv_session.specs.OwedDuty.{OwedDuty}
use Rattle.rv_due.specs.Deadlines.{Deadlines}
use Rattle.rv_account.specs.state.State.{OpenPlace, place_list, same_side}
use Rattle.rv_account.proofs.OfState.Filtered.{append_get}
use Rattle.rv_account.proofs.OfState.SideLines.{same_side_itself}
use Rattle.rv_model_queues.specs.Meeting.{FindsNobody, StartsToWait}
use Rattle.rv_model_queues.specs.Parked.{AreParked}
use Rattle.rv_model_queues.specs.Views.{AreBelow, WaitQueues, waiting_on}
use Rattle.rv_machine.specs.open_places.OpenMap.{StandBelow, count_waiting, duty_at, facing, found_at}
use Rattle.rv_machine.specs.open_places.OpenMap.{line_in, opposed_in, owed_among, with_limit}
use Rattle.rv_machine.specs.open_places.Indexed.{AreIndexed}
use Rattle.rv_machine.proofs.OfOpenPlaces.Indexing.{other_side, parked_on, side_or_not, stands_found}
use Rattle.rv_machine.proofs.OfOpenPlaces.Kept.{in_end, rise_more}
use Rattle.rv_machine.proofs.OfOpenPlaces.Limits.{limits_more}
use Rattle.rv_machine.proofs.OfOpenPlaces.Meetings.{are_below}

-- nobody waits whom an arrival could meet, where no open place faces it
pub finds_nobody : (all : List OpenPlace) (wait_queues : WaitQueues) (waiting : ℕ) (due : Deadlines) (side :
    Side)
    → AreIndexed all wait_queues waiting due → opposed_in all side ≡ [] → FindsNobody wait_queues side
finds_nobody all wait_queues waiting due side is alone other opposes =
    is.lines other ∙ ap place_list (sym (ap (facing all) opposes) ∙ alone)

module _ (all : List OpenPlace) (old : WaitQueues) (waiting : ℕ) (due : Deadlines) (o : OpenPlace)
    (is : AreIndexed all old waiting due) (below : StandBelow all o.place) where
  abbrev pub more : List OpenPlace
  more = all ++ o ∷ []

  more_rise : (i j : ℕ) (one other : OpenPlace) → i < j → slice_get more i ≡ Some one
      → slice_get more j ≡ Some other → one.place < other.place
  more_rise = rise_more all o is.rise below

  in_more : (i : ℕ) (x : OpenPlace) → slice_get more i ≡ Some x
      → ((j : ℕ) × (slice_get all j ≡ Some x)) ⊎ (o ≡ x)
  in_more i x at = elim (append_get all (o ∷ []) i x at) [
    | inl before ↦ inl before
    | inr last ↦ inr (in_end o x last.0 last.1)
  ]

  line_more : (side : Side) → line_in more side ≡ line_in all side ++ cond (same_side o.side side) (o ∷ []) []
  line_more side = filter-append (λ (x : OpenPlace). same_side x.side side) all (o ∷ [])

  found_more : (all : List OpenPlace) (r : ℕ) → r ≢ o.place → found_at (all ++ o ∷ []) r ≡ found_at all r
  found_more [] r apart = ap (λ b. cond b (Some o) None) not_its
    where
      not_its : nat_eq o.place r ≡ false
      not_its = grind (arith, nat_tests)
  found_more (x ∷ xs) r apart = ap (λ rest. cond (nat_eq x.place r) (Some x) rest) (found_more xs r apart)

  stands_last : (xs : List OpenPlace) → slice_get (xs ++ o ∷ []) (length xs) ≡ Some o
  stands_last [] = refl
  stands_last (x ∷ xs) = stands_last xs

  pub all_below : AreBelow old o.place
  all_below = are_below all old waiting o.place due is below

  pub counted_more : count_waiting more ≡ count_waiting all + cond (is_some o.waiter) 1 0
  counted_more =
      ap length (filter-append (λ (x : OpenPlace). is_some x.waiter) all (o ∷ []))
      ∙ length-append (filter (λ (x : OpenPlace). is_some x.waiter) all)
      (filter (λ (x : OpenPlace). is_some x.waiter) (o ∷ []))
      ∙ ap (λ n. count_waiting all + n) (by_waiter (is_some o.waiter))
    where
      by_waiter : (b : Bool) → length (cond b (o ∷ []) []) ≡ cond b 1 0
      by_waiter true = refl
      by_waiter false = refl

  module _ (new : WaitQueues) (waits : StartsToWait old new o.side o.place)
      (parked : (owed : ℕ → Option OwedDuty) → AreParked owed old → owed o.place ≡ duty_at o
      → AreParked owed new)
      (fits : FitsSide o.side) (limited : IsSome o.limit → IsSome o.waiter) where
    lines_more : (side : Side) → (o.side ≡ side) ⊎ (same_side o.side side ≡ false)
        → waiting_on new side ≡ place_list (line_in more side)
    lines_more side (inl own) =
        ap (waiting_on new) (sym own) ∙ waits.last
        ∙ ap (λ l. l ++ o.place ∷ []) (is.lines o.side)
        ∙ sym (map-append (λ (x : OpenPlace). x.place) (line_in all o.side) (o ∷ []))
        ∙ ap (λ b. place_list (line_in all o.side ++ cond b (o ∷ []) [])) (sym (same_side_itself o.side))
        ∙ ap place_list (sym (line_more o.side))
        ∙ ap (λ s. place_list (line_in more s)) own
    lines_more side (inr apart) =
        waits.others side (other_side o.side side apart)
        ∙ is.lines side
        ∙ ap place_list (sym (append-nil (line_in all side)))
        ∙ ap (λ b. place_list (line_in all side ++ cond b (o ∷ []) [])) (sym apart)
        ∙ ap place_list (sym (line_more side))

    pub laid_index : (count : ℕ) (after : Deadlines) → count ≡ count_waiting more
        → after ≡ with_limit o.limit o.place due → AreIndexed more new count after
    laid_index count after count_is after_is = record {
      rise = more_rise;
      fit = λ i x at. elim (in_more i x at) [
        | inl before ↦ is.fit before.0 x before.1
        | inr last ↦ subst (λ (y : OpenPlace). FitsSide y.side) last fits
      ];
      limited = λ i x at has. elim (in_more i x at) [
        | inl before ↦ is.limited before.0 x before.1 has
        | inr last ↦ subst (λ (y : OpenPlace). IsSome y.waiter) last
            (limited (subst (λ (y : OpenPlace). IsSome y.limit) (sym last) has))
      ];
      lines = λ side. lines_more side (side_or_not o.side side);
      parked = parked (owed_among more)
          (parked_on (owed_among all) (owed_among more) old
          (λ side i r on. ap (option_and_then duty_at) (found_more all r
          (λ same. let less : r < o.place = all_below side i r on in absurd (omega (arith, same, less)))))
          is.parked)
          (ap (option_and_then duty_at) (stands_found more (length all) o more_rise (stands_last all)));
      counted = count_is;
      limits = after_is ∙ ap (with_limit o.limit o.place) is.limits ∙ sym (limits_more all o);
    }
