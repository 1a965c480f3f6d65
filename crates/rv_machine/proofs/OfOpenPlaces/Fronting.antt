-- Places that may be open again may be so one after the other, each after those before it.
use Rattle.std.proofs.Common.{◌≡◌, ◌≢◌, ◌<◌, ◌++◌, ◌∷◌, ◌∙◌, ◌+◌, ℕ, zero, suc, List, [], Bool, true, false}
use Rattle.std.proofs.Common.{cond, Option, Some, None, length, refl, sym, ap, arith, slice_get}
use Rattle.std.specs.Prelude.{filter}
use Rattle.std.specs.FinMap.{FinMap}
use Rattle.std.specs.Ordering.{nat_cmp}
use Rattle.std.proofs.lemmas.List.{length-append}
use Rattle.std.proofs.lemmas.Option.{slice_get_within}
use Rattle.rv_text.specs.declared.call.Side.{Side}
use Rattle.rv_session.specs.Claims.{Claiming}
use Rattle.rv_session.specs.ClientOrder.{is_above}
use Rattle.rv_session.specs.declared.client.ClientState.{ClientState}
use Rattle.rv_account.specs.Calls.{opposite}
use Rattle.rv_account.specs.state.State.{OpenPlace, same_side}
use Rattle.rv_account.proofs.OfState.SideLines.{same_side_is}
use Rattle.rv_account.proofs.OfState.Words.{none-some}
use Rattle.rv_machine.specs.open_places.OpenMap.{StandBelow, facing, line_in, most_counted}
use Rattle.rv_machine.specs.open_places.Reopening.{ClaimsUpTo, MayReopen, MayResume}

-- the one after a front stands at the front's length
at_end : {X : Type 0} (front rest : List X) (x : X) → slice_get (front ++ x ∷ rest) (length front) ≡ Some x
at_end [] rest x = refl
at_end (y ∷ front) rest x = at_end front rest x

-- the front's own stand where they stood
in_front : {X : Type 0} (front rest : List X) (i : ℕ) (x : X) → slice_get front i ≡ Some x
    → slice_get (front ++ rest) i ≡ Some x
in_front [] rest i x at = absurd (none-some x at)
in_front (y ∷ front) rest zero x at = at
in_front (y ∷ front) rest (suc i) x at = in_front front rest i x at

-- where none passes none is left
pub filter_none : {X : Type 0} (p : X → Bool) (xs : List X)
    → ((i : ℕ) (x : X) → slice_get xs i ≡ Some x → p x ≡ false) → filter p xs ≡ []
filter_none p [] fails = refl
filter_none p (x ∷ xs) fails =
    ap (λ b. cond b (x ∷ filter p xs) (filter p xs)) (fails 0 x refl)
    ∙ filter_none p xs (λ i y at. fails (suc i) y at)

-- a side's line is empty where none is of the side
no_line : (all : List OpenPlace) (side : Side)
    → ((i : ℕ) (x : OpenPlace) → slice_get all i ≡ Some x → x.side ≢ side) → line_in all side ≡ []
no_line all side apart =
    filter_none (λ (x : OpenPlace). same_side x.side side) all
    (λ i x at. by_test (same_side x.side side) refl (apart i x at))
  where
    by_test : {one : Side} (b : Bool) → same_side one side ≡ b → one ≢ side → b ≡ false
    by_test true is apart = absurd (apart (same_side_is _ side is))
    by_test false is apart = refl

module _ (front rest : List OpenPlace) (one : OpenPlace) (clients : FinMap nat_cmp ClientState)
    (may : MayResume (front ++ one ∷ rest) clients) where
  stands_before : StandBelow front one.place
  stands_before i x at =
      may.rise i (length front) x one (slice_get_within front i x at) (in_front front (one ∷ rest) i x at)
      (at_end front rest one)

  faces_none : (o : Option Side) → opposite one.side ≡ o → facing front o ≡ []
  faces_none None is = refl
  faces_none (Some other) is = no_line front other (λ i x at same.
      may.apart (length front) i one x (at_end front rest one) (in_front front (one ∷ rest) i x at)
      (λ there. let less : x.place < one.place = stands_before i x at in omega (arith, less, there))
      (is ∙ ap Some (sym same)))

  fewer : length front < most_counted
  fewer =
      let whole : length (front ++ one ∷ rest) ≡ length front + suc (length rest) =
      length-append front (one ∷ rest) in
      omega (arith, whole, may.few)

-- so may one whose duty can still be made, where those of the front alone were made
module _ (front rest : List OpenPlace) (one : OpenPlace) (claims : Claiming)
    (may : MayResume (front ++ one ∷ rest) claims.table.clients)
    (last : (place : ℕ) → StandBelow front place → is_above claims.last place ≡ true) where
  pub reopens : MayReopen front one claims
  reopens = record {
    few = fewer front rest one claims.table.clients may;
    stands = may.stand (length front) one (at_end front rest one);
    below = stands_before front rest one claims.table.clients may;
    alone = faces_none front rest one claims.table.clients may (opposite one.side) refl;
    unclaimed = last one.place (stands_before front rest one claims.table.clients may);
  }

-- one more is laid after the front: whatever all stand below is above what was made
pub claimed_below : (front : List OpenPlace) (one : OpenPlace) (before after : Option ℕ)
    → ((place : ℕ) → StandBelow front place → is_above before place ≡ true)
    → ClaimsUpTo before one.place after
    → (place : ℕ) → StandBelow (front ++ one ∷ []) place → is_above after place ≡ true
claimed_below front one before after last more place below =
    more place (below (length front) one (at_end front [] one))
    (last place (λ i x at. below i x (in_front front (one ∷ []) i x at)))
