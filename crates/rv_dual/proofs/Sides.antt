-- A queue stays one of a single side when the first leaves, and when one is parked.
use Rattle.std.proofs.Common.{◌≡◌, inl, inr, ◌<◌, List, [], ◌∷◌, ◌++◌, length, Option, Some, None, sym, ap}
use Rattle.std.proofs.Common.{◌∙◌, subst, arith}
use Rattle.std.specs.Prelude.{option_to_list}
use Rattle.std.specs.List.{All, AllPairs}
use Rattle.std.proofs.lemmas.List.Quantifiers.{all_pairs_push}
use Rattle.rv_session.specs.OwedDuty.{OwedDuty}
use Rattle.rv_dual.specs.declared.giver.Offer.{Offer}
use Rattle.rv_dual.specs.Offers.{place_of, IsEarlier, IsEarlierTaker}
use Rattle.rv_dual.specs.Queue.{IsDual}
use Rattle.rv_dual.proofs.Removing.{rest_pairs}

some_here : {X : Type 0} (x : X) (xs : List X) → x ∷ xs ≡ [] → ⊥
some_here x xs none = let long = ap length none in omega (arith, long)

pub dual_after_taker : (givers : List Offer) (old new : List OwedDuty) (r : Option OwedDuty)
    → IsDual givers old → old ≡ option_to_list r ++ new → IsDual givers new
dual_after_taker givers old new None is parts = subst (IsDual givers) parts is
dual_after_taker givers old new (Some x) is parts = record {
  one_side = elim is.one_side [
    | inl none ↦ inl none
    | inr none ↦ absurd (some_here x new (sym parts ∙ none))
  ];
  givers_rise = is.givers_rise;
  takers_rise = rest_pairs IsEarlierTaker x new (subst (AllPairs IsEarlierTaker) parts is.takers_rise);
}

pub dual_after_giver : (old new : List Offer) (takers : List OwedDuty) (r : Option Offer) → IsDual old takers
    → old ≡ option_to_list r ++ new → IsDual new takers
dual_after_giver old new takers None is parts = subst (λ givers. IsDual givers takers) parts is
dual_after_giver old new takers (Some x) is parts = record {
  one_side = elim is.one_side [
    | inl none ↦ absurd (some_here x new (sym parts ∙ none))
    | inr none ↦ inr none
  ];
  givers_rise = rest_pairs IsEarlier x new (subst (AllPairs IsEarlier) parts is.givers_rise);
  takers_rise = is.takers_rise;
}

pub dual_with_giver : (givers new_givers : List Offer) (takers new_takers : List OwedDuty) (offer : Offer)
    → IsDual givers takers → All (λ o. place_of o < place_of offer) givers
    → takers ≡ [] → takers ≡ new_takers → new_givers ≡ givers ++ offer ∷ [] → IsDual new_givers new_takers
dual_with_giver givers new_givers takers new_takers offer is above none same last = record {
  one_side = inr (sym same ∙ none);
  givers_rise = subst (AllPairs IsEarlier) (sym last) (all_pairs_push IsEarlier givers offer is.givers_rise
      above);
  takers_rise = subst (AllPairs IsEarlierTaker) same is.takers_rise;
}
