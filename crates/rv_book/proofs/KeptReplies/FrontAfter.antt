-- An arrival that looks closes and opens nothing, so the front that it saw is that of the state after it.
use Rattle.rv_account.proofs.OfState.Words.{◌++◌, ◌≡◌, ◌∙◌, ◌∷◌, ℕ, [], Option, Some, None, append-nil, ap}
use Rattle.rv_account.proofs.OfState.Words.{cond}
use Rattle.rv_account.proofs.OfState.Words.{refl, take, filter, slice_get, Key, Call, Gives, side_of}
use Rattle.rv_account.proofs.OfState.Words.{wait_of, may_name, opposite, ClientState, LastRequest}
use Rattle.rv_account.proofs.OfState.Words.{OpenPlace}
use Rattle.rv_account.proofs.OfState.Words.{State, line, line_of, place_list, same_side, acted, but, met_by}
use Rattle.rv_account.proofs.OfState.Words.{with_last}
use Rattle.rv_account.specs.declared.entry.Act.TheVariants.{Arrive}
use Rattle.std.proofs.Common.{◌&&◌, is_some, map}
use Rattle.std.proofs.Math.Seq.{take-nil}
use Rattle.rv_text.specs.declared.call.Side.TheVariants.{Looks}
use Rattle.rv_account.specs.state.After.{lasts_by, opened_by, parked}
use Rattle.rv_account.proofs.OfState.PlacesLeft.{but_none}
use Rattle.rv_book.specs.reply_cache.Keeping.{front_at, front_of}

asked_opens : (t : State) (key : Key) (request : LastRequest) (o : Option ClientState)
    → (with_last t key request o).open_places ≡ t.open_places
asked_opens t key request None = refl
asked_opens t key request (Some client) = refl

module _ (s : State) (moment : ℕ) (key : Key) (call : Call) (queue : ℕ)
    (looks : side_of call ≡ Looks queue) where
  met_none : met_by s call ≡ []
  met_none =
      ap (λ side. take (may_name call) (line_of s (opposite side))) looks ∙ take-nil (may_name call)

  parked_none : parked s moment key call [] ≡ []
  parked_none =
      ap (λ side. cond (is_some (opposite side) && lasts_by (wait_of call))
      (opened_by s moment key call ∷ []) []) looks

  pub opens_stay : (acted s moment (Arrive key call)).after.open_places ≡ s.open_places
  opens_stay =
      asked_opens _ key _ _
      ∙ ap (λ met. but s.open_places met ++ parked s moment key call met) met_none
      ∙ ap (λ opens. but s.open_places [] ++ opens) parked_none
      ∙ append-nil (but s.open_places [])
      ∙ but_none s.open_places

  pub front_after : front_of (acted s moment (Arrive key call)).after (Arrive key call)
      ≡ slice_get (place_list (line s (Gives queue))) 0
  front_after =
      ap (front_at (acted s moment (Arrive key call)).after) looks
      ∙ ap (λ opens. slice_get (map (λ (o : OpenPlace). o.place)
      (filter (λ (o : OpenPlace). same_side o.side (Gives queue)) opens)) 0) opens_stay
