-- What is open on the side that gives has an item.
use Rattle.std.proofs.Common.{◌≡◌, ◌∙◌, ℕ, List, Option, Some, None, IsSome, refl, sym, subst, slice_get}
use Rattle.rv_text.specs.declared.call.Call.{Call}
use Rattle.rv_text.specs.declared.call.Call.TheVariants as call
use Rattle.rv_text.specs.declared.call.Side.TheVariants.{Gives, Takes, Looks, Exchanges}
use Rattle.rv_text.specs.Calls.{item_of, side_of}
use Rattle.rv_account.specs.state.State.{OpenPlace, State, Waiter, same_side}
use Rattle.rv_account.proofs.OfState.Filtered.{filter_get}
use Rattle.rv_account.proofs.OfState.SideLines.{same_side_is}
use Rattle.rv_machine.specs.Machines.{IsConsistent}
use Rattle.rv_machine.specs.open_places.OpenMap.{line_in}

pub no_giver : (queue other : ℕ) → Takes other ≡ Gives queue → ⊥
no_giver queue other is = cc

pub no_looker : (queue other : ℕ) → Looks other ≡ Gives queue → ⊥
no_looker queue other is = cc

pub no_exchanger : (queue other : ℕ) → Exchanges other ≡ Gives queue → ⊥
no_exchanger queue other is = cc

-- who gives hands an item over
pub gives_item : (its : Call) (queue : ℕ) → side_of its ≡ Gives queue → IsSome (item_of its)
gives_item (call.Put q item) queue is = refl
gives_item (call.Transfer q item wait) queue is = refl
gives_item (call.Take q wait) queue is = absurd (no_giver queue q is)
gives_item (call.Swap e item wait) queue is = refl
gives_item (call.Count q) queue is = absurd (no_looker queue q is)
gives_item (call.Peek q) queue is = absurd (no_looker queue q is)
gives_item (call.Drain q max) queue is = absurd (no_giver queue q is)

module _ (s : State) (is : IsConsistent s) (queue : ℕ) where
  open_item : (i : ℕ) (there : OpenPlace) → slice_get s.open_places i ≡ Some there → there.side ≡ Gives queue
      → (w : Option Waiter) → there.waiter ≡ w → IsSome there.item
  open_item i there at side None none =
      let lies = is.lie i there at none in
      subst (λ (o : Option (List ℕ)). IsSome o) (sym lies.has) refl
  open_item i there at side (Some w) has =
      let own = is.wait_queues i there w at has in
      subst (λ (o : Option (List ℕ)). IsSome o) (sym own.item)
      (gives_item own.call queue (sym own.side ∙ side))

  pub line_item : (i : ℕ) (there : OpenPlace) → slice_get (line_in s.open_places (Gives queue)) i ≡ Some there
      → IsSome there.item
  line_item i there at =
      let was = filter_get (λ (o : OpenPlace). same_side o.side (Gives queue)) s.open_places i there at in
      open_item was.0 there was.1 (same_side_is there.side (Gives queue) was.2) there.waiter refl
