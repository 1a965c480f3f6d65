-- Who parks: it stays, and nobody is there whom it meets. Its room.
use Rattle.rv_model_queues.proofs.Words.{◌≡◌, ◌∷◌, ◌∙◌, ℕ, List, [], None, Some, arith, length, sym, Option}
use Rattle.rv_model_queues.proofs.Words.{refl, ap, subst, same_Some, Side, Exchanges, Gives, Looks, Takes}
use Rattle.rv_model_queues.proofs.Words.{Wait, opposite, FindsNobody, opposed_by, WaitQueues, queue_at}
use Rattle.rv_model_queues.proofs.Words.{takers_places, waiting_on, places_of}
use Rattle.rv_model_queues.specs.Meeting.{HasRoomOn, HasRoomToGive, HasRoomToTake, MakesRoomFor, MakesRoomOn}
use Rattle.rv_model_queues.specs.Meeting.{ParksOn, StaysAlone}

-- ---- nobody is there

pub nobody_opposed : (wait_queues : WaitQueues) (side : Side) → FindsNobody wait_queues side
    → opposed_by wait_queues (opposite side) ≡ 0
nobody_opposed wait_queues (Gives queue) nobody = ap length (nobody (Takes queue) refl)
nobody_opposed wait_queues (Takes queue) nobody = ap length (nobody (Gives queue) refl)
nobody_opposed wait_queues (Looks queue) nobody = refl
nobody_opposed wait_queues (Exchanges exchanger) nobody = ap length (nobody (Exchanges exchanger) refl)

pub parks_alone : (wait_queues : WaitQueues) (side : Side) (wait : Option Wait)
    → ParksOn wait_queues side wait
    → StaysAlone wait_queues side wait
parks_alone wait_queues side wait parks = (parks.stays.1, nobody_opposed wait_queues side parks.nobody)

none_long : {X : Type 0} (xs : List X) → length xs ≡ 0 → xs ≡ []
none_long [] none = refl
none_long (x ∷ xs) none = absurd (omega (arith, none))

found_nobody : (wait_queues : WaitQueues) (side other : Side) → opposite side ≡ Some other
    → length (waiting_on wait_queues other) ≡ 0 → FindsNobody wait_queues side
found_nobody wait_queues side other opposes none third also = subst (λ s. waiting_on wait_queues s ≡ [])
    (same_Some _ _ (sym opposes ∙ also)) (none_long _ none)

-- who stays alone and doesn't park looks
pub alone_looks : (wait_queues : WaitQueues) (side : Side) (wait : Option Wait)
    → StaysAlone wait_queues side wait
    → (ParksOn wait_queues side wait → ⊥) → opposite side ≡ None
alone_looks wait_queues (Gives queue) wait alone goes = absurd (goes (record {
  stays = (refl, alone.0);
  nobody = found_nobody wait_queues (Gives queue) (Takes queue) refl alone.1;
}))
alone_looks wait_queues (Takes queue) wait alone goes = absurd (goes (record {
  stays = (refl, alone.0);
  nobody = found_nobody wait_queues (Takes queue) (Gives queue) refl alone.1;
}))
alone_looks wait_queues (Looks queue) wait alone goes = refl
alone_looks wait_queues (Exchanges exchanger) wait alone goes = absurd (goes (record {
  stays = (refl, alone.0);
  nobody = found_nobody wait_queues (Exchanges exchanger) (Exchanges exchanger) refl alone.1;
}))

-- room on a side is room for who parks there
pub room_for : (old new : WaitQueues) (side : Side) (wait : Option Wait) → StaysAlone old side wait
    → MakesRoomOn old new side → MakesRoomFor old new side wait
room_for old new side wait alone makes = record {
  same = makes.same;
  own = makes.own;
  others = makes.others;
  needless = λ goes. makes.looks (alone_looks old side wait alone goes);
}

-- ---- its room

pub room_to_give : (wait_queues : WaitQueues) (queue : ℕ) (wait : Option Wait)
    → HasRoomOn wait_queues (Gives queue) wait
    → HasRoomToGive (queue_at wait_queues.queues queue) wait
room_to_give wait_queues queue wait room lasts none = room (record {
  stays = (refl, lasts);
  nobody = λ other opposes. subst (λ s. waiting_on wait_queues s ≡ []) (same_Some _ _ opposes)
      (ap takers_places none);
})

pub room_to_take : (wait_queues : WaitQueues) (queue : ℕ) (wait : Option Wait)
    → HasRoomOn wait_queues (Takes queue) wait
    → HasRoomToTake (queue_at wait_queues.queues queue) wait
room_to_take wait_queues queue wait room lasts none = room (record {
  stays = (refl, lasts);
  nobody = λ other opposes. subst (λ s. waiting_on wait_queues s ≡ []) (same_Some _ _ opposes)
      (ap places_of none);
})
