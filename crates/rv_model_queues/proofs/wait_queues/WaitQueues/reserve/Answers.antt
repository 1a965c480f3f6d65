-- Who doesn't park needs no room, and who does has it on its side.
use Rattle.rv_model_queues.proofs.Words.{◌∙◌, sym, subst, false≢true}
use Rattle.rv_model_queues.specs.Meeting.{MakesRoomOn}
use Rattle.rv_model_queues.proofs.Parking.{parks_alone, room_for}
use Rattle.rv_model_queues.proofs.wait_queues.WaitQueues.reserve.Goals as goal

pub returns-then-not-parks-clause-room : goal.returns-then-not-parks-clause-room
returns-then-not-parks-clause-room c = λ parks. absurd (false≢true (sym c.if-not-parks.true
    ∙ c.parks.ensures.1 (parks_alone _ _ _ parks)))

pub returns-clause-makes : goal.returns-clause-makes
returns-clause-makes c = room_for _ _ _ _ (c.parks.ensures.0 c.if-not-parks.false) (subst (λ s. MakesRoomOn
    c.args.self.now c.reserve_on.new.self s) c.side.ensures c.reserve_on.ensures.makes)
