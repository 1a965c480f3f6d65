-- Duties that stay parked where what is owed at their places stays, and none where nobody waits.
use Rattle.rv_model_queues.proofs.Words.{◌≡◌, [], refl, ap}
use Rattle.rv_model_queues.proofs.Words.{Side, Exchanges, Gives, Looks, Takes}
use Rattle.rv_model_queues.proofs.Words.{places_of, WaitQueues, place_of_duty}
use Rattle.rv_model_queues.proofs.Words.{takers_places, waiting_on}
use Rattle.rv_model_queues.specs.Views.{NobodyWaits}

-- ---- nobody waits

pub nowhere : (wait_queues : WaitQueues) → NobodyWaits wait_queues → (side : Side)
    → waiting_on wait_queues side ≡ []
nowhere wait_queues nobody (Gives queue) = ap places_of (nobody.queues queue).givers
nowhere wait_queues nobody (Takes queue) = ap takers_places (nobody.queues queue).takers
nowhere wait_queues nobody (Looks queue) = refl
nowhere wait_queues nobody (Exchanges exchanger) = ap place_of_duty (nobody.exchangers exchanger)
