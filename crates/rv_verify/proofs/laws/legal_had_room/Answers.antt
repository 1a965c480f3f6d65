-- No more is open than there are entries, nor are there more clients.
use Rattle.rv_verify.proofs.Small.{legal_had_room}
use Rattle.rv_verify.proofs.laws.legal_had_room.Goals as goal

pub returns : goal.returns
returns c = legal_had_room
