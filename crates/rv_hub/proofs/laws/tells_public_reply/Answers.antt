-- By what the state says of its clients.
use Rattle.rv_hub.proofs.Accounts.{tells_public}
use Rattle.rv_hub.proofs.laws.tells_public_reply.Goals as goal

pub returns : goal.returns
returns c = tells_public
