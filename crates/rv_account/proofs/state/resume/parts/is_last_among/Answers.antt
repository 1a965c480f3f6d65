-- By the client that is found.
use Rattle.rv_account.proofs.OfState.Resumed.Knowing.{found_last, none_last}
use Rattle.rv_account.proofs.state.resume.parts.is_last_among.Goals as goal

pub returns-in-Some : goal.returns-in-Some
returns-in-Some c =
    found_last c.args.epoch c.args.clients.now c.args.there.now c.args.waiter c.requires c.in-Some.index
    c.in-Some.ensures c.index-clients-index.result c.is_last_of.result c.is_last_of.ensures

pub returns-in-None : goal.returns-in-None
returns-in-None c =
    none_last c.args.epoch c.args.clients.now c.args.there.now c.args.waiter c.in-None.ensures
