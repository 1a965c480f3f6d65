-- It is the nearest of those from the least on.
use Rattle.std.proofs.Common.{arith}
use Rattle.rv_store.proofs.Nearest.{nearest}
use Rattle.rv_store.proofs.wish.EpochWish.begin.Goals as goal

pub returns-clause-some : goal.returns-clause-some
returns-clause-some c = nearest c.args.self c.args.present c.args.now c.in_ok-least.least c.min.result
    c.in_ok-least.ensures.some (omega (arith, c.if-least-self.false))
    (omega (arith, c.min.ensures, c.max.ensures))
