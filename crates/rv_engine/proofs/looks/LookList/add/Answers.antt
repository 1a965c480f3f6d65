-- A number within the room is listed.
use Rattle.std.proofs.Common.{arith}
use Rattle.rv_engine.proofs.Looking.{adds_within}
use Rattle.rv_engine.proofs.looks.LookList.add.Goals as goal

pub returns-then-number-len-clause-adds : goal.returns-then-number-len-clause-adds
returns-then-number-len-clause-adds c =
    adds_within _ c.args.self.now.numbers.items c.mark.new.self.numbers.items c.args.number
    (omega (arith, c.if-number-len.true, c.len.ensures)) c.mark.ensures.listed
