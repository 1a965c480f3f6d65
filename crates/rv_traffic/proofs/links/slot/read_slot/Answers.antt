-- The socket is read.
use Rattle.rv_traffic.proofs.OfLinks.Slots.{read_some}
use Rattle.rv_traffic.proofs.links.slot.read_slot.Goals as goal

pub returns-in-Some-clause-reads : goal.returns-in-Some-clause-reads
returns-in-Some-clause-reads g c =
    read_some g.S.Read.remaining c.args.now c.args.slot.now c.in-Some.link c.read.result
    c.read.new.buffer.items
    c.read.new.self c.in-Some.is c.read.ensures.reads
