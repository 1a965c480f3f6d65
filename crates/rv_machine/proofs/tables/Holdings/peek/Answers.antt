-- What gives to a queue has an item.
use Rattle.std.proofs.Common.{sym}
use Rattle.rv_machine.specs.Machines.{state_in}
use Rattle.rv_machine.proofs.Lying.{line_item}
use Rattle.rv_machine.proofs.tables.Holdings.peek.Goals as goal

pub peeked-requires : goal.peeked-requires
peeked-requires c =
    line_item (state_in c.args.self.now) c.requires.ready.consistent c.args.queue 0 c.in-Some.front.now
    (sym c.in-Some.ensures)
