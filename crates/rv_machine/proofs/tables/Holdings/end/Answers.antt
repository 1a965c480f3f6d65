-- The wait that ended was one that the state has.
use Rattle.rv_machine.proofs.EndedMachine.{ends_waiting, has_room, is_awaited, still_ready}
use Rattle.rv_machine.proofs.tables.Holdings.end.Goals as goal

pub push_reserved-requires : goal.push_reserved-requires
push_reserved-requires c =
    has_room c.args.self.now c.requires.ready c.args.place c.close-there.result.0 c.unwrap.result
    c.close-there.result.1 c.args.reply c.close-there.new.self c.close-there.ensures c.unwrap.ensures

pub settle-requires : goal.settle-requires
settle-requires c =
    is_awaited c.args.self.now c.requires.ready c.args.place c.close-there.result.0 c.unwrap.result
    c.close-there.result.1 c.args.reply c.close-there.new.self c.close-there.ensures c.unwrap.ensures

pub returns-clause-ready : goal.returns-clause-ready
returns-clause-ready c =
    still_ready c.args.self.now c.requires.ready c.args.place c.close-there.result.0 c.unwrap.result
    c.close-there.result.1 c.args.reply c.close-there.new.self c.close-there.ensures c.unwrap.ensures
    c.settle.new.self c.settle.ensures c.push_reserved.new.self c.push_reserved.ensures.len
    c.push_reserved.ensures.capacity

pub returns-clause-ends : goal.returns-clause-ends
returns-clause-ends c =
    ends_waiting c.args.self.now c.requires.ready c.args.place c.close-there.result.0 c.unwrap.result
    c.close-there.result.1 c.args.reply c.close-there.new.self c.close-there.ensures c.unwrap.ensures
    c.settle.new.self c.settle.ensures c.push_reserved.new.self c.push_reserved.ensures.items
