-- The first that was due waited, and its wait is over.
use Rattle.rv_text.specs.declared.answer.Reply.TheVariants.{TimedOut}
use Rattle.rv_machine.proofs.EndedMachine.{ends_waiting, has_room, is_awaited, one_listed, still_ready}
use Rattle.rv_machine.proofs.EndedMachine.{state_is}
use Rattle.rv_machine.proofs.Numbered.{ended_numbered}
use Rattle.rv_machine.proofs.tables.Holdings.end_next.Goals as goal

pub push_reserved-requires : goal.push_reserved-requires
push_reserved-requires c =
    has_room c.args.self.now c.requires.ready c.in-Some.there.place c.in-Some.there c.unwrap.result
    c.in-Some.duty TimedOut c.close_due.new.self c.in-Some.ensures.some.closes c.unwrap.ensures

pub settle-requires : goal.settle-requires
settle-requires c =
    is_awaited c.args.self.now c.requires.ready c.in-Some.there.place c.in-Some.there c.unwrap.result
    c.in-Some.duty TimedOut c.close_due.new.self c.in-Some.ensures.some.closes c.unwrap.ensures

pub returns-in-Some-clause-ready : goal.returns-in-Some-clause-ready
returns-in-Some-clause-ready c =
    still_ready c.args.self.now c.requires.ready c.in-Some.there.place c.in-Some.there c.unwrap.result
    c.in-Some.duty TimedOut c.close_due.new.self c.in-Some.ensures.some.closes c.unwrap.ensures
    c.settle.new.self c.settle.ensures c.push_reserved.new.self c.push_reserved.ensures.len
    c.push_reserved.ensures.capacity

pub returns-in-Some-clause-numbered : goal.returns-in-Some-clause-numbered
returns-in-Some-clause-numbered c =
    ended_numbered c.args.self.now _ c.in-Some.there.place TimedOut
    (ends_waiting c.args.self.now c.requires.ready c.in-Some.there.place c.in-Some.there c.unwrap.result
    c.in-Some.duty TimedOut c.close_due.new.self c.in-Some.ensures.some.closes c.unwrap.ensures
    c.settle.new.self c.settle.ensures c.push_reserved.new.self c.push_reserved.ensures.items)
    c.requires.numbered

pub returns-in-Some-clause-one : goal.returns-in-Some-clause-one
returns-in-Some-clause-one c was = record {
  there = c.in-Some.there;
  first = c.in-Some.ensures.some.first;
  waiter = c.unwrap.result;
  waits = c.unwrap.ensures;
  state = state_is c.args.self.now c.requires.ready c.in-Some.there.place c.in-Some.there c.unwrap.result
      c.in-Some.duty TimedOut c.close_due.new.self c.in-Some.ensures.some.closes c.unwrap.ensures
      c.settle.new.self c.settle.ensures c.push_reserved.new.self;
  listed = c.push_reserved.ensures.items;
  fewer = one_listed c.args.self.now c.requires.ready c.in-Some.there.place c.in-Some.there c.unwrap.result
      c.in-Some.duty TimedOut c.close_due.new.self c.in-Some.ensures.some.closes c.unwrap.ensures;
}
