-- What stands up to the number is a front of the set's order.
use Rattle.std.proofs.Common.{◌∙◌, arith}
use Rattle.rv_server_connections.proofs.OfSubscribers.Listed.{all_above, few_read, lists, none_left}
use Rattle.rv_server_connections.proofs.OfSubscribers.Listed.{none_read, one_read, room_left}
use Rattle.rv_server_connections.proofs.subscribers.pairs.Pairs.list_up_to.Goals as goal

pub loop-number-init : goal.loop-number-init
loop-number-init c = (
  none_read c.args.self.now c.args.most c.clear.new.self.items c.into_iter-number-iterator.result
      c.clear.ensures.items
      (c.into_iter-number-iterator.ensures.into_iter_gives ∙ c.iter-number-items.ensures.rest),
  c.clear.ensures.capacity,
)

pub push_reserved-requires : goal.push_reserved-requires
push_reserved-requires c =
    let room = room_left c.args.self.now c.args.most c.loop-number.list.items c.loop-number.number-iterator
    c.next.new.self c.in-Some.field-0.now c.loop-number.invariant.0 c.in-Some.ensures.steps in
    omega (arith, room, c.loop-number.list.ok, c.loop-number.invariant.1, c.requires)

pub loop-number-preserved : goal.loop-number-preserved
loop-number-preserved c =
    let more = one_read c.args.self.now c.args.most c.loop-number.list.items c.loop-number.number-iterator
    c.next.new.self c.in-Some.field-0.now c.loop-number.invariant.0 c.in-Some.ensures.steps
    c.if-most-number.false in
    (rw c.push_reserved.ensures.items more, c.push_reserved.ensures.capacity ∙ c.loop-number.invariant.1)

pub returns-in-None-clause-listed : goal.returns-in-None-clause-listed
returns-in-None-clause-listed c =
    lists c.args.self.now c.args.most c.loop-number.list.items c.loop-number.number-iterator
    c.loop-number.invariant.0 c.iter-number-items.ensures.ordered
    (none_left c.args.most c.loop-number.number-iterator
    c.in-None.ensures.steps.0)

pub returns-then-most-number-clause-listed : goal.returns-then-most-number-clause-listed
returns-then-most-number-clause-listed c =
    lists c.args.self.now c.args.most c.loop-number.list.items c.loop-number.number-iterator
    c.loop-number.invariant.0 c.iter-number-items.ensures.ordered
    (all_above c.args.self.now c.args.most c.loop-number.list.items c.loop-number.number-iterator
    c.next.new.self c.in-Some.field-0.now c.loop-number.invariant.0 c.iter-number-items.ensures.ordered
    c.in-Some.ensures.steps c.if-most-number.true)

pub returns-in-None-clause-few : goal.returns-in-None-clause-few
returns-in-None-clause-few c =
    few_read c.args.self.now c.args.most c.loop-number.list.items c.loop-number.number-iterator
    c.loop-number.invariant.0

pub returns-then-most-number-clause-few : goal.returns-then-most-number-clause-few
returns-then-most-number-clause-few c =
    few_read c.args.self.now c.args.most c.loop-number.list.items c.loop-number.number-iterator
    c.loop-number.invariant.0
