-- One more item a pass, for which there is room.
use Rattle.rv_machine.proofs.TakenAll.{items_left, line_left, places_left, took_more}
use Rattle.rv_machine.proofs.TakenAll.{took_nothing}
use Rattle.rv_machine.proofs.tables.Holdings.take_items.Goals as goal

pub loop-taken-init : goal.loop-taken-init
loop-taken-init c =
    took_nothing c.args.self.now c.args.queue c.args.count c.args.taker c.args.items.now c.args.places.now
    c.requires.ready c.requires.no_items c.requires.no_places c.requires.items_room c.requires.places_room

pub list-requires-clause-items : goal.list-requires-clause-items
list-requires-clause-items c =
    items_left c.args.self.now c.loop-taken.self c.args.queue c.args.count c.loop-taken._taken c.args.taker
    c.loop-taken.items c.loop-taken.places c.loop-taken.invariant c.loop-taken-test.true

pub list-requires-clause-places : goal.list-requires-clause-places
list-requires-clause-places c =
    places_left c.args.self.now c.loop-taken.self c.args.queue c.args.count c.loop-taken._taken c.args.taker
    c.loop-taken.items c.loop-taken.places c.loop-taken.invariant c.loop-taken-test.true

pub take_item-requires-clause-some : goal.take_item-requires-clause-some
take_item-requires-clause-some c =
    line_left c.args.self.now c.loop-taken.self c.args.queue c.args.count c.loop-taken._taken c.args.taker
    c.loop-taken.items c.loop-taken.places c.loop-taken.invariant c.loop-taken-test.true c.requires.some

pub loop-taken-preserved : goal.loop-taken-preserved
loop-taken-preserved c =
    took_more c.args.self.now c.loop-taken.self c.take_item.new.self c.args.queue c.args.count
    c.loop-taken._taken
    c.args.taker c.take_item.result c.loop-taken.items c.list.new.items c.loop-taken.places c.list.new.places
    c.loop-taken.invariant c.take_item.ensures.takes c.take_item.ensures.ready c.list.ensures.items
    c.list.ensures.places c.list.ensures.items_room c.list.ensures.places_room
