-- One connection more was looked at.
use Rattle.std.proofs.Common.{◌∷◌, ◌++◌, ◌∙◌, [], arith, refl, ap, vec_capacity}
use Rattle.rv_server_connections.specs.Table.{get}
use Rattle.rv_server_connections.specs.Fields.{ReleasesOne}
use Rattle.rv_server_connections.proofs.Reaching.{reached_no, reached_yes}
use Rattle.rv_server_connections.proofs.slots.Slots.release_reached.Goals as goal

pub loop-connection-preserved-then-release_one : goal.loop-connection-preserved-then-release_one
loop-connection-preserved-then-release_one c =
    let s = c.loop-connection.self in
    let u = c.release_one.new.self in
    let indexed = c.release_one.ensures.indexed in
    let one : ReleasesOne c.args.written s c.in-Some.connection u =
    record { own = c.release_one.ensures.each.own; others = c.release_one.ensures.each.others } in
    reached_yes c.args.written (get c.args.self.now.slots) s u c.pop.new.self.items c.in-Some.connection
    c.loop-connection.invariant c.in-Some.ensures.items one (record u { released = c.push_reserved.new.self })
    c.if-release_one.ensures.yes
    (record {
      counted = record { each = indexed.counted.each; held = indexed.counted.held };
      indexed = indexed.indexed;
      room = omega (arith, indexed.room, c.push_reserved.ensures.capacity);
      looks = indexed.looks;
    })
    refl (ap (λ v. v.items) c.release_one.ensures.rest.reached)
    (c.push_reserved.ensures.items ∙ ap (λ v. v.items ++ c.in-Some.connection ∷ [])
    c.release_one.ensures.rest.released)
    (c.push_reserved.ensures.capacity ∙ ap vec_capacity c.release_one.ensures.rest.released)

pub loop-connection-preserved : goal.loop-connection-preserved
loop-connection-preserved c =
    let s = c.loop-connection.self in
    let u = c.release_one.new.self in
    let one : ReleasesOne c.args.written s c.in-Some.connection u =
    record { own = c.release_one.ensures.each.own; others = c.release_one.ensures.each.others } in
    reached_no c.args.written (get c.args.self.now.slots) s u c.pop.new.self.items c.in-Some.connection
    c.loop-connection.invariant c.in-Some.ensures.items one u c.if-release_one.ensures.no
    c.release_one.ensures.indexed refl (ap (λ v. v.items) c.release_one.ensures.rest.reached)
    c.release_one.ensures.rest.released
