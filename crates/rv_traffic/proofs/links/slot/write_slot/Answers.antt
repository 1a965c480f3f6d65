-- The socket is written to.
use Rattle.rv_traffic.proofs.OfLinks.Slots.{write_some}
use Rattle.rv_traffic.proofs.links.slot.write_slot.Goals as goal

pub returns-in-Some : goal.returns-in-Some
returns-in-Some g c =
    write_some g.S.Write.contents c.args.now c.args.slot.now c.in-Some.link c.args.ready.now c.write.result
    c.write.new.self
    c.in-Some.is (record {
      takes = c.write.ensures.takes;
      rest = c.write.ensures.rest;
      writable = c.write.ensures.writable;
      moved = c.write.ensures.moved;
      sent = c.write.ensures.sent;
    })
