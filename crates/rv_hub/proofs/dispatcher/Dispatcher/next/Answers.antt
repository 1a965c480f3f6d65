-- The frame's body is read.
use Rattle.std.proofs.Common.{sym, refl}
use Rattle.rv_hub.proofs.dispatcher.Dispatcher.next.Goals as goal

pub returns-in-Some-next : goal.returns-in-Some-next
returns-in-Some-next c = record {
  body = c.in-Some-next.body.now;
  asked = record {
    frame = record {
      wire = c.in-Some.wire.now;
      there = sym c.in-Some.ensures.found;
      so = record {
        due = record {
          whole = record {
            body = c.in-Some-next.body.now;
            fits = c.in-Some-next.ensures.body.0;
            frame = c.in-Some-next.ensures.body.1;
          };
          none_owed = c.in-Some-next.ensures.due.none_owed;
          room = c.in-Some-next.ensures.due.room;
        };
        body_is = refl;
      };
    };
  };
  reads = c.decode_message.ensures;
}
