-- A machine that counted one entry more.
use Rattle.std.proofs.Common.{◌<◌, ◌≤◌, ◌+◌, ℕ, arith}
use Rattle.rv_machine.specs.open_places.OpenMap.{most_counted}
use Rattle.rv_account.specs.rules.Steps.{max_moment}
use Rattle.rv_machine.specs.declared.tables.Holdings.{Holdings}
use Rattle.rv_machine.specs.Ending.{counted}
use Rattle.rv_machine.specs.Machines.{IsWhole}
use Rattle.rv_machine.specs.open_places.OpenMap.{count_waiting}

pub recorded_ready : (m : Holdings) (moment : ℕ) → IsWhole m → moment ≤ max_moment
    → m.length + count_waiting m.table < most_counted → IsWhole (counted m moment)
recorded_ready m moment ready time space =
    let is = ready.consistent in
    record {
      consistent = record {
        rise = is.rise;
        below = λ i one at. let less : one.place < m.length = is.below i one at in omega arith;
        wait_queues = λ i there w at has. let own = is.wait_queues i there w at has in record {
          session = own.session;
          known = own.known;
          key_is = own.key_is;
          call = own.call;
          waits = own.waits;
          side = own.side;
          item = own.item;
          lasts = own.lasts;
        };
        lie = is.lie;
        clients = λ client session place call known asked. let was = is.clients client session place call
            known asked
            in record {
              there = was.there;
              found = was.found;
              waiter = was.waiter;
              waits = was.waits;
              client_is = was.client_is;
            };
        time = time;
        space = omega (arith, space);
      };
      most = ready.most;
      room = ready.room;
    }
