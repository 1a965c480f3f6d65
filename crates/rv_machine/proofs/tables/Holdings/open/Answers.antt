-- Nothing is open, and nobody is known.
use Rattle.std.proofs.Common.{refl, rules}
use Rattle.rv_machine.specs.declared.tables.Holdings.{Holdings}
use Rattle.rv_machine.proofs.AtFirst.{first_numbered, first_ready}
use Rattle.rv_machine.proofs.tables.Holdings.open.Goals as goal

pub returns-clause-ready : goal.returns-clause-ready
returns-clause-ready c =
    let m : Holdings = record {
      moment = c.min.result;
      length = 0;
      table = c.in_ok-empty.field-0;
      clients = c.open.result;
      settled = c.new.result;
    } in
    first_ready m c.in_ok-empty.ensures c.open.ensures.clients (search rules) refl c.open.ensures.most
    c.new.ensures.len

pub returns-clause-numbered : goal.returns-clause-numbered
returns-clause-numbered c =
    let m : Holdings = record {
      moment = c.min.result;
      length = 0;
      table = c.in_ok-empty.field-0;
      clients = c.open.result;
      settled = c.new.result;
    } in
    first_numbered m c.in_ok-empty.ensures c.open.ensures.clients
