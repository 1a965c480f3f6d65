-- Options that are read are named; else the fault is one of the words.
use Rattle.rv_host.proofs.host.run_host.Goals as goal

pub returns-in-Ok : goal.returns-in-Ok
returns-in-Ok c = record { refused = λ none. absurd (none c.in-Ok.options c.in-Ok.ensures.ok) }

pub returns-in-Err : goal.returns-in-Err
returns-in-Err c = record {
  refused = λ _. record {
    fault = c.in-Err.fault;
    has = c.in-Err.ensures.fault;
    tells = c.tell_fault.ensures;
  };
}
