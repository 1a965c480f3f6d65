-- No line is gathered, no entry left, and no connection listed.
use Rattle.std.proofs.Common.{◌∙◌, ap, arith, length, sym}
use Rattle.rv_hub.specs.dispatcher.View.{DispatcherState}
use Rattle.rv_machine.specs.Machines.{state_in}
use Rattle.rv_machine.specs.declared.machine.Machine.{Machine}
use Rattle.rv_engine.proofs.Through.{all_gathered, state_is}
use Rattle.rv_engine.proofs.engine.Engine.new.Goals as goal

pub invariant_of-result : goal.invariant_of-result
invariant_of-result c = record {
  looks = c.in_ok-looks.ensures.sound.0;
  round = c.in_ok-looks.ensures.sound.1;
  room = c.in_ok-looks.ensures.room.1 ∙ sym c.in_ok-looks.ensures.room.0;
  account = c.in_ok-hub.ensures.journal;
  within = omega (arith, ap length c.entries-gathered.ensures);
  nothing = λ _. record {
    lines = c.new-2.ensures.bytes;
    left = all_gathered c.entries-gathered.result.now c.in_ok-hub.hub.dispatcher.entries.items
        c.entries-gathered.ensures;
  };
}

pub returns-clause-state : goal.returns-clause-state
returns-clause-state c =
    state_is _ _ _ c.args.room c.in_ok-hub.ensures.state c.new-2.ensures.bytes
    (all_gathered c.entries-gathered.result.now c.in_ok-hub.hub.dispatcher.entries.items
    c.entries-gathered.ensures)
    (c.length-stored.ensures ∙ ap (λ (m : Machine). (state_in m).length) c.machine-book.ensures
    ∙ ap (λ (s : DispatcherState). s.book.length) c.in_ok-hub.ensures.state) c.in_ok-looks.ensures.none.0
    c.in_ok-looks.ensures.none.1 c.in_ok-looks.ensures.room.0
