-- While waits are ended one by one, those that are over are the first that were due.
use Rattle.std.specs.Prelude.{◌≡◌, length}
use Rattle.rv_machine.specs.Machines.{IsWhole, SameListRoom, state_in}
use Rattle.rv_machine.specs.Numbering.{AreNumbered}
use Rattle.rv_machine.specs.open_places.OpenMap.{due_in}
use Rattle.rv_machine.specs.Ticking.{EndsFirst}
use Rattle.rv_machine.proofs.tables.Holdings.end_due.Given as goal

abbrev pub invariant-loop : goal.invariant-loop
invariant-loop l = record {
  ready : IsWhole l.self;
  numbered : AreNumbered (state_in l.self);
  moment : l.moment ≡ l.initial.moment;
  ends : EndsFirst l.initial.self l.self l.moment;
  room : SameListRoom l.initial.self l.self;
}

abbrev pub decreases-loop : goal.decreases-loop
decreases-loop l = length (due_in l.self.table l.moment)
