-- What bytes say is one state, and of a state the account is the same.
use Rattle.std.proofs.Common.{◌∙◌}
use Rattle.rv_book.specs.lines.Lines.{lines}
use Rattle.rv_checkpoint.proofs.ReadOn.{state_once}
use Rattle.rv_machine.specs.Machines.{state_in}
use Rattle.rv_store.specs.Resumed.{CheckpointsStand}
use Rattle.rv_store.proofs.laws.checkpoints_stand.Goals as goal

stands : CheckpointsStand
stands one other s epoch bytes text account front later is parts held says again same = λ of_epoch. record {
  account = account;
  is = is;
  front = front;
  later = later;
  parts = parts;
  holds = record {
    account = held.account;
    read = held.read;
    holds = record {
      state = same ∙ state_once (lines bytes) s (state_in one) again says ∙ held.holds.state;
      legal = held.holds.legal;
      had_room = held.holds.had_room;
    };
  };
}

pub returns : goal.returns
returns c = stands
