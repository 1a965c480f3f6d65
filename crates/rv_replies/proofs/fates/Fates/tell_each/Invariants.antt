-- So far those before this one have their replies.
use Rattle.std.proofs.Common.{take}
use Rattle.rv_machine.specs.Machines.{state_in}
use Rattle.rv_replies.specs.Ending.{told_now}
use Rattle.rv_replies.specs.Noting.{EndsEach}
use Rattle.rv_replies.proofs.fates.Fates.tell_each.Given as goal

abbrev pub invariant-loop-key : goal.invariant-loop-key
invariant-loop-key l =
    EndsEach l.initial.self l.self (take l.key-index l.key-items) (told_now (state_in l.machine) l.act)
