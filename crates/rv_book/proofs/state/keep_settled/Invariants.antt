-- What those before the loop's own key were told is kept.
use Rattle.std.proofs.Common.{◌≡◌, take}
use Rattle.rv_machine.specs.Machines.{state_in}
use Rattle.rv_book.specs.Operations.{keeping_all}
use Rattle.rv_book.proofs.state.keep_settled.Given as goal

abbrev pub invariant-loop-key : goal.invariant-loop-key
invariant-loop-key l =
    (l.kept.replies ≡ keeping_all (state_in l.machine) l.place l.fn.kept.replies
    (take l.key-index l.key-items))
    × (l.kept.room ≡ l.fn.kept.room)
