-- A tick ends all that is due, from an empty list.
use Rattle.std.proofs.Common.{◌≤◌, sym, subst, arith}
use Rattle.rv_account.specs.state.State.{State}
use Rattle.rv_machine.specs.Machines.{state_in}
use Rattle.rv_machine.proofs.OutcomeMoves.{ticked_later, ticks_by}
use Rattle.rv_machine.proofs.tables.Holdings.elapse.Goals as goal

pub returns-clause-ticks : goal.returns-clause-ticks
returns-clause-ticks c =
    ticks_by c.args.self.now c.time_out-entry.new.self c.clear.new.self c.clear.ensures.items
    c.max-moment.result c.time_out-entry.result c.time_out-entry.ensures.ticks

pub returns-clause-later : goal.returns-clause-later
returns-clause-later c =
    subst (λ (s : State). s.moment ≤ c.max-moment.result) (sym c.time_out-entry.ensures.ticks.after)
    (ticked_later (state_in c.args.self.now) c.max-moment.result (omega arith))
