use Rattle.rv_account.specs.Account.{Among}
use Rattle.rv_machine.specs.Machines.{state_in}
use Rattle.rv_account.specs.state.State.{place_list}
use Rattle.rv_verify.specs.follow.state_rules.Walking.{HoldsBefore}
use Rattle.rv_verify.proofs.follow.state_rules.partners.names_open.Given as goal

abbrev pub invariant-loop-place : goal.invariant-loop-place
invariant-loop-place l =
    HoldsBefore (Among (place_list (state_in l.machine).open_places)) l.partners l.place-index
