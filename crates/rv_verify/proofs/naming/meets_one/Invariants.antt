-- None of the partners before met one.
use Rattle.std.proofs.Common.{◌⊎◌}
use Rattle.rv_account.specs.Account.{Among}
use Rattle.rv_verify.specs.follow.state_rules.Walking.{HoldsBefore}
use Rattle.rv_verify.proofs.naming.meets_one.Given as goal

abbrev pub invariant-loop-partner : goal.invariant-loop-partner
invariant-loop-partner l =
    HoldsBefore (λ p. ¬ (Among l.named p ⊎ Among l.named l.place)) l.partners l.partner-index
