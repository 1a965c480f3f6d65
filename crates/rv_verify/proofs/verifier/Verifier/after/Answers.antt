-- The account that the machine holds has passed.
use Rattle.std.proofs.Common.{◌∙◌, ap, arith, refl}
use Rattle.rv_account.proofs.OfState.Agreed.{agreed}
use Rattle.rv_account.specs.state.State.{State}
use Rattle.rv_verify.proofs.verifier.Verifier.after.Goals as goal

pub returns-clause-ready : goal.returns-clause-ready
returns-clause-ready c =
    record { resumes = c.requires; few = omega (arith, c.requires.room.space, c.length-entries.ensures) }

pub returns-clause-read : goal.returns-clause-read
returns-clause-read c lines held r noted = record {
  read = record {
    passed = held.account;
    holds = held.holds;
    account = held.account;
    read = held.read;
    counted = c.length-entries.ensures ∙ ap (λ (s : State). s.length) held.holds.state
        ∙ (agreed held.account held.holds.legal).length;
    stands = refl;
  };
  noted = noted;
}

pub returns-clause-counted : goal.returns-clause-counted
returns-clause-counted c = c.length-entries.ensures
