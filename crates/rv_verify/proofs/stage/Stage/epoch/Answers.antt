-- What the verifier read is noted of the lines.
use Rattle.std.proofs.Common.{◌≡◌, None, Some, rules, subst}
use Rattle.rv_verify.specs.Noting.{HasNotedOf}
use Rattle.rv_verify.specs.Stages.{epoch_of}
use Rattle.rv_verify.proofs.Staging.{noted_by}
use Rattle.rv_verify.proofs.stage.Stage.epoch.Goals as goal

pub returns-in-Some-clause-noted : goal.returns-in-Some-clause-noted
returns-in-Some-clause-noted c lines r has =
    let is : epoch_of c.args.self.now.verifier ≡ Some c.epoch.result = search rules in
    subst (λ o. HasNotedOf lines o r) is
    (noted_by lines c.args.self.now.verifier c.args.self.now.bad r has)

pub returns-in-None-clause-noted : goal.returns-in-None-clause-noted
returns-in-None-clause-noted c lines r has =
    let is : epoch_of c.args.self.now.verifier ≡ None = search rules in
    subst (λ o. HasNotedOf lines o r) is
    (noted_by lines c.args.self.now.verifier c.args.self.now.bad r has)
