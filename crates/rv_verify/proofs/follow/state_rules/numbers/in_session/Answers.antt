use Rattle.std.proofs.Common.{ap}
use Rattle.rv_account.specs.Account.{key_in}
use Rattle.rv_machine.specs.Machines.{state_in}
use Rattle.rv_verify.proofs.OfFollow.OfAsked.OfSession.{key_told}
use Rattle.rv_verify.proofs.follow.state_rules.numbers.in_session.Goals as goal

pub returns-in-Arrive : goal.returns-in-Arrive
returns-in-Arrive c =
    key_told (λ x. x.now) (state_in c.args.machine.now) c.in-Arrive.key c.args.act.now c.session_of.result
    c.is_some.result (ap key_in c.in-Arrive.is) c.is_some.ensures c.session_of.ensures.some
    c.session_of.ensures.none

pub returns-in-Cancel : goal.returns-in-Cancel
returns-in-Cancel c =
    key_told (λ x. x.now) (state_in c.args.machine.now) c.in-Cancel.key c.args.act.now
    c.session_of-in-Cancel.result c.is_some-in-Cancel.result (ap key_in c.in-Cancel.is)
    c.is_some-in-Cancel.ensures c.session_of-in-Cancel.ensures.some c.session_of-in-Cancel.ensures.none
