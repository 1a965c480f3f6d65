use Rattle.rv_machine.specs.Machines.{state_in}
use Rattle.rv_verify.proofs.OfFollow.OfAsked.DueNow.{arrival_no_tick, cancel_no_tick, hello_no_tick}
use Rattle.rv_verify.proofs.OfFollow.OfAsked.DueNow.{none_passed}
use Rattle.rv_verify.proofs.follow.state_rules.moments.keeps_limits.Goals as goal

pub returns-in-Hello : goal.returns-in-Hello
returns-in-Hello c =
    none_passed (state_in c.args.machine.now) c.args.entry.now.moment c.args.entry.now.act c.has_due.result
    (hello_no_tick _ _ _ _ c.in-Hello.is) c.has_due.ensures

pub returns-in-Arrive : goal.returns-in-Arrive
returns-in-Arrive c =
    none_passed (state_in c.args.machine.now) c.args.entry.now.moment c.args.entry.now.act
    c.has_due-in-Arrive.result (arrival_no_tick _ _ _ c.in-Arrive.is) c.has_due-in-Arrive.ensures

pub returns-in-Cancel : goal.returns-in-Cancel
returns-in-Cancel c =
    none_passed (state_in c.args.machine.now) c.args.entry.now.moment c.args.entry.now.act
    c.has_due-in-Cancel.result (cancel_no_tick _ _ c.in-Cancel.is) c.has_due-in-Cancel.ensures
