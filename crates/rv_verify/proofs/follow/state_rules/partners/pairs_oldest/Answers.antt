use Rattle.rv_audit.specs.AccountRules.{IsPaired}
use Rattle.rv_machine.specs.Machines.{state_in}
use Rattle.rv_verify.proofs.OfFollow.OfAsked.Lines.{call_fits, oldest_told}
use Rattle.rv_verify.proofs.follow.state_rules.partners.pairs_oldest.Goals as goal

pub are_oldest-requires-clause-fits : goal.are_oldest-requires-clause-fits
are_oldest-requires-clause-fits c =
    call_fits c.args.entry.now.act c.in-Some.call.now c.requires.fits.1 c.in-Some.ensures.some.arrives

pub returns-in-Some : goal.returns-in-Some
returns-in-Some c =
    oldest_told IsPaired (state_in c.args.machine.now) c.args.entry.now c.requires.resumes c.in-Some.call.now
    c.in-Some.ensures.some c.as_slice.result.now c.as_slice.ensures c.are_oldest.result c.requires.well
    c.requires.named c.are_oldest.ensures
