use Rattle.rv_audit.specs.AccountRules.{IsPaired}
use Rattle.rv_machine.specs.Machines.{state_in}
use Rattle.std.proofs.Common.{true}
use Rattle.rv_verify.proofs.OfFollow.OfAsked.Lines.{all_told, call_fits, front_named}
use Rattle.rv_verify.proofs.follow.state_rules.partners.pairs_all.Goals as goal

pub takes_all-requires-clause-fits : goal.takes_all-requires-clause-fits
takes_all-requires-clause-fits c =
    call_fits c.args.entry.now.act c.in-Some.call.now c.requires.fits.1 c.in-Some.ensures.some.arrives

pub takes_all-requires-clause-front : goal.takes_all-requires-clause-front
takes_all-requires-clause-front c = λ fewer.
    front_named IsPaired (state_in c.args.machine.now) c.args.entry.now c.requires.resumes c.in-Some.call.now
    c.in-Some.ensures.some c.as_slice.result.now c.as_slice.ensures true c.requires.well c.requires.named
    c.requires.oldest

pub returns-in-Some : goal.returns-in-Some
returns-in-Some c =
    all_told IsPaired (state_in c.args.machine.now) c.args.entry.now c.requires.resumes c.in-Some.call.now
    c.in-Some.ensures.some c.as_slice.result.now c.as_slice.ensures c.takes_all.result c.takes_all.ensures
