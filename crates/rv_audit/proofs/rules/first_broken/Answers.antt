use Rattle.rv_audit.proofs.Words.{passed_account}
use Rattle.rv_audit.proofs.Ranks.{breaks_next, keeps_all, keeps_next, keeps_up_to}
use Rattle.rv_audit.proofs.rules.first_broken.Goals as goal

pub breaks-requires-clause-before : goal.breaks-requires-clause-before
breaks-requires-clause-before c = keeps_up_to (passed_account c.args.front.now) c.args.entry.now
    c.loop-rule.rule-index c.loop-rule.invariant c.loop-rule-test.true

pub returns-then-breaks-clause-some : goal.returns-then-breaks-clause-some
returns-then-breaks-clause-some c = breaks_next (passed_account c.args.front.now) c.args.entry.now
    c.loop-rule.rule-index c.loop-rule.invariant c.breaks.result c.loop-rule-test.true c.if-breaks.true
    c.breaks.ensures

pub loop-rule-preserved : goal.loop-rule-preserved
loop-rule-preserved c = keeps_next (passed_account c.args.front.now) c.args.entry.now c.loop-rule.rule-index
    c.loop-rule.invariant c.breaks.result c.loop-rule-test.true c.if-breaks.false c.breaks.ensures

pub returns-clause-none : goal.returns-clause-none
returns-clause-none c = keeps_all (passed_account c.args.front.now) c.args.entry.now c.loop-rule.rule-index
    c.loop-rule.invariant c.loop-rule-test.false
