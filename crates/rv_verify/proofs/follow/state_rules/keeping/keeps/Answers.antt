use Rattle.std.proofs.Common.{arith, ap, sym, subst, IsTrue}
use Rattle.rv_audit.specs.AccountRules.{rank_of}
use Rattle.rv_audit.specs.declared.rule.Rule.{Rule}
use Rattle.rv_audit.specs.declared.rule.Rule.TheVariants.{P1, P2, P3}
use Rattle.rv_machine.specs.Machines.{state_in}
use Rattle.rv_verify.specs.follow.state_rules.Ruling.{KeepsRule}
use Rattle.rv_verify.proofs.OfFollow.OfAsked.DueNow.{Iff}
use Rattle.rv_verify.proofs.follow.state_rules.keeping.keeps.Goals as goal

pub pairs_oldest-requires-clause-well : goal.pairs_oldest-requires-clause-well
pairs_oldest-requires-clause-well c = let rank = ap rank_of c.in-P3.is in c.requires.before P1 (omega arith)

pub pairs_oldest-requires-clause-named : goal.pairs_oldest-requires-clause-named
pairs_oldest-requires-clause-named c = let rank = ap rank_of c.in-P3.is in c.requires.before P2 (omega arith)

pub pairs_all-requires-clause-well : goal.pairs_all-requires-clause-well
pairs_all-requires-clause-well c = let rank = ap rank_of c.in-P4.is in c.requires.before P1 (omega arith)

pub pairs_all-requires-clause-named : goal.pairs_all-requires-clause-named
pairs_all-requires-clause-named c = let rank = ap rank_of c.in-P4.is in c.requires.before P2 (omega arith)

pub pairs_all-requires-clause-oldest : goal.pairs_all-requires-clause-oldest
pairs_all-requires-clause-oldest c = let rank = ap rank_of c.in-P4.is in c.requires.before P3 (omega arith)

pub returns-in-P2 : goal.returns-in-P2
returns-in-P2 c =
    subst (λ (rule : Rule). Iff (IsTrue c.pairs_opposites.result)
    (KeepsRule rule (state_in c.args.machine.now) c.args.entry.now)) (sym c.in-P2.is)
    c.pairs_opposites.ensures

pub returns-in-P3 : goal.returns-in-P3
returns-in-P3 c =
    subst (λ (rule : Rule). Iff (IsTrue c.pairs_oldest.result)
    (KeepsRule rule (state_in c.args.machine.now) c.args.entry.now)) (sym c.in-P3.is) c.pairs_oldest.ensures

pub returns-in-P4 : goal.returns-in-P4
returns-in-P4 c =
    subst (λ (rule : Rule). Iff (IsTrue c.pairs_all.result)
    (KeepsRule rule (state_in c.args.machine.now) c.args.entry.now)) (sym c.in-P4.is) c.pairs_all.ensures

pub returns-in-S1 : goal.returns-in-S1
returns-in-S1 c =
    subst (λ (rule : Rule). Iff (IsTrue c.swaps_opposites.result)
    (KeepsRule rule (state_in c.args.machine.now) c.args.entry.now)) (sym c.in-S1.is)
    c.swaps_opposites.ensures

pub returns-in-S2 : goal.returns-in-S2
returns-in-S2 c =
    subst (λ (rule : Rule). Iff (IsTrue c.swaps_all.result)
    (KeepsRule rule (state_in c.args.machine.now) c.args.entry.now)) (sym c.in-S2.is) c.swaps_all.ensures
