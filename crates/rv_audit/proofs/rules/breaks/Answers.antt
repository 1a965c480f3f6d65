use Rattle.rv_audit.proofs.Words.{M1, M2, M3, N1, N2, N3, P1, P2, P3, P4, S1, S2, ap, arith, passed_account}
use Rattle.rv_audit.specs.AccountRules.{rank_of}
use Rattle.rv_audit.proofs.Ranks.{of_rule}
use Rattle.rv_audit.proofs.RulesSuffice.{names_free_partners, of_session}
use Rattle.rv_audit.proofs.rules.breaks.Goals as goal

pub breaks_count-requires-clause-session : goal.breaks_count-requires-clause-session
breaks_count-requires-clause-session c =
    let rank = ap rank_of c.in-N3.is in
    of_session (passed_account c.args.front.now) c.args.entry.now.act c.requires.front.legal
    (c.requires.before N2 (omega arith))

pub passes_over-requires-clause-names : goal.passes_over-requires-clause-names
passes_over-requires-clause-names c =
    let rank = ap rank_of c.in-P3.is in
    names_free_partners (passed_account c.args.front.now).entries c.args.entry.now
    (c.requires.before P1 (omega arith))

pub passes_over-requires-clause-meets : goal.passes_over-requires-clause-meets
passes_over-requires-clause-meets c =
    let rank = ap rank_of c.in-P3.is in
    c.requires.before P2 (omega arith)

pub returns-in-M1 : goal.returns-in-M1
returns-in-M1 c = of_rule (passed_account c.args.front.now) c.args.entry.now _ c.args.rule M1 c.in-M1.is
    c.falls_back.ensures

pub returns-in-M2 : goal.returns-in-M2
returns-in-M2 c = of_rule (passed_account c.args.front.now) c.args.entry.now _ c.args.rule M2 c.in-M2.is
    c.passes_limit.ensures

pub returns-in-M3 : goal.returns-in-M3
returns-in-M3 c = of_rule (passed_account c.args.front.now) c.args.entry.now _ c.args.rule M3 c.in-M3.is
    c.ticks_for_nothing.ensures

pub returns-in-N1 : goal.returns-in-N1
returns-in-N1 c = of_rule (passed_account c.args.front.now) c.args.entry.now _ c.args.rule N1 c.in-N1.is
    c.starts_no_newer.ensures

pub returns-in-N2 : goal.returns-in-N2
returns-in-N2 c = of_rule (passed_account c.args.front.now) c.args.entry.now _ c.args.rule N2 c.in-N2.is
    c.is_of_no_session.ensures

pub returns-in-N3 : goal.returns-in-N3
returns-in-N3 c = of_rule (passed_account c.args.front.now) c.args.entry.now _ c.args.rule N3 c.in-N3.is
    c.breaks_count.ensures

pub returns-in-P1 : goal.returns-in-P1
returns-in-P1 c = of_rule (passed_account c.args.front.now) c.args.entry.now _ c.args.rule P1 c.in-P1.is
    c.names_wrongly.ensures

pub returns-in-P2 : goal.returns-in-P2
returns-in-P2 c = of_rule (passed_account c.args.front.now) c.args.entry.now _ c.args.rule P2 c.in-P2.is
    c.meets_wrongly.ensures

pub returns-in-P3 : goal.returns-in-P3
returns-in-P3 c = of_rule (passed_account c.args.front.now) c.args.entry.now _ c.args.rule P3 c.in-P3.is
    c.passes_over.ensures

pub returns-in-P4 : goal.returns-in-P4
returns-in-P4 c = of_rule (passed_account c.args.front.now) c.args.entry.now _ c.args.rule P4 c.in-P4.is
    c.misses_partner.ensures

pub returns-in-S1 : goal.returns-in-S1
returns-in-S1 c = of_rule (passed_account c.args.front.now) c.args.entry.now _ c.args.rule S1 c.in-S1.is
    c.meets_wrongly-in-S1.ensures

pub returns-in-S2 : goal.returns-in-S2
returns-in-S2 c = of_rule (passed_account c.args.front.now) c.args.entry.now _ c.args.rule S2 c.in-S2.is
    c.misses_partner-in-S2.ensures
