use Rattle.rv_audit.proofs.Words.{ap, key_in, passed_account}
use Rattle.rv_audit.proofs.Telling.{arrives_in_turn, cancels_in_turn, cancels_other, some_waits, waits_before}
use Rattle.rv_audit.proofs.rules.breaks_count.Goals as goal

pub is_not_next-requires-clause-session : goal.is_not_next-requires-clause-session
is_not_next-requires-clause-session c = c.requires.session c.in-Arrive.key (ap key_in c.in-Arrive.is)

pub is_not_next-requires-in-None-waiting-clause-session
    : goal.is_not_next-requires-in-None-waiting-clause-session
is_not_next-requires-in-None-waiting-clause-session c =
    c.requires.session c.in-Cancel.key (ap key_in c.in-Cancel.is)

pub waits_otherwise-requires-clause-session : goal.waits_otherwise-requires-clause-session
waits_otherwise-requires-clause-session c = c.requires.session c.in-Cancel.key (ap key_in c.in-Cancel.is)

pub waits_otherwise-requires-clause-waits : goal.waits_otherwise-requires-clause-waits
waits_otherwise-requires-clause-waits c = some_waits _ _ _ c.in-Some-waiting.ensures.some

pub returns-in-Some : goal.returns-in-Some
returns-in-Some c =
    let es = (passed_account c.args.front.now).entries in
    waits_before es c.args.act.now c.in-Arrive.key c.in-Arrive.call c.in-Arrive.is
    (some_waits es c.in-Arrive.key.client c.in-Some.field-0 c.in-Some.ensures.some)

pub returns-in-None : goal.returns-in-None
returns-in-None c = arrives_in_turn (passed_account c.args.front.now).entries c.args.act.now c.in-Arrive.key
    c.is_not_next.result c.in-None.ensures.none c.is_not_next.ensures c.in-Arrive.call c.in-Arrive.is

pub returns-in-Some-waiting : goal.returns-in-Some-waiting
returns-in-Some-waiting c =
    let es = (passed_account c.args.front.now).entries in
    cancels_other es c.args.act.now c.in-Cancel.key c.waits_otherwise.result c.in-Cancel.is
    (some_waits es c.in-Cancel.key.client c.in-Some-waiting.field-0 c.in-Some-waiting.ensures.some)
    c.waits_otherwise.ensures

pub returns-in-None-waiting : goal.returns-in-None-waiting
returns-in-None-waiting c = cancels_in_turn (passed_account c.args.front.now).entries c.args.act.now
    c.in-Cancel.key c.is_not_next-in-None-waiting.result c.in-None-waiting.ensures.none
    c.is_not_next-in-None-waiting.ensures c.in-Cancel.is
