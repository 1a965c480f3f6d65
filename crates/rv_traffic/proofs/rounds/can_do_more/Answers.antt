-- Who is open goes on where more of its input may be offered, or bytes may leave.
use Rattle.std.proofs.Common.{None, Some}
use Rattle.rv_traffic.specs.Views.{traffic_state}
use Rattle.rv_traffic.proofs.MoreToDo.{more_no, more_yes, none_more}
use Rattle.rv_traffic.proofs.Tables.{open_at}
use Rattle.rv_traffic.proofs.rounds.can_do_more.Goals as goal

pub returns-in-Some-clause-yes : goal.returns-in-Some-clause-yes
returns-in-Some-clause-yes g c =
    more_yes (traffic_state c.args.traffic.now) c.args.number c.may_have_more-has_more.result
    c.is_writable-is_writable.result c.goes_on.result c.in-Some.wire.now
    (open_at c.args.traffic.now.engine.hub c.hub.result.now c.args.number (Some c.in-Some.wire.now)
    c.hub.ensures c.in-Some.ensures.wire) c.may_have_more-has_more.ensures.yes
    c.is_writable-is_writable.ensures c.goes_on.ensures.yes

pub returns-in-Some-clause-no : goal.returns-in-Some-clause-no
returns-in-Some-clause-no g c =
    more_no (traffic_state c.args.traffic.now) c.args.number c.may_have_more-has_more.result
    c.is_writable-is_writable.result c.goes_on.result c.in-Some.wire.now
    (open_at c.args.traffic.now.engine.hub c.hub.result.now c.args.number (Some c.in-Some.wire.now)
    c.hub.ensures c.in-Some.ensures.wire) c.may_have_more-has_more.ensures.no
    c.is_writable-is_writable.ensures c.goes_on.ensures.no

pub returns-in-None-clause-no : goal.returns-in-None-clause-no
returns-in-None-clause-no g c =
    none_more (traffic_state c.args.traffic.now) c.args.number
    (open_at c.args.traffic.now.engine.hub c.hub.result.now c.args.number None c.hub.ensures
    c.in-None.ensures.wire)
