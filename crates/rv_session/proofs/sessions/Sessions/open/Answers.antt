-- A new table has no client.
use Rattle.std.proofs.Common.{sym, subst}
use Rattle.rv_session.specs.declared.session.Session.{Session}
use Rattle.rv_session.specs.Entries.{IsTable}
use Rattle.rv_session.proofs.Mapping.{empty_table}
use Rattle.rv_session.proofs.sessions.Sessions.open.Goals as goal

pub invariant_of-result : goal.invariant_of-result
invariant_of-result c = subst (IsTable {V = Session} 1024) (sym c.new-sessions.ensures.empty)
    (empty_table Session 1024)
