-- An insertion of a new client sets its session, leaves the others, and the entries a table.
use Rattle.std.proofs.Common.{◌<◌, is_some, sym, subst, refl, ap, ◌∙◌}
use Rattle.std.proofs.lemmas.Bool.{false≢true}
use Rattle.rv_session.specs.Table.{Table, session_of, session_count}
use Rattle.rv_session.proofs.Mapping.{map_put, put_table}
use Rattle.rv_session.proofs.Setting.{set_by_insert}
use Rattle.rv_session.proofs.sessions.Sessions.add.Goals as goal

pub invariant_of-self-2 : goal.invariant_of-self-2
invariant_of-self-2 c =
    put_table 1024 c.self.inside.sessions.entries c.insert.new.self.entries c.args.client c.args.session
    c.in_ok-insert.field-0
    c.self.invariant c.in_ok-insert.ensures.updates.0 c.in_ok-insert.ensures.old c.in_ok-insert.ensures.len
    (λ _. subst (λ (t : Table). session_count t < 1024) (sym c.self.view_is) c.requires.room)

pub returns-clause-ok : goal.returns-clause-ok
returns-clause-ok c =
    let none = ap (λ (t : Table). session_of t c.args.client) c.self.view_is ∙ c.requires.none in
    rw (← c.self.view_is) (set_by_insert _ _ c.args.client c.args.session refl
    (map_put c.self.inside.sessions.entries c.insert.new.self.entries c.args.client c.args.session
    c.in_ok-insert.ensures.updates.0)
    (λ known. absurd (false≢true (sym (ap is_some none) ∙ known))))
