-- What a look-up finds is what the map has.
use Rattle.std.proofs.Common.{sym, ap, ◌∙◌}
use Rattle.rv_session.specs.Table.{Table, session_of}
use Rattle.rv_session.proofs.Mapping.{get_kept}
use Rattle.rv_session.proofs.sessions.Sessions.session_of.Goals as goal

pub returns : goal.returns
returns c =
    c.copied.ensures ∙ c.get.ensures.value ∙ sym (get_kept c.self.inside.sessions.entries c.args.client)
    ∙ ap (λ (t : Table). session_of t c.args.client) c.self.view_is
