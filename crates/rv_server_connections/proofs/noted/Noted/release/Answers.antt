-- Those of which bytes are free now are listed.
use Rattle.std.proofs.Common.{Contains, subst}
use Rattle.rv_server_connections.specs.Connections.{ListsAll}
use Rattle.rv_server_connections.proofs.Tallying.{notes_released, released_within}
use Rattle.rv_server_connections.proofs.noted.Noted.release.Goals as goal

pub mark_all-requires-clause-room : goal.mark_all-requires-clause-room
mark_all-requires-clause-room c k there =
    released_within c.args.self.now c.args.written k c.requires ((c.release.ensures.releases.listed k).0
    (subst (λ l. Contains l k) c.deref.ensures.value there))

pub returns-clause-noted : goal.returns-clause-noted
returns-clause-noted c =
    notes_released c.args.self.now (record { slots = c.release.new.self; changes = c.mark_all.new.self })
    c.args.written c.requires c.release.ensures.sound c.release.ensures.releases
    (subst (λ l. ListsAll c.args.self.now.changes.numbers.items l c.mark_all.new.self.numbers.items)
    c.deref.ensures.value c.mark_all.ensures.listed)
