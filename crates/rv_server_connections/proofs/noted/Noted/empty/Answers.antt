-- No connection is open, and none is listed.
use Rattle.rv_server_connections.proofs.Tallying.{empty_noted, empty_tally}
use Rattle.rv_server_connections.proofs.noted.Noted.empty.Goals as goal

pub returns-clause-sound : goal.returns-clause-sound
returns-clause-sound c =
    empty_noted c.empty.result c.empty-2.result c.args.written c.empty.ensures.sound c.empty-2.ensures.sound
    c.empty.ensures.none

pub returns-clause-tally : goal.returns-clause-tally
returns-clause-tally c =
    empty_tally c.empty.result c.empty-2.result c.args.written c.empty.ensures.none c.empty-2.ensures.none
