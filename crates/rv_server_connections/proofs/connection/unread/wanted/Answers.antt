-- What is wanted of a piece leaves one frame at most.
use Rattle.std.proofs.Common.{rules, arith}
use Rattle.std.proofs.lemmas.Grind.{common_steps}
use Rattle.rv_server_connections.proofs.OfConnection.Sizes.{leaves_one}
use Rattle.rv_server_connections.proofs.connection.unread.wanted.Goals as goal

pub returns-in-None : goal.returns-in-None
returns-in-None c = leaves_one c.args.unread.now c.args.piece.now _ c.type_inv.unread c.type_inv.piece
    (search rules)

pub returns-in-Some : goal.returns-in-Some
returns-in-Some c = leaves_one c.args.unread.now c.args.piece.now _ c.type_inv.unread c.type_inv.piece
    (grind (arith, common_steps))
