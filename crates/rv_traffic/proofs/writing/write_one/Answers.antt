-- Who has no socket.
use Rattle.std.proofs.Common.{◌∙◌, sym}
use Rattle.std.proofs.lemmas.Bool.{false≢true}
use Rattle.rv_traffic.specs.links.Table.{link_at}
use Rattle.rv_traffic.proofs.Tables.{none_there}
use Rattle.rv_traffic.proofs.writing.write_one.Goals as goal

pub tell_lost-requires-clause-none : goal.tell_lost-requires-clause-none
tell_lost-requires-clause-none g c =
    none_there (link_at c.args.traffic.now.links.table.items c.args.number)
    (λ some. false≢true (sym c.if-not-is_there.true ∙ c.is_there.ensures.1 some))
