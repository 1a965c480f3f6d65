-- The first line of the reply's key is known.
use Rattle.std.proofs.Common.{sym, ◌∙◌}
use Rattle.rv_replies.proofs.FirstLines.{first_known, stands}
use Rattle.rv_replies.proofs.records.Records.told_beside.Goals as goal

pub returns-in-Some : goal.returns-in-Some
returns-in-Some c a there noted =
    stands c.args.self.now.lines.items c.args.self.now.firsts noted.firsts c.args.index c.args.told.now there
    c.in-Some.first c.beside_line.result (sym c.get.ensures ∙ c.in-Some.is) c.beside_line.ensures

pub returns-in-None : goal.returns-in-None
returns-in-None c a there noted =
    absurd (first_known c.args.self.now.lines.items c.args.self.now.firsts noted.firsts c.args.index
    c.args.told.now there (sym c.get.ensures ∙ c.in-None.is))
