-- The first is visited, and taken back.
use Rattle.rv_status.proofs.Turns.{first_visited}
use Rattle.rv_status.proofs.visitors.Visitors.visit.Goals as goal

pub returns : goal.returns
returns g c =
    first_visited g.S.Read.remaining g.S.Write.contents g.P.Service.answers c.args.now
    c.args.self.now.line.items c.take_back.new.self.line.items c.args.pages.now c.turn-answers.new.pages
    c.turn-answers.result c.in-Some.visitor c.turn-answers.new.self c.pop_front.new.self.items
    c.in-Some.ensures.items c.turn-answers.ensures c.take_back.ensures
