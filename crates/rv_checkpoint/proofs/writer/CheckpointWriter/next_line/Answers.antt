-- What was given, with the next line, or all of it.
use Rattle.std.proofs.Common.{◌+◌, Global, Option, String, refl, subst}
use Rattle.rv_checkpoint.proofs.Given.{given_by, given_whole}
use Rattle.rv_checkpoint.specs.Giving.{GivesSo}
use Rattle.rv_checkpoint.specs.declared.writer.CheckpointWriter.{CheckpointWriter}
use Rattle.rv_checkpoint.proofs.writer.CheckpointWriter.next_line.Goals as goal

pub returns-in-Some-clause-gives : goal.returns-in-Some-clause-gives
returns-in-Some-clause-gives c before has =
    let w = c.args.self.now in
    let later : CheckpointWriter =
    record { head = w.head; opens = w.opens; clients = w.clients; given = w.given + 1 } in
    given_by w later w.given (w.given + 1) before c.in-Some.line refl refl refl has
    (subst (λ (x : Option (String Global)). GivesSo w w.given x) c.in-Some.is c.in_ok-line.ensures)

pub returns-in-None-clause-ends : goal.returns-in-None-clause-ends
returns-in-None-clause-ends c told before s of has =
    given_whole c.args.self.now c.args.self.now.given before s of has
    (subst (λ (x : Option (String Global)). GivesSo c.args.self.now c.args.self.now.given x) c.in-None.is
    c.in_ok-line.ensures)
