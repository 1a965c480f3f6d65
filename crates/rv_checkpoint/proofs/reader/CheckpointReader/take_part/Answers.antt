-- What the line says comes after what was read, or nothing does.
use Rattle.std.proofs.Common.{◌≡◌, ◌∙◌, Err, ap, subst, sym}
use Rattle.std.proofs.lemmas.Result.{err_from_is_err_and, on_ok_weaker}
use Rattle.rv_book.specs.declared.lines.fault.LineFault.TheVariants as line
use Rattle.rv_checkpoint.specs.Reading.{IsNoNextOf, said_to}
use Rattle.rv_checkpoint.proofs.ReadOn.{stuck, take_on}
use Rattle.rv_checkpoint.proofs.SaidOnce.{line_once}
use Rattle.rv_checkpoint.proofs.reader.CheckpointReader.take_part.Goals as goal

pub returns-in_err-said-clause-bad : goal.returns-in_err-said-clause-bad
returns-in_err-said-clause-bad c told read has =
    let exit = err_from_is_err_and c.from_residual.result c.from_residual.ensures.1 in
    let bad : c.in_err-said.field-0.0 ≡ line.Bad = sym exit.2 ∙ cc in
    stuck _ c.args.head read c.args.line.now _ c.requires
    (λ item says. absurd (c.in_err-said.ensures.bad (ap Err bad) item says)) has

pub returns-clause-taken : goal.returns-clause-taken
returns-clause-taken c =
    on_ok_weaker c.add.result
    (λ adds read has. take_on _ _ c.args.head read c.args.line.now _ _ c.in_ok-said.said c.requires adds.head
    adds.said c.in_ok-said.ensures.reads has) c.add.ensures.added

pub returns-clause-bad : goal.returns-clause-bad
returns-clause-bad c told read has =
    stuck _ c.args.head read c.args.line.now _ c.requires
    (λ item says. subst (λ x. IsNoNextOf (said_to c.args.self.now) x)
    (line_once c.args.head.epoch c.args.line.now c.in_ok-said.said item c.in_ok-said.ensures.reads says)
    (c.add.ensures.bad told)) has
