-- The fields are found where the line has them.
use Rattle.std.proofs.Common.{◌≡◌, ◌∙◌, List, ℕ, None, arith, refl, subst, sym}
use Rattle.std.proofs.lemmas.Result.{err_from_is_err_and}
use Rattle.rv_book.specs.declared.lines.fault.LineFault.TheVariants as line
use Rattle.rv_book.specs.lines.Faults.{line_fault}
use Rattle.rv_text.specs.Bodies.{IsCallBody}
use Rattle.rv_text.specs.declared.call.Call.TheVariants.{Put}
use Rattle.rv_checkpoint.proofs.Cuts.{cut_one}
use Rattle.rv_checkpoint.proofs.Decoded.{no_body}
use Rattle.rv_checkpoint.proofs.SaidOnce.{one_call}
use Rattle.rv_checkpoint.proofs.open.read_lying.Goals as goal

pub returns-in_err-place-clause-bad : goal.returns-in_err-place-clause-bad
returns-in_err-place-clause-bad c told there says =
    let none : c.cut_number.result ≡ None = grind arith in
    c.cut_number.ensures.none none there.place says.body says.place

pub returns-in_err-call-clause-bad : goal.returns-in_err-call-clause-bad
returns-in_err-call-clause-bad c told there says =
    let exit = err_from_is_err_and c.from_residual-in_err-call.result c.from_residual-in_err-call.ensures.1 in
    let bad : line_fault c.in_err-call.field-0.0 ≡ line.Bad = sym exit.2 ∙ cc in
    let cut = rw c.in_ok-place.ensures.ok_part at c.cut_number.ensures.some in
    let same = cut_one says.place cut in
    no_body _ _ c.in_err-call.ensures refl bad (Put says.queue says.item)
    (subst (λ (l : List ℕ). IsCallBody l (Put says.queue says.item)) same.1 says.says)

pub returns-in_err-queue-clause-bad : goal.returns-in_err-queue-clause-bad
returns-in_err-queue-clause-bad c told there says =
    let none : c.put_in.result ≡ None = grind arith in
    let cut = rw c.in_ok-place.ensures.ok_part at c.cut_number.ensures.some in
    let same = cut_one says.place cut in
    c.put_in.ensures.none none says.queue says.item (one_call refl c.in_ok-call.ensures.found
    (subst (λ (l : List ℕ). IsCallBody l (Put says.queue says.item)) same.1 says.says))
