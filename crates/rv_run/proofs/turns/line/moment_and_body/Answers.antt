-- A moment and a body are found where the line has them.
use Rattle.std.proofs.Common.{◌≡◌, ◌∷◌, ◌++◌, refl, subst, sym, ◌∙◌}
use Rattle.std.proofs.lemmas.Bool.{false≢true}
use Rattle.rv_text.specs.Number.{IsDigits}
use Rattle.rv_book.proofs.OfLines.Cutting.{Lacks, digits_lack_space, not_lacking, cut_once}
use Rattle.rv_run.proofs.turns.line.moment_and_body.Goals as goal

pub returns-in_err-digits-clause-none : goal.returns-in_err-digits-clause-none
returns-in_err-digits-clause-none c none digits body moment same writes =
    not_lacking 32 digits body (subst (Lacks 32) same (c.in_err-digits.ensures.none refl))

pub returns-in_err-read_number-clause-none : goal.returns-in_err-read_number-clause-none
returns-in_err-read_number-clause-none c none digits body moment same writes =
    let parts : c.args.line.now ≡ c.in_ok-digits.digits.now ++ 32 ∷ c.in_ok-digits.body.now =
    c.in_ok-digits.ensures.parts in
    let lacks : Lacks 32 c.in_ok-digits.digits.now = c.in_ok-digits.ensures.first in
    let one = cut_once 32 digits body c.in_ok-digits.digits.now c.in_ok-digits.body.now
    (digits_lack_space digits writes.0.are_digits) lacks (sym same ∙ parts) in
    absurd (false≢true (c.in_err-read_number.ensures.some.1 (subst IsDigits one.0 writes.0)))

pub returns-clause-some : goal.returns-clause-some
returns-clause-some c = (
  c.in_ok-digits.digits.now,
  c.in_ok-digits.ensures.parts,
  (c.in_ok-read_number.ensures.some.0 refl, c.in_ok-read_number.ensures.value),
)
