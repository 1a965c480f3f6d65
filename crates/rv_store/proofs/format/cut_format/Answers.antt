-- A text is cut as no other format.
use Rattle.std.proofs.Common.{◌∙◌, refl, sym}
use Rattle.std.proofs.lemmas.Bool.{false≢true}
use Rattle.std.proofs.lemmas.Slice.Eq.{slice_eq-Decides}
use Rattle.std.specs.Cmp.{unsigned_Decides}
use Rattle.rv_store.proofs.Formats.{first_word, no_cut, no_digits}
use Rattle.rv_store.proofs.format.cut_format.Goals as goal

pub returns-in_err-word-clause-none : goal.returns-in_err-word-clause-none
returns-in_err-word-clause-none c _ digits rest cuts =
    no_cut c.args.lines.now digits rest (c.in_err-word.ensures.none refl) cuts

pub returns-then-eq-clause-none : goal.returns-then-eq-clause-none
returns-then-eq-clause-none c none digits rest cuts =
    no_digits c.in_ok-word.rest.now digits rest
    (first_word c.args.lines.now c.in_ok-word.word.now c.in_ok-word.rest.now digits rest
    c.in_ok-word.ensures.parts c.in_ok-word.ensures.first cuts).1 (c.cut_at-then-eq.ensures.none none)

pub returns-else-eq-clause-none : goal.returns-else-eq-clause-none
returns-else-eq-clause-none c _ digits rest cuts =
    let is = first_word c.args.lines.now c.in_ok-word.word.now c.in_ok-word.rest.now digits rest
    c.in_ok-word.ensures.parts c.in_ok-word.ensures.first cuts in
    false≢true (sym c.if-eq.false
    ∙ (slice_eq-Decides unsigned_Decides c.in_ok-word.word.now c.as_slice.result.now c.eq.result
    c.eq.ensures).1
    (is.0 ∙ sym c.as_slice.ensures))
