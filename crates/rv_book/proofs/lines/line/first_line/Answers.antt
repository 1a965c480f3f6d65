-- The first line ends at the first LF, or with the bytes.
use Rattle.std.proofs.Common.{◌≡◌, ◌∷◌, ℕ, List, [], ap, refl, sym, ◌∙◌, false, eqb, length}
use Rattle.rv_book.specs.lines.Lines.{lines}
use Rattle.rv_book.proofs.OfLines.Cutting.{Lacks, lines_cut, lines_last}
use Rattle.rv_book.proofs.lines.line.first_line.Goals as goal

pub returns-in-Some-clause-some : goal.returns-in-Some-clause-some
returns-in-Some-clause-some c =
    ap lines c.in-Some.ensures.parts ∙ lines_cut c.in-Some.line.now c.in-Some.after.now
    c.in-Some.ensures.first

one_line : (bytes : List ℕ) → eqb (length bytes) 0 ≡ false → Lacks 10 bytes → lines bytes ≡ bytes ∷ []
one_line [] some lacks = absurd (cc)
one_line (x ∷ xs) some lacks = lines_last x xs lacks

pub returns-in-None-clause-some : goal.returns-in-None-clause-some
returns-in-None-clause-some c = one_line c.args.bytes.now (sym c.is_empty.ensures ∙ c.if-is_empty.false)
    (c.in-None.ensures.none refl)
