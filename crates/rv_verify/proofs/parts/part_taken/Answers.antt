-- What was taken through the next LF is a line, a last piece or nothing.
use Rattle.std.proofs.Common.{◌≡◌, ◌∙◌, arith, rules, sym, vec_len}
use Rattle.std.proofs.lemmas.Bool.{eqb-true}
use Rattle.std.proofs.lemmas.List.{nil_from_length}
use Rattle.rv_verify.proofs.Through.{end_next, line_next, piece_next}
use Rattle.rv_verify.proofs.parts.part_taken.Goals as goal

pub returns-then-is_empty : goal.returns-then-is_empty
returns-then-is_empty c begun bytes lacks taken =
    let none = nil_from_length c.args.line.now.items (omega (
      arith,
      c.args.line.now.ok.0,
      eqb-true (vec_len c.args.line.now) 0 (sym c.is_empty.ensures ∙ c.if-is_empty.true),
    ))
    in
    end_next begun bytes c.args.line.now.items lacks taken none

pub returns-then-drop_lf : goal.returns-then-drop_lf
returns-then-drop_lf c begun bytes lacks taken =
    line_next begun bytes c.args.line.now.items lacks taken c.drop_lf.new.line.items
    (c.drop_lf.ensures.yes c.if-drop_lf.true)

pub returns-else-drop_lf : goal.returns-else-drop_lf
returns-else-drop_lf c begun bytes lacks taken =
    let stays : c.drop_lf.new.line.items ≡ c.args.line.now.items =
    c.drop_lf.ensures.stays c.if-drop_lf.false in
    piece_next begun bytes c.drop_lf.new.line.items lacks (stays ∙ taken) (search rules)
    (λ front same. c.drop_lf.ensures.no c.if-drop_lf.false front (sym stays ∙ same))
