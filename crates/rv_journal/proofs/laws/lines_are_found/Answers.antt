use Rattle.std.proofs.Common.{◌∙◌, ap, take}
use Rattle.rv_journal.specs.Text.{whole_lines}
use Rattle.rv_journal.proofs.Lines.{whole_lines-append}
use Rattle.rv_journal.proofs.laws.lines_are_found.Goals as goal

pub returns : goal.returns
returns c =
    let left = c.requires.left in (
      left.0,
      ap whole_lines left.1 ∙ whole_lines-append c.args.text.now (take left.0 c.args.piece.now)
          c.requires.lines,
    )
