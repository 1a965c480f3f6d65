-- A line is read as one entry.
use Rattle.rv_text.specs.Members.{max_identifier}
use Rattle.rv_book.proofs.OfLines.Entering.{entry_one}
use Rattle.rv_verify.proofs.verifier.entry_again.Goals as goal

pub returns-in-Ok : goal.returns-in-Ok
returns-in-Ok c = record {
  same = λ e says. entry_one max_identifier c.args.line.now c.in-Ok.entry e c.in-Ok.ensures.reads says;
}
