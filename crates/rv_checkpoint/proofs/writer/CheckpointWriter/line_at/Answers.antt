-- The line of an open place, or of what comes after all.
use Rattle.std.proofs.Common.{sym}
use Rattle.rv_checkpoint.proofs.Given.{said_open}
use Rattle.rv_checkpoint.specs.declared.line.StateLine.TheVariants.{Open}
use Rattle.rv_checkpoint.proofs.writer.CheckpointWriter.line_at.Goals as goal

pub returns-in_ok-open_line-in-Some : goal.returns-in_ok-open_line-in-Some
returns-in_ok-open_line-in-Some c = (
  Open c.in-Some.there.now,
  said_open _ _ c.args.index c.in-Some.there.now (sym c.in-Some.ensures),
  c.in_ok-open_line-in-Some.ensures,
)
