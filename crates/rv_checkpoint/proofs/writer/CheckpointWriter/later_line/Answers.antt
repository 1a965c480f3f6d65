-- The line of a client, or what comes after all.
use Rattle.std.proofs.Common.{refl, sym}
use Rattle.rv_checkpoint.proofs.Given.{said_client}
use Rattle.rv_checkpoint.specs.declared.line.StateLine.TheVariants.{Client}
use Rattle.rv_checkpoint.proofs.writer.CheckpointWriter.later_line.Goals as goal

pub returns-in_ok-client_line-in-Some : goal.returns-in_ok-client_line-in-Some
returns-in_ok-client_line-in-Some c = (
  Client c.in-Some.known.now.0 c.in-Some.known.now.1,
  said_client _ _ _ c.args.index c.in-Some.known.now refl (sym c.in-Some.ensures),
  c.in_ok-client_line-in-Some.ensures,
)
