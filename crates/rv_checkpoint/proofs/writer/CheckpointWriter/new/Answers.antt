-- Something stands at each open place, and there aren't too many.
use Rattle.std.proofs.Common.{arith}
use Rattle.rv_checkpoint.proofs.Given.{all_stand, few_said}
use Rattle.rv_checkpoint.proofs.writer.CheckpointWriter.new.Goals as goal

pub returns-clause-ready : goal.returns-clause-ready
returns-clause-ready c =
    let parts = c.into_parts-epoch.ensures in record {
      stand = all_stand c.args.state _ _ _ _ _ parts.parts parts.clients c.requires;
      few = few_said c.args.state _ _ _ _ _ parts.parts parts.clients c.requires;
      within = omega arith;
    }
