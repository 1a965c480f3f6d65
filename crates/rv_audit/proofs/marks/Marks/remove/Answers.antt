use Rattle.rv_audit.proofs.Pairs.{loses}
use Rattle.rv_audit.proofs.marks.Marks.remove.Goals as goal

pub returns : goal.returns
returns c = loses c.args.self.now.marks c.remove.new.self c.args.number c.args.place
    c.remove.ensures.updates.0
