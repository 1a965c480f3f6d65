use Rattle.rv_audit.proofs.Pairs.{gains}
use Rattle.rv_audit.proofs.marks.Marks.add.Goals as goal

pub returns-in-Ok-clause-ok : goal.returns-in-Ok-clause-ok
returns-in-Ok-clause-ok c = gains c.args.self.now.marks c.insert.new.self c.args.number c.args.place
    c.in-Ok.ensures.updates.0
