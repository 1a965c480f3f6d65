-- One entry more leaves the tables.
use Rattle.rv_machine.proofs.Recorded.{recorded_ready}
use Rattle.rv_machine.proofs.tables.Holdings.record.Goals as goal

pub returns-clause-ready : goal.returns-clause-ready
returns-clause-ready c ready time space = recorded_ready c.args.self.now c.args.moment ready time space
