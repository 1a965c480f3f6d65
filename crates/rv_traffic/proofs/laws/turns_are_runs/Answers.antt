-- By what the device took.
use Rattle.rv_traffic.proofs.OneDevice.{others_over, overs_join, unwritten_over, written_over}
use Rattle.rv_traffic.proofs.laws.turns_are_runs.Goals as goal

pub returns-clause-joined : goal.returns-clause-joined
returns-clause-joined g c = overs_join g.L.Lasting.lasts

pub returns-clause-others : goal.returns-clause-others
returns-clause-others g c = others_over g.L.Lasting.lasts

pub returns-clause-written_lines : goal.returns-clause-written_lines
returns-clause-written_lines g c = written_over g.L.Lasting.lasts

pub returns-clause-unwritten_lines : goal.returns-clause-unwritten_lines
returns-clause-unwritten_lines g c = unwritten_over g.L.Lasting.lasts
