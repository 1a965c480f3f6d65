-- What the device took is a run over it.
use Rattle.rv_traffic.proofs.OneDevice.{write_over}
use Rattle.rv_traffic.proofs.traffic.Switchboard.write_lines.Goals as goal

pub returns-clause-runs : goal.returns-clause-runs
returns-clause-runs g c =
    write_over g.L.Lasting.lasts _ _ _ _ c.args.file.now c.write_lines.new.file c.args.now _
    c.write_lines.result c.write_lines.ensures.written c.write_lines.ensures.works
    c.write_lines.ensures.tells c.write_lines.ensures.not_told
