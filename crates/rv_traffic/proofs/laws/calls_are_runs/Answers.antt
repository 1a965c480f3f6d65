-- By what came of each.
use Rattle.rv_traffic.proofs.CallsRun.{events_run, gatherings_run, gone_run, looks_run}
use Rattle.rv_traffic.proofs.CallsRun.{read_rounds_run, refusals_run, runs_join, shared_run}
use Rattle.rv_traffic.proofs.CallsRun.{write_rounds_run, written_lines_run}
use Rattle.rv_traffic.proofs.laws.calls_are_runs.Goals as goal

pub returns-clause-joined : goal.returns-clause-joined
returns-clause-joined g c = runs_join

pub returns-clause-events : goal.returns-clause-events
returns-clause-events g c = events_run

pub returns-clause-refusals : goal.returns-clause-refusals
returns-clause-refusals g c = refusals_run

pub returns-clause-looks : goal.returns-clause-looks
returns-clause-looks g c = looks_run

pub returns-clause-gatherings : goal.returns-clause-gatherings
returns-clause-gatherings g c = gatherings_run

pub returns-clause-ends : goal.returns-clause-ends
returns-clause-ends g c = gone_run

pub returns-clause-read_rounds : goal.returns-clause-read_rounds
returns-clause-read_rounds g c = read_rounds_run g.S.Read.remaining

pub returns-clause-shares : goal.returns-clause-shares
returns-clause-shares g c = shared_run

pub returns-clause-write_rounds : goal.returns-clause-write_rounds
returns-clause-write_rounds g c = write_rounds_run g.S.Write.contents

pub returns-clause-written_lines : goal.returns-clause-written_lines
returns-clause-written_lines g c = written_lines_run
