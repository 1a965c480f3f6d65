-- What becomes of a connection after it was opened.
use Rattle.rv_traffic.proofs.CallsRun.{calls_join}
use Rattle.rv_host.proofs.reception.Reception.open.Goals as goal

pub returns-then-not-register : goal.returns-then-not-register
returns-then-not-register c = calls_join _ _ _ c.open.ensures.runs c.turn_away.ensures.runs

pub returns : goal.returns
returns c = calls_join _ _ _ c.open.ensures.runs c.attach.ensures.runs
