-- Each event is a list of effects.
use Rattle.rv_hub.proofs.Histories.{pasts_kept}
use Rattle.rv_hub.proofs.OneRun.{hubs_are_runs}
use Rattle.rv_hub.proofs.laws.hubs_are_runs.Goals as goal

pub returns-clause-events : goal.returns-clause-events
returns-clause-events c = hubs_are_runs

pub returns-clause-effects : goal.returns-clause-effects
returns-clause-effects c = pasts_kept
