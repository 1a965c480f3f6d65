-- A run of events is a run of what happens under a book's limits.
use Rattle.rv_world.proofs.OfParts.Words.{◌∷◌, [], List, Event, World, Runs, RunsAnyhow, by_a_book}
use Rattle.rv_world.specs.parts.Laws.{EventsHappen}

pub runs_happen : (w : World) (events : List Event) (v : World) → Runs w events v
    → RunsAnyhow w (by_a_book events) v
runs_happen w [] v same = same
runs_happen w (e ∷ events) v runs = (runs.0, (runs.1, runs.2), runs_happen runs.0 events v runs.3)

happened_runs : (w : World) (events : List Event) (v : World) → RunsAnyhow w (by_a_book events) v
    → Runs w events v
happened_runs w [] v same = same
happened_runs w (e ∷ events) v runs = (
  runs.0,
  runs.1.0,
  runs.1.1,
  happened_runs runs.0 events v runs.2,
)

pub events_happen : EventsHappen
events_happen w events v = (runs_happen w events v, happened_runs w events v)
