-- Laws of plays.
use Rattle.std.specs.Prelude.{ℕ, List, Ok, Err, [], ◌∷◌, ◌++◌, ◌≡◌}
use Rattle.std.specs.List.{Contains}
use Rattle.rv_book.specs.lines.Lines.{lines, printed_lines}
use Rattle.rv_world.specs.declared.parts.event.Event.{Event}
use Rattle.rv_world.specs.parts.Headline.{Headline}
use Rattle.rv_world.specs.parts.Runs.{Runs}
use Rattle.rv_world.specs.parts.World.{World, first_world}
use Rattle.rv_run.specs.play.Reading.{SaysEvent}
use Rattle.rv_run.specs.play.Turns.{Given, LineOutcome, LineTurn, NoEvent, Plays, TellsLineOutcome}
use Rattle.rv_run.specs.play.Turns.{turn_texts}

-- a line says one event at most
abbrev pub OneEvent : Type 0
OneEvent = (line : List ℕ) (d e : Event) → SaysEvent line d → SaysEvent line e → d ≡ e

-- the event that the world took, if it was given one and did not refuse it
abbrev pub taken_events : LineOutcome → List Event
taken_events NoEvent = []
taken_events (Given e (Ok seen)) = e ∷ []
taken_events (Given e (Err refusal)) = []

-- the events that the world took in these turns
abbrev pub events_of : List LineTurn → List Event
events_of [] = []
events_of (turn ∷ turns) = taken_events turn.came ++ events_of turns

-- the events that the world took in a play are a run of the world
abbrev pub PlayIsRun : Type 0
PlayIsRun = (w v : World) (turns : List LineTurn) → Plays w turns v → Runs w (events_of turns) v

-- the headline holds of the world that a play leads to
abbrev pub HeadlineOfPlays : Type 0
HeadlineOfPlays = (epoch : ℕ) (turns : List LineTurn) (w : World) → Plays (first_world epoch) turns w
    → Headline w

-- what a play prints has one line for each turn, which is the turn's text
abbrev pub OneLineEach : Type 0
OneLineEach = (w v : World) (turns : List LineTurn) → Plays w turns v
    → lines (printed_lines (turn_texts turns)) ≡ turn_texts turns

-- what was printed of a turn is true of the last world as well: its answer was sent, and its reply is held
abbrev pub TextsStay : Type 0
TextsStay = (w v : World) (turns : List LineTurn) (turn : LineTurn) → Plays w turns v → Contains turns turn
    → TellsLineOutcome v turn.came turn.text
