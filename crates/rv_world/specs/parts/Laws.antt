-- The laws of events, of lists of events and of whatever happens, over the definitions alone.
use Rattle.std.specs.Prelude.{◌≡◌, ◌≢◌, ◌↔◌, ◌≤◌, ◌++◌, ◌∷◌, [], ℕ, List, Result, Err}
use Rattle.std.specs.List.{Contains}
use Rattle.rv_text.specs.declared.answer.Answer.TheVariants as answers
use Rattle.rv_text.specs.declared.answer.Refusal.TheVariants as refusals
use Rattle.rv_account.specs.rules.StepLimits.{StepLimits, book_limits}
use Rattle.rv_account.specs.rules.Steps.{max_moment, own_moment}
use Rattle.rv_book.specs.Legal.{Legal}
use Rattle.rv_world.specs.declared.parts.event.Event.{Event}
use Rattle.rv_world.specs.declared.parts.packet.Packet.{Packet}
use Rattle.rv_world.specs.declared.parts.seen.Seen.{Seen}
use Rattle.rv_world.specs.declared.parts.seen.WorldRefusal.{WorldRefusal}
use Rattle.rv_world.specs.declared.parts.seen.WorldRefusal.TheVariants as refuses
use Rattle.rv_world.specs.parts.World.{World, first_world, process_of}
use Rattle.rv_world.specs.parts.Events.{EventComesToUnder, RefusalDue, StepsUnder}
use Rattle.rv_world.specs.parts.Runs.{Happening, Runs, RunsAnyhow, TimePasses, by_a_book}
use Rattle.rv_world.specs.parts.Headline.{Headline, HeadlineAnyhow, OnlyGrows}

-- ---- one event

-- the worlds differ at most in how their clients are listed: each client has the same process in both
pub record AreSame (w v : World) : Type 0 where
  pub processes : (client : ℕ) → process_of w client ≡ process_of v client
  pub rest : w ≡ record v { clients = w.clients }

-- between the worlds one answer was sent, the refusal of that name
pub record SentNoMemory (w v : World) : Type 0 where
  pub client : ℕ
  pub sent : v.to_client
      ≡ w.to_client ++ record { client = client; answer = answers.Refused refusals.NoMemory } ∷ []

-- what came of an event that led from one world to the other isn't want of memory
pub record HadMemory (w v : World) (result : Result Seen WorldRefusal) : Type 0 where
  pub not_refused : result ≢ Err refuses.NoMemory
  pub not_sent : ¬ SentNoMemory w v

-- an event leaves no choice, want of memory aside: from worlds that are the same it makes worlds that are the
-- same, and the same is seen of it, or it is refused for the same reason
abbrev pub OneStepUnder : StepLimits → Type 0
OneStepUnder limits = (w x u v : World) (e : Event) (one other : Result Seen WorldRefusal) → AreSame w x
    → EventComesToUnder limits w e u one → EventComesToUnder limits x e v other → HadMemory w u one
    → HadMemory x v other → AreSame u v × (one ≡ other)

-- the event leads to a world, with no want of memory
pub record CanStepUnder (limits : StepLimits) (w : World) (e : Event) : Type 0 where
  pub after : World
  pub shows : Seen
  pub steps : StepsUnder limits w e after shows
  pub not_sent : ¬ SentNoMemory w after

-- in each world whose present account is legal, an event for which no refusal is due leads to a world
abbrev pub StepsExistUnder : StepLimits → Type 0
StepsExistUnder limits = (w : World) (e : Event) → Legal w.present
    → ((refusal : WorldRefusal) → ¬ RefusalDue w e refusal) → CanStepUnder limits w e

-- ---- whatever happens

-- no answer that was ever sent is the refusal of that name
abbrev pub NeverLacked : World → Type 0
NeverLacked w = (packet : Packet) → Contains w.to_client packet
    → packet.answer ≢ answers.Refused refusals.NoMemory

-- in each world whose present account is legal, time can pass up to each moment that is not before its own
abbrev pub TimeCanPass : Type 0
TimeCanPass = (w : World) (moment : ℕ) → Legal w.present → own_moment w.present ≤ moment
    → moment ≤ max_moment → (v : World) × TimePasses w moment v

-- from worlds that are the same, whatever happens makes worlds that are the same, want of memory aside
abbrev pub OneRunAnyhow : Type 0
OneRunAnyhow = (w x u v : World) (happenings : List Happening) → AreSame w x → RunsAnyhow w happenings u
    → RunsAnyhow x happenings v → NeverLacked u → NeverLacked v → AreSame u v

-- the headline holds after whatever happens
abbrev pub HeadlineHoldsAnyhow : Type 0
HeadlineHoldsAnyhow = (epoch : ℕ) (happenings : List Happening) (w : World)
    → RunsAnyhow (first_world epoch) happenings w → HeadlineAnyhow w

-- what was asked, held and answered stays, and so do the accounts' entries
abbrev pub RunsOnlyGrowAnyhow : Type 0
RunsOnlyGrowAnyhow = (w : World) (happenings : List Happening) (v : World) → RunsAnyhow w happenings v
    → OnlyGrows w v

-- events lead to the same worlds as the same events do as what happens under a book's limits
abbrev pub EventsHappen : Type 0
EventsHappen = (w : World) (events : List Event) (v : World)
    → Runs w events v ↔ RunsAnyhow w (by_a_book events) v

-- ---- under a book's limits

abbrev pub OneStep : Type 0
OneStep = OneStepUnder book_limits

abbrev pub CanStep : World → Event → Type 0
CanStep = CanStepUnder book_limits

abbrev pub StepsExist : Type 0
StepsExist = StepsExistUnder book_limits

-- from worlds that are the same, a list of events makes worlds that are the same, want of memory aside
abbrev pub OneRun : Type 0
OneRun = (w x u v : World) (events : List Event) → AreSame w x → Runs w events u → Runs x events v
    → NeverLacked u → NeverLacked v → AreSame u v

-- the headline holds after every list of events
abbrev pub HeadlineHolds : Type 0
HeadlineHolds = (epoch : ℕ) (events : List Event) (w : World) → Runs (first_world epoch) events w → Headline w

-- what was asked, held and answered stays, and so do the accounts' entries
abbrev pub RunsOnlyGrow : Type 0
RunsOnlyGrow = (w : World) (events : List Event) (v : World) → Runs w events v → OnlyGrows w v
