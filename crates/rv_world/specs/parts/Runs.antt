-- Lists of events, as a book takes them; and lists of whatever happens.
use Rattle.std.specs.Prelude.{◌≡◌, ◌⊎◌, ◌≤◌, ℕ, List, [], ◌∷◌, Some, map, slice_get, take}
use Rattle.rv_account.specs.rules.StepLimits.{StepLimits, book_limits}
use Rattle.rv_account.specs.rules.Steps.{Ticks, max_moment, own_moment}
use Rattle.rv_world.specs.declared.parts.event.Event.{Event}
use Rattle.rv_world.specs.declared.parts.seen.Seen.{Seen}
use Rattle.rv_world.specs.declared.parts.seen.WorldRefusal.{WorldRefusal}
use Rattle.rv_world.specs.declared.parts.seen.WorldRefusal.TheVariants as refuses
use Rattle.rv_world.specs.parts.World.{World, first_world}
use Rattle.rv_world.specs.parts.Events.{Steps, StepsUnder, IsEventRefused}

-- the events lead from one world to the other, each by its step
abbrev pub Runs : World → List Event → World → Type 0
Runs w [] v = v ≡ w
Runs w (e ∷ events) v = (between : World) × (shows : Seen) × Steps w e between shows × Runs between events v

-- the events before number i lead to a world in which that one is refused
pub record StopsAt (w : World) (events : List Event) (i : ℕ) (refusal : WorldRefusal) : Type 0 where
  pub world : World
  pub event : Event
  pub there : slice_get events i ≡ Some event
  pub runs : Runs w (take i events) world
  pub refused : IsEventRefused world event refusal

-- memory for the world itself was refused, or the events stopped at one
abbrev pub StopsIn : List Event → ℕ × WorldRefusal → Type 0
StopsIn events stop =
    (stop ≡ (0, refuses.NoMemory)) ⊎ StopsAt (first_world 1) events stop.0 stop.1

-- ---- whatever happens

-- an event, with any step of the server made under these limits; or time that passes at the server without a
-- message, up to a moment
pub data Happening : Type 0 where
  Under : (limits : StepLimits) (event : Event) → Happening
  Elapses : (moment : ℕ) → Happening

-- the present account goes on by the time-outs of a moment that isn't before its own, and nothing else
-- changes
pub record TimePasses (w : World) (moment : ℕ) (v : World) : Type 0 where
  pub not_before : own_moment w.present ≤ moment
  pub at_most : moment ≤ max_moment
  pub ticks : Ticks w.present moment v.present
  pub rest : v ≡ record w { present = v.present }

-- what happens leads from one world to the other
abbrev pub Happens : World → Happening → World → Type 0
Happens w (Under limits event) v = (shows : Seen) × StepsUnder limits w event v shows
Happens w (Elapses moment) v = TimePasses w moment v

-- all that happens leads, one after another, from one world to the other. Limits may differ from step to
-- step, as when a server is started again with others, and time may pass in between
abbrev pub RunsAnyhow : World → List Happening → World → Type 0
RunsAnyhow w [] v = v ≡ w
RunsAnyhow w (happening ∷ happenings) v =
    (between : World) × Happens w happening between × RunsAnyhow between happenings v

-- events, each under a book's limits
abbrev pub by_a_book : List Event → List Happening
by_a_book events = map (λ event. Under book_limits event) events
