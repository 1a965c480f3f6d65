-- What an answer makes of a process that is kept between events.
use Rattle.std.specs.Prelude.{◌≡◌, ℕ, Option, Some, None, option_map}
use Rattle.rv_text.specs.declared.message.Key.{Key}
use Rattle.rv_text.specs.declared.message.Message.{Message}
use Rattle.rv_text.specs.declared.answer.Answer.{Answer}
use Rattle.rv_text.specs.declared.answer.Reply.{Reply}
use Rattle.rv_text.specs.declared.call.Call.{Call}
use Rattle.rv_client.specs.Process.{Process, Idle, Outcome, Settles, Hears}
use Rattle.rv_client.specs.Process.{Welcomed, TurnedAway, Settled, EpochEnded, Replaced, Ignored}
use Rattle.rv_client.specs.Process as process
use Rattle.rv_world.specs.declared.parts.process.Running.{Running}
use Rattle.rv_world.specs.declared.parts.process.Running.TheVariants as running
use Rattle.rv_world.specs.declared.parts.process.HeardAnswer.{HeardAnswer}
use Rattle.rv_world.specs.declared.parts.process.Saying.{Saying}
use Rattle.rv_world.specs.declared.parts.process.Saying.TheVariants as saying
use Rattle.rv_world.specs.declared.parts.event.Event.{Event}
use Rattle.rv_world.specs.declared.parts.event.Event.TheVariants as event
use Rattle.rv_world.specs.declared.parts.seen.Seen.{Seen}
use Rattle.rv_world.specs.declared.parts.seen.Seen.TheVariants as sees

-- a running process, as the client's own
abbrev pub process_in : Running → Process
process_in (running.New new) = process.New new
process_in (running.Idle next) = process.Idle next
process_in (running.Outstanding asking) = process.Outstanding asking

-- the request of a call under a key
abbrev pub request_under : Key → Call → process.Asking
request_under key call = record { key = key; call = call }

-- the message in which an outstanding process says this, and the event in which its client does
abbrev pub said_by : Saying → process.Asking → Message
said_by saying.Request asking = process.request_of asking
said_by saying.Cancel asking = process.cancel_of asking

abbrev pub event_saying : Saying → ℕ → Event
event_saying saying.Request client = event.Resend client
event_saying saying.Cancel client = event.CancelSent client

abbrev pub IsIdle : Process → Type 0
IsIdle process = (next : Option Key) × (process ≡ Idle next)

-- this process then runs, or none; and this is held and seen
pub record LeavesProcess (told : HeardAnswer) (then : Option Process) (held : Option (Key × Reply))
    (seen : Seen)
    : Type 0 where
  pub process : option_map process_in told.process ≡ then
  pub holds : told.held ≡ held
  pub shows : told.seen ≡ seen

-- what an outcome of the answer leaves
abbrev pub LeavesBy : Answer → Outcome → HeardAnswer → Type 0
LeavesBy answer (Welcomed next) told = LeavesProcess told (Some (process.Idle next)) None sees.Welcomed
LeavesBy answer (TurnedAway same refusal) told =
    LeavesProcess told (Some (process.New same)) None (sees.TurnedAway refusal)
LeavesBy answer (Settled next reply) told = (key : Key) × Settles key answer reply
    × LeavesProcess told (Some (process.Idle next)) (Some (key, reply)) (sees.Settled key)
LeavesBy answer (EpochEnded key current) told = LeavesProcess told None None (sees.Ended current)
LeavesBy answer (Replaced key current) told = LeavesProcess told None None (sees.Replaced current)
LeavesBy answer (Ignored same) told = LeavesProcess told (Some same) None sees.Ignored

-- the process hears the answer, and this is left
pub record HearsAs (process : Process) (answer : Answer) (told : HeardAnswer) : Type 0 where
  pub outcome : Outcome
  pub hears : Hears process answer outcome
  pub leaves : LeavesBy answer outcome told
