-- For private clauses: the texts of results, one by one.
use Rattle.std.specs.Prelude.{ℕ, ◌≡◌, ◌≢◌, List, Result, Some, String, IsSome, slice_get, string_bytes}
use Rattle.std.specs.List.{All}
use Rattle.std.specs.declared.alloc.Global.{Global}
use Rattle.rv_text.specs.declared.answer.Answer.TheVariants as answers
use Rattle.rv_text.specs.declared.answer.Reply.{Reply}
use Rattle.rv_text.specs.declared.message.Key.{Key}
use Rattle.rv_text.specs.Bodies.{HasBodyLength, answer_text}
use Rattle.rv_run.specs.Output.{IsShort}
use Rattle.rv_world.specs.declared.parts.event.Event.{Event}
use Rattle.rv_world.specs.declared.parts.event.Event.TheVariants as event
use Rattle.rv_world.specs.declared.parts.packet.Packet.{Packet}
use Rattle.rv_world.specs.declared.parts.seen.Seen.{Seen}
use Rattle.rv_world.specs.declared.parts.seen.Seen.TheVariants as sees
use Rattle.rv_world.specs.declared.parts.seen.WorldRefusal.{WorldRefusal}
use Rattle.rv_world.specs.parts.Events.{EventComesTo}
use Rattle.rv_world.specs.parts.World.{World, IsHeld}
use Rattle.rv_run.specs.play.Turns.{LineOutcome, TakesTurn, TellsResult}

-- ---- what can be shown

-- an answer of this number was sent
abbrev pub WasSent : World → ℕ → Type 0
WasSent w packet = IsSome (slice_get w.to_client packet)

-- the answer of this number is the reply that is held under the key
pub record HoldsAnswer (w : World) (packet : ℕ) (key : Key) : Type 0 where
  pub client : ℕ
  pub reply : Reply
  pub there : slice_get w.to_client packet
      ≡ Some (record { client = client; answer = answers.Replied key reply })
  pub held : IsHeld w key reply

-- only an answer that comes to its client settles a request
abbrev pub SettlesBy : World → Event → Key → Type 0
SettlesBy w (event.ToClient packet) key = HoldsAnswer w packet key
SettlesBy w _ key = ⊥

-- the event settles some request
abbrev pub SettlesOne : World → Event → Type 0
SettlesOne w e = (key : Key) × SettlesBy w e key

-- what is shown of an event is there
abbrev pub CanTell : World → Event → Seen → Type 0
CanTell w e (sees.Answered packet) = WasSent w packet
CanTell w e (sees.Settled key) = SettlesBy w e key
CanTell w e _ = Unit {0}

-- ---- texts

-- the text is one line, and fits its room
pub record FitsLine (text : List ℕ) : Type 0 where
  pub one_line : All (λ byte. byte ≢ 10) text
  pub short : IsShort text

-- the body of the answer of this number
pub record IsBodyOf (w : World) (packet : ℕ) (body : String Global) : Type 0 where
  pub sent : Packet
  pub there : slice_get w.to_client packet ≡ Some sent
  pub body_is : string_bytes body ≡ answer_text sent.answer
  pub fits : HasBodyLength (string_bytes body)
  pub one_line : All (λ byte. byte ≢ 10) (string_bytes body)

-- the text says the result in a line
pub record IsResult (w : World) (shown : Result Seen WorldRefusal) (text : String Global) : Type 0 where
  pub tells : TellsResult w shown (string_bytes text)
  pub fits : FitsLine (string_bytes text)

-- the world was given the event, and the text says the result
pub record PlaysEvent (w : World) (e : Event) (v : World) (text : String Global) : Type 0 where
  pub shown : Result Seen WorldRefusal
  pub comes : EventComesTo w e v shown
  pub told : IsResult v shown text

-- the line took its turn, with this text
pub record PlaysLine (w : World) (line : List ℕ) (v : World) (text : String Global) : Type 0 where
  pub came : LineOutcome
  pub takes : TakesTurn w (record { line = line; came = came; text = string_bytes text }) v
  pub short : IsShort (string_bytes text)
