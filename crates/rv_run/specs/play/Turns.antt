-- A play as a list of turns: what each line says, what it does to the world, and what is printed of it.
use Rattle.std.specs.Prelude.{ℕ, List, Result, Ok, Err, Some, [], ◌∷◌, ◌++◌, ◌≡◌, ◌≢◌, codes, map, slice_get}
use Rattle.std.specs.Fmt.{decimal}
use Rattle.std.specs.List.{All}
use Rattle.rv_text.specs.declared.answer.Answer.TheVariants as answers
use Rattle.rv_text.specs.declared.answer.Reply.{Reply}
use Rattle.rv_text.specs.declared.message.Key.{Key}
use Rattle.rv_text.specs.Bodies.{answer_text}
use Rattle.rv_text.specs.Rows.{code_of}
use Rattle.rv_world.specs.declared.parts.event.Event.{Event}
use Rattle.rv_world.specs.declared.parts.packet.Packet.{Packet}
use Rattle.rv_world.specs.declared.parts.seen.Seen.{Seen}
use Rattle.rv_world.specs.declared.parts.seen.Seen.TheVariants as sees
use Rattle.rv_world.specs.declared.parts.seen.WorldRefusal.{WorldRefusal}
use Rattle.rv_world.specs.declared.parts.seen.WorldRefusal.TheVariants as refuses
use Rattle.rv_world.specs.parts.Events.{EventComesTo}
use Rattle.rv_world.specs.parts.World.{World, IsHeld}
use Rattle.rv_run.specs.play.Reading.{SaysEvent, SaysNoEvent}

-- ---- what is printed of an event

-- the number of the answer's packet, one space (32) and the answer's body
pub record TellsAnswer (w : World) (packet : ℕ) (text : List ℕ) : Type 0 where
  pub sent : Packet
  pub there : slice_get w.to_client packet ≡ Some sent
  pub text_is : text ≡ codes "answered " ++ decimal packet ++ 32 ∷ answer_text sent.answer

-- the body of the reply that is held under the key
pub record TellsReply (w : World) (key : Key) (text : List ℕ) : Type 0 where
  pub reply : Reply
  pub held : IsHeld w key reply
  pub text_is : text ≡ codes "settled " ++ answer_text (answers.Replied key reply)

-- what was seen of an event that led to this world
abbrev pub TellsSeen : World → Seen → List ℕ → Type 0
TellsSeen w (sees.Sent packet) text = text ≡ codes "sent " ++ decimal packet
TellsSeen w (sees.Answered packet) text = TellsAnswer w packet text
TellsSeen w sees.Welcomed text = text ≡ codes "welcomed"
TellsSeen w (sees.TurnedAway refusal) text = text ≡ codes "turned away " ++ decimal (code_of refusal)
TellsSeen w (sees.Settled key) text = TellsReply w key text
TellsSeen w sees.Ignored text = text ≡ codes "ignored"
TellsSeen w (sees.Ended current) text = text ≡ codes "ended " ++ decimal current
TellsSeen w (sees.Replaced current) text = text ≡ codes "replaced " ++ decimal current
TellsSeen w sees.Crashed text = text ≡ codes "crashed"
TellsSeen w (sees.Opened epoch) text = text ≡ codes "opened " ++ decimal epoch

-- the number of a refusal
abbrev pub refusal_number : WorldRefusal → ℕ
refusal_number refuses.NoSuchPacket = 1
refusal_number refuses.NotIdle = 2
refusal_number refuses.NotOutstanding = 3
refusal_number refuses.IncarnationNotGreater = 4
refusal_number refuses.EpochNotGreater = 5
refusal_number refuses.NoSuchClient = 6
refusal_number refuses.NoMemory = 7

-- what was seen of the event, or the number of its refusal
abbrev pub TellsResult : World → Result Seen WorldRefusal → List ℕ → Type 0
TellsResult w (Ok seen) text = TellsSeen w seen text
TellsResult w (Err refusal) text = text ≡ codes "refused " ++ decimal (refusal_number refusal)

-- ---- turns

-- what came of a line: it says no event; or the world was given this one, and that was seen of it, or it was
-- refused
pub data LineOutcome : Type 0 where
  NoEvent : LineOutcome
  Given : (e : Event) (shown : Result Seen WorldRefusal) → LineOutcome

-- a line, what came of it, and the text that is printed for it
pub record LineTurn : Type 0 where
  pub line : List ℕ
  pub came : LineOutcome
  pub text : List ℕ

-- the line says no event, and the world stays; or the world takes the event that it says, by its own step, or
-- refuses it and stays
abbrev pub LeadsTo : List ℕ → World → World → LineOutcome → Type 0
LeadsTo line w v NoEvent = SaysNoEvent line × (v ≡ w)
LeadsTo line w v (Given e shown) = SaysEvent line e × EventComesTo w e v shown

abbrev pub TellsLineOutcome : World → LineOutcome → List ℕ → Type 0
TellsLineOutcome v NoEvent text = text ≡ codes "bad line"
TellsLineOutcome v (Given e shown) text = TellsResult v shown text

-- the turn leads from the one world to the other, and its text says what came of its line, in one line: it
-- has no LF (10) in it
pub record TakesTurn (w : World) (turn : LineTurn) (v : World) : Type 0 where
  pub leads : LeadsTo turn.line w v turn.came
  pub tells : TellsLineOutcome v turn.came turn.text
  pub one_line : All (λ byte. byte ≢ 10) turn.text

-- the turns, in order, lead from the one world to the other
abbrev pub Plays : World → List LineTurn → World → Type 0
Plays w [] v = v ≡ w
Plays w (turn ∷ turns) v = (between : World) × TakesTurn w turn between × Plays between turns v

-- the lines and the texts of turns
abbrev pub lines_of : List LineTurn → List (List ℕ)
lines_of turns = map (λ turn. turn.line) turns

abbrev pub turn_texts : List LineTurn → List (List ℕ)
turn_texts turns = map (λ turn. turn.text) turns
