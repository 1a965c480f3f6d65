-- A server that crashes and goes on, with its effects; and the world in which that happens.
use Rattle.std.specs.Prelude.{◌≡◌, ◌≤◌, ◌++◌, ◌∷◌, [], ℕ, List, drop, length, take}
use Rattle.std.specs.List.{Contains}
use Rattle.rv_text.specs.declared.message.Message.{Message}
use Rattle.rv_text.specs.declared.answer.Answer.{Answer}
use Rattle.rv_text.specs.declared.answer.Answer.TheVariants.{Refused}
use Rattle.rv_text.specs.declared.answer.Refusal.TheVariants.{NoMemory}
use Rattle.rv_account.specs.declared.entry.Entry.{Entry}
use Rattle.rv_account.specs.Account.{Account}
use Rattle.rv_account.specs.rules.Legal.{before}
use Rattle.rv_account.specs.rules.Resting.{rests_on}
use Rattle.rv_account.specs.rules.Steps.{NextUnder, StepLimits, Ticks, max_moment, own_moment}
use Rattle.rv_world.specs.declared.parts.event.Event.{Event}
use Rattle.rv_world.specs.declared.parts.event.Event.TheVariants as event
use Rattle.rv_world.specs.declared.parts.packet.Packet.{Packet}
use Rattle.rv_world.specs.declared.parts.seen.Seen.{Seen}
use Rattle.rv_world.specs.parts.World.{World, empty_account, first_world}
use Rattle.rv_world.specs.parts.Events.{IsTold, Steps, sender}

-- ---- a server

-- the account, which no crash takes away; the entries that were made after it; and each answer that was given
-- since the server began, or went on after a crash, with how many entries it rests on
pub record Server : Type 0 where
  pub stored : Account
  pub unstored : List Entry
  pub withheld : List (Packet × ℕ)

-- a server that begins
abbrev pub server_in : ℕ → Server
server_in epoch = record { stored = empty_account epoch; unstored = []; withheld = [] }

-- the account with all that it made
abbrev pub made : Server → Account
made s = record s.stored { entries = s.stored.entries ++ s.unstored }

-- a step with a message; time alone; want of memory, answered to a message without a step; the storing of so
-- many of its entries; and a crash, after which the server goes on with so many of the entries that weren't
-- stored
pub data ServerEffect : Type 0 where
  Stepped : (limits : StepLimits) (moment : ℕ) (message : Message) → ServerEffect
  Passed : (moment : ℕ) → ServerEffect
  Lacked : (message : Message) → ServerEffect
  Stored : (count : ℕ) → ServerEffect
  Crashed : (left : ℕ) → ServerEffect

-- what is held back, with one more answer
abbrev pub withholds : Server → Message → Answer → ℕ → List (Packet × ℕ)
withholds s message told count = s.withheld ++ (record { client = sender message; answer = told }, count) ∷ []

-- all that was made goes on by a step under these limits, whose answer is held back
pub record TakesMessage (s : Server) (limits : StepLimits) (moment : ℕ) (message : Message) (t : Server)
    : Type 0 where
  pub said : Answer
  pub next : NextUnder limits (made s) moment message (made t) said
  pub told : Answer
  pub is_told : IsTold said told
  pub rest : t ≡ record s {
    unstored = t.unstored;
    withheld = withholds s message told (rests_on told (length (made t).entries));
  }

-- the effect leads from the one server to the other
abbrev pub ServerDoes : Server → ServerEffect → Server → Type 0
ServerDoes s (Stepped limits moment message) t = TakesMessage s limits moment message t
ServerDoes s (Passed moment) t = (own_moment (made s) ≤ moment) × (moment ≤ max_moment)
    × Ticks (made s) moment (made t) × (t ≡ record s { unstored = t.unstored })
ServerDoes s (Lacked message) t = t ≡ record s { withheld = withholds s message (Refused NoMemory) 0 }
ServerDoes s (Stored count) t = (length s.stored.entries ≤ count) × (count ≤ length (made s).entries)
    × (t ≡ record s { stored = before (made s) count; unstored = drop count (made s).entries })
ServerDoes s (Crashed left) t = t ≡ record s { unstored = take left s.unstored; withheld = [] }

-- the effect's message, if it has one, is among these
abbrev pub IsOfMessages : List Message → ServerEffect → Type 0
IsOfMessages messages (Stepped limits moment message) = Contains messages message
IsOfMessages messages (Lacked message) = Contains messages message
IsOfMessages messages effect = Unit {0}

-- the answer is held back, and all that it rests on is stored
abbrev pub MaySend : Server → Packet → Type 0
MaySend s packet = (count : ℕ) × (count ≤ length s.stored.entries) × Contains s.withheld (packet, count)

-- ---- the world

-- the network world around the server, whose own account stands for the present one there
pub record CrashWorld : Type 0 where
  pub around : World
  pub server : Server

abbrev pub first_crash_world : ℕ → CrashWorld
first_crash_world epoch = record { around = first_world epoch; server = server_in epoch }

-- the network world in which the server's account is what is stored; the one in which it is all that was made
abbrev pub stored_world : CrashWorld → World
stored_world c = record c.around { present = c.server.stored }

abbrev pub made_world : CrashWorld → World
made_world c = record c.around { present = made c.server }

-- the server does something; an answer is sent; or a client or the link does something, or a server of a
-- greater epoch begins
pub data Occurrence : Type 0 where
  AtServer : (effect : ServerEffect) → Occurrence
  Sends : (packet : Packet) → Occurrence
  Outside : (event : Event) → Occurrence

-- which server there is after an event: messages come to it by its own effects alone
abbrev pub LeavesServer : Event → Server → Server → Type 0
LeavesServer (event.ToServer packet moment) s t = ⊥
LeavesServer (event.NewEpoch epoch) s t = t ≡ server_in epoch
LeavesServer e s t = t ≡ s

-- what occurs leads from the one world to the other
abbrev pub Occurs : CrashWorld → Occurrence → CrashWorld → Type 0
Occurs c (AtServer effect) d =
    IsOfMessages c.around.to_server effect × ServerDoes c.server effect d.server × (d.around ≡ c.around)
Occurs c (Sends packet) d = MaySend c.server packet
    × (d ≡ record c { around = record c.around { to_client = c.around.to_client ++ packet ∷ [] } })
Occurs c (Outside e) d = (shows : Seen) × Steps (stored_world c) e d.around shows × LeavesServer e c.server
    d.server

-- all that occurs, one after another, leads from one world to the other
abbrev pub RunsAcross : CrashWorld → List Occurrence → CrashWorld → Type 0
RunsAcross c [] d = d ≡ c
RunsAcross c (o ∷ occurrences) d = (between : CrashWorld) × Occurs c o between × RunsAcross between
    occurrences d
