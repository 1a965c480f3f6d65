-- What one event does to the world, with the server's step made under any limits and under a book's; what is
-- seen of it, and why it may be refused.
use Rattle.std.specs.Prelude.{◌≡◌, ◌≢◌, ◌⊎◌, ◌<◌, ◌≤◌, ◌++◌, ◌∷◌, [], ℕ, Option, Some, None, Result, Ok, Err}
use Rattle.std.specs.Prelude.{length, slice_get}
use Rattle.std.specs.List.{Contains}
use Rattle.rv_text.specs.declared.version.Version.{Version}
use Rattle.rv_text.specs.declared.message.Key.{Key}
use Rattle.rv_text.specs.declared.message.Message.{Message}
use Rattle.rv_text.specs.declared.message.Message.TheVariants as message
use Rattle.rv_text.specs.declared.call.Call.{Call}
use Rattle.rv_text.specs.declared.answer.Answer.{Answer}
use Rattle.rv_text.specs.declared.answer.Answer.TheVariants as answers
use Rattle.rv_text.specs.declared.answer.Refusal.TheVariants as refusals
use Rattle.rv_text.specs.declared.answer.Reply.{Reply}
use Rattle.rv_account.specs.rules.StepLimits.{StepLimits, book_limits}
use Rattle.rv_account.specs.rules.Steps.{NextUnder}
use Rattle.rv_book.specs.Verdicts.{HasText}
use Rattle.rv_client.specs.Process.{Process, New, Idle, Outstanding, Starting, Asking}
use Rattle.rv_client.specs.Process.{hello_of, request_of, cancel_of, Settles, Hears}
use Rattle.rv_client.specs.Process.{Outcome, Welcomed, TurnedAway, Settled, EpochEnded, Replaced, Ignored}
use Rattle.rv_world.specs.declared.parts.event.Event.{Event}
use Rattle.rv_world.specs.declared.parts.event.Event.TheVariants as event
use Rattle.rv_world.specs.declared.parts.seen.Seen.{Seen}
use Rattle.rv_world.specs.declared.parts.seen.Seen.TheVariants as sees
use Rattle.rv_world.specs.declared.parts.seen.WorldRefusal.{WorldRefusal}
use Rattle.rv_world.specs.declared.parts.seen.WorldRefusal.TheVariants as refuses
use Rattle.rv_world.specs.declared.parts.packet.Packet.{Packet}
use Rattle.rv_world.specs.parts.World.{World, accounts, empty_account, process_of}

-- ---- what events change

-- of the clients' processes only this one changes: it is this process now, or none
pub record OnlyChangesProcess (w v : World) (client : ℕ) (process : Option Process) : Type 0 where
  pub own : process_of v client ≡ process
  pub others : (other : ℕ) → other ≢ client → process_of v other ≡ process_of w other

-- the same, and nothing else changes
pub record ChangesProcess (w : World) (client : ℕ) (process : Option Process) (v : World) : Type 0 where
  pub changes : OnlyChangesProcess w v client process
  pub rest : v ≡ record w { clients = v.clients }

-- the world in which one more message was sent
abbrev pub with_message : World → Message → World
with_message w said = record w { to_server = w.to_server ++ said ∷ [] }

-- the number of the message that is sent next; the number of the answer that is sent next
abbrev pub next_message : World → Seen
next_message w = sees.Sent (length w.to_server)

abbrev pub next_answer : World → Seen
next_answer w = sees.Answered (length w.to_client)

-- ---- the clients' events

-- a start in this incarnation, with this version
abbrev pub start_of : ℕ → ℕ → Version → Starting
start_of client incarnation version =
    record { client = client; incarnation = incarnation; version = version }

-- the incarnation is greater than every one that the client was started in
abbrev pub IsNewest : World → ℕ → ℕ → Type 0
IsNewest w client incarnation = (earlier : ℕ) → Contains w.started (client, earlier) → earlier < incarnation

-- the client's process, if one runs, ends; a new one runs, and its hello is sent
pub record Starts (w : World) (client incarnation : ℕ) (version : Version) (v : World) (shows : Seen)
    : Type 0 where
  pub newest : IsNewest w client incarnation
  pub changes : OnlyChangesProcess w v client (Some (New (start_of client incarnation version)))
  pub rest : v ≡ with_message (record w {
    clients = v.clients;
    started = w.started ++ (client, incarnation) ∷ [];
  }) (hello_of (start_of client incarnation version))
  pub shown : shows ≡ next_message w

-- an idle process begins the call with its next key, and its request is sent
pub record Begins (w : World) (client : ℕ) (call : Call) (v : World) (shows : Seen) : Type 0 where
  pub key : Key
  pub idle : process_of w client ≡ Some (Idle (Some key))
  pub changes : OnlyChangesProcess w v client (Some (Outstanding (record { key = key; call = call })))
  pub rest : v ≡ with_message (record w {
    clients = v.clients;
    asked = w.asked ++ (key, call) ∷ [];
  }) (request_of (record { key = key; call = call }))
  pub shown : shows ≡ next_message w

-- an outstanding process sends what it says
pub record ProcessSays (w : World) (client : ℕ) (says : Asking → Message) (v : World) (shows : Seen)
    : Type 0 where
  pub asking : Asking
  pub outstanding : process_of w client ≡ Some (Outstanding asking)
  pub after : v ≡ with_message w (says asking)
  pub shown : shows ≡ next_message w

-- a process ends
pub record Crashes (w : World) (client : ℕ) (v : World) (shows : Seen) : Type 0 where
  pub process : Process
  pub runs : process_of w client ≡ Some process
  pub ends : ChangesProcess w client None v
  pub shown : shows ≡ sees.Crashed

-- ---- deliveries to the server

-- the client that a message comes from
abbrev pub sender : Message → ℕ
sender (message.Hello client incarnation version) = client
sender (message.Request key call) = key.client
sender (message.Cancel key) = key.client

-- the answer that is sent is what was said, or, if that has texts for which there was no memory, the refusal
-- of that name
abbrev pub IsTold : Answer → Answer → Type 0
IsTold said told = (told ≡ said) ⊎ (HasText said × (told ≡ answers.Refused refusals.NoMemory))

-- the present account takes one step with the message, and the answer is sent to the message's client
pub record ReachesServerUnder (limits : StepLimits) (w : World) (packet moment : ℕ) (v : World) (shows : Seen)
    : Type 0 where
  pub message : Message
  pub there : slice_get w.to_server packet ≡ Some message
  pub said : Answer
  pub next : NextUnder limits w.present moment message v.present said
  pub told : Answer
  pub is_told : IsTold said told
  pub rest : v ≡ record w {
    present = v.present;
    to_client = w.to_client ++ record { client = sender message; answer = told } ∷ [];
  }
  pub shown : shows ≡ next_answer w

-- ---- deliveries to a client

-- the request with this key has the reply, which is held, and the client is idle
pub record Takes (w : World) (client : ℕ) (answer : Answer) (next : Option Key) (reply : Reply) (v : World)
    (shows : Seen) : Type 0 where
  pub key : Key
  pub settles : Settles key answer reply
  pub changes : OnlyChangesProcess w v client (Some (Idle next))
  pub rest : v ≡ record w { clients = v.clients; held = w.held ++ (key, reply) ∷ [] }
  pub shown : shows ≡ sees.Settled key

-- what an outcome of the client's process makes of the world
abbrev pub WorldBecomes : World → ℕ → Answer → Outcome → World → Seen → Type 0
WorldBecomes w client answer (Welcomed next) v shows =
    ChangesProcess w client (Some (Idle next)) v × (shows ≡ sees.Welcomed)
WorldBecomes w client answer (TurnedAway same refusal) v shows =
    ChangesProcess w client (Some (New same)) v × (shows ≡ sees.TurnedAway refusal)
WorldBecomes w client answer (Settled next reply) v shows = Takes w client answer next reply v shows
WorldBecomes w client answer (EpochEnded key current) v shows =
    ChangesProcess w client None v × (shows ≡ sees.Ended current)
WorldBecomes w client answer (Replaced key current) v shows =
    ChangesProcess w client None v × (shows ≡ sees.Replaced current)
WorldBecomes w client answer (Ignored same) v shows = (v ≡ w) × (shows ≡ sees.Ignored)

-- a running process hears the answer
pub record IsHeard (w : World) (process : Process) (packet : Packet) (v : World) (shows : Seen)
    : Type 0 where
  pub outcome : Outcome
  pub hears : Hears process packet.answer outcome
  pub becomes : WorldBecomes w packet.client packet.answer outcome v shows

-- if no process of the client runs, the answer is ignored
abbrev pub ComesTo : Option Process → World → Packet → World → Seen → Type 0
ComesTo None w packet v shows = (v ≡ w) × (shows ≡ sees.Ignored)
ComesTo (Some process) w packet v shows = IsHeard w process packet v shows

-- the answer comes to its client
pub record ReachesClient (w : World) (packet : ℕ) (v : World) (shows : Seen) : Type 0 where
  pub sent : Packet
  pub there : slice_get w.to_client packet ≡ Some sent
  pub comes : ComesTo (process_of w sent.client) w sent v shows

-- ---- a new server

-- an empty account is opened at moment 0, and its epoch is the present one
pub record OpensEpoch (w : World) (epoch : ℕ) (v : World) (shows : Seen) : Type 0 where
  pub greater : w.present.epoch < epoch
  pub after : v ≡ record w { earlier = accounts w; present = empty_account epoch }
  pub shown : shows ≡ sees.Opened epoch

-- ---- one event

-- the event leads from one world to the other, with the server's step made under these limits, and this is
-- seen of it
abbrev pub StepsUnder : StepLimits → World → Event → World → Seen → Type 0
StepsUnder limits w (event.Start client incarnation version) v shows =
    Starts w client incarnation version v shows
StepsUnder limits w (event.Begin client call) v shows = Begins w client call v shows
StepsUnder limits w (event.Resend client) v shows = ProcessSays w client request_of v shows
StepsUnder limits w (event.CancelSent client) v shows = ProcessSays w client cancel_of v shows
StepsUnder limits w (event.Crash client) v shows = Crashes w client v shows
StepsUnder limits w (event.ToServer packet moment) v shows =
    ReachesServerUnder limits w packet moment v shows
StepsUnder limits w (event.ToClient packet) v shows = ReachesClient w packet v shows
StepsUnder limits w (event.NewEpoch epoch) v shows = OpensEpoch w epoch v shows

-- ---- refusals

-- the client was started in this incarnation or in a greater one
pub record WasStarted (w : World) (client incarnation : ℕ) : Type 0 where
  pub other : ℕ
  pub there : Contains w.started (client, other)
  pub reaches : incarnation ≤ other

-- the process has a next key; the process has a request that it has begun
abbrev pub IsReady : Process → Type 0
IsReady process = (next : Key) × (process ≡ Idle (Some next))

abbrev pub IsAsking : Process → Type 0
IsAsking process = (asking : Asking) × (process ≡ Outstanding asking)

-- a process of the client runs, and it is none of these
pub record RunsBut (w : World) (client : ℕ) (Is : Process → Type 0) : Type 0 where
  pub process : Process
  pub runs : process_of w client ≡ Some process
  pub is_not : ¬ Is process

-- no process of the client runs, and this is the refusal for that
abbrev pub RunsNone : World → ℕ → WorldRefusal → Type 0
RunsNone w client refusal = (process_of w client ≡ None) × (refusal ≡ refuses.NoSuchClient)

-- the refusal that is due for an event
abbrev pub RefusalDue : World → Event → WorldRefusal → Type 0
RefusalDue w (event.Start client incarnation version) refusal =
    WasStarted w client incarnation × (refusal ≡ refuses.IncarnationNotGreater)
RefusalDue w (event.Begin client call) refusal =
    RunsNone w client refusal ⊎ (RunsBut w client IsReady × (refusal ≡ refuses.NotIdle))
RefusalDue w (event.Resend client) refusal =
    RunsNone w client refusal ⊎ (RunsBut w client IsAsking × (refusal ≡ refuses.NotOutstanding))
RefusalDue w (event.CancelSent client) refusal =
    RunsNone w client refusal ⊎ (RunsBut w client IsAsking × (refusal ≡ refuses.NotOutstanding))
RefusalDue w (event.Crash client) refusal = RunsNone w client refusal
RefusalDue w (event.ToServer packet moment) refusal =
    (slice_get w.to_server packet ≡ None) × (refusal ≡ refuses.NoSuchPacket)
RefusalDue w (event.ToClient packet) refusal =
    (slice_get w.to_client packet ≡ None) × (refusal ≡ refuses.NoSuchPacket)
RefusalDue w (event.NewEpoch epoch) refusal =
    (epoch ≤ w.present.epoch) × (refusal ≡ refuses.EpochNotGreater)

-- the packet is there, and a process of its client runs
pub record IsAwaited (w : World) (packet : ℕ) : Type 0 where
  pub sent : Packet
  pub there : slice_get w.to_client packet ≡ Some sent
  pub process : Process
  pub runs : process_of w sent.client ≡ Some process

-- the event needs memory: for what is sent, asked or held, or for a process or a server. A crash needs none,
-- nor does an answer whose client has no process
abbrev pub NeedsMemory : World → Event → Type 0
NeedsMemory w (event.Crash client) = ⊥
NeedsMemory w (event.ToClient packet) = IsAwaited w packet
NeedsMemory w _ = Unit {0}

-- no other refusal is due, and memory that the event needs was refused
pub record EventLacksMemory (w : World) (e : Event) (refusal : WorldRefusal) : Type 0 where
  pub nothing_due : (other : WorldRefusal) → ¬ RefusalDue w e other
  pub needs : NeedsMemory w e
  pub is : refusal ≡ refuses.NoMemory

-- the event is refused: this refusal is due, or, only if none is, memory was refused
abbrev pub IsEventRefused : World → Event → WorldRefusal → Type 0
IsEventRefused w e refusal = RefusalDue w e refusal ⊎ EventLacksMemory w e refusal

-- what comes of an event under limits: a step, or a refusal, which changes nothing
abbrev pub EventComesToUnder : StepLimits → World → Event → World → Result Seen WorldRefusal → Type 0
EventComesToUnder limits w e v (Ok shows) = StepsUnder limits w e v shows
EventComesToUnder limits w e v (Err refusal) = IsEventRefused w e refusal × (v ≡ w)

-- ---- under a book's limits

abbrev pub ReachesServer : World → ℕ → ℕ → World → Seen → Type 0
ReachesServer = ReachesServerUnder book_limits

-- the event leads from one world to the other, and this is seen of it
abbrev pub Steps : World → Event → World → Seen → Type 0
Steps = StepsUnder book_limits

-- what comes of an event: a step, or a refusal, which changes nothing
abbrev pub EventComesTo : World → Event → World → Result Seen WorldRefusal → Type 0
EventComesTo = EventComesToUnder book_limits
