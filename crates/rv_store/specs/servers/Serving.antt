-- A hub as a server that crashes and goes on.
use Rattle.std.specs.Prelude.{◌≡◌, ◌⊎◌, ◌∷◌, [], ℕ, List, Some, flat_map, length, map}
use Rattle.std.specs.Prelude.{option_to_list, slice_get}
use Rattle.std.specs.List.{All, Contains}
use Rattle.rv_text.specs.declared.message.Message.{Message}
use Rattle.rv_text.specs.declared.answer.Refusal.TheVariants.{BadText, NoMemory}
use Rattle.rv_text.specs.Bodies.{IsMessageBody, answer_text}
use Rattle.rv_account.specs.Account.{Account}
use Rattle.rv_account.specs.rules.StepLimits.{StepLimits}
use Rattle.rv_account.specs.state.After.{state_of}
use Rattle.rv_server_connections.specs.connection.History.{Given}
use Rattle.rv_server_connections.specs.subscribers.Subscription.{nobody}
use Rattle.rv_server_connections.specs.Connections.{none_open}
use Rattle.rv_hub.specs.dispatcher.View.{DispatcherState}
use Rattle.rv_hub.specs.dispatcher.Effects.{Effect, step_of}
use Rattle.rv_hub.specs.EventEffects.{all_effects}
use Rattle.rv_hub.specs.Pairing.{on_nothing}
use Rattle.rv_hub.specs.Pasts.{Past}
use Rattle.rv_world.specs.declared.parts.packet.Packet.{Packet}
use Rattle.rv_world.specs.parts.Events.{sender}
use Rattle.rv_store.specs.servers.crashes.Crashes.{Crashed, IsOfMessages, Lacked, MaySend, Server}
use Rattle.rv_store.specs.servers.crashes.Crashes.{ServerEffect, ServerDoes, Stepped, made}
use Rattle.rv_store.specs.servers.crashes.Laws.{IsServer}

-- ---- the effects

-- the message of the frame with which an effect made a step, if it made one
abbrev pub messages_of : Effect → List Message
messages_of effect = map (λ step. step.message) (option_to_list (step_of effect))

-- the messages of effects, and of events, in order
abbrev pub messages_by : List Effect → List Message
messages_by effects = flat_map messages_of effects

abbrev pub messages_in : List (List Effect) → List Message
messages_in events = messages_by (all_effects events)

-- effects of a server, each with one of these messages if it has one, lead from the one to the other
abbrev pub RunsServer : List Message → Server → List ServerEffect → Server → Type 0
RunsServer messages s [] t = t ≡ s
RunsServer messages s (effect ∷ effects) t = IsOfMessages messages effect × (between : Server)
    × ServerDoes s effect between × RunsServer messages between effects t

-- ---- what the server holds back

-- this answer is held back for the client of this message, by its text, and with the number of entries that
-- it rests on
pub record IsHeldFor (server : Server) (message : Message) (given : Given) : Type 0 where
  pub packet : Packet
  pub client_is : packet.client ≡ sender message
  pub body_is : given.body ≡ answer_text packet.answer
  pub held : Contains server.withheld (packet, given.rests_on)

-- the answer that a frame of this body got: that to bad text, if the body isn't a message's; or that for want
-- of memory; or one that is held back for its message
abbrev pub IsHeldAtServer : Server → List ℕ → Given → Type 0
IsHeldAtServer server body given =
    (((message : Message) → ¬ IsMessageBody body message) × (given ≡ on_nothing BadText))
    ⊎ ((given ≡ on_nothing NoMemory)
    ⊎ ((message : Message) × IsMessageBody body message × IsHeldFor server message given))

-- each answer in a connection's past is such a one for the frame at its place
abbrev pub AreHeldAtServer : Server → List (List ℕ) → List Given → Type 0
AreHeldAtServer server frames answers = (place : ℕ) (body : List ℕ) (given : Given)
    → slice_get frames place ≡ Some body → slice_get answers place ≡ Some given
    → IsHeldAtServer server body given

-- the hub with this account and these pasts of its connections is this server: what the server made is the
-- account; it stored as many entries as the hub has written; and each answer that a connection was given is
-- one that it holds back
pub record IsHubServer (messages : List Message) (server : Server) (a : Account) (s : DispatcherState)
    (pasts : ℕ → Past) : Type 0 where
  pub server_is : IsServer messages server
  pub made_is : made server ≡ a
  pub stored_is : length server.stored.entries ≡ s.open_wires.written
  pub answers : (n : ℕ) → AreHeldAtServer server (pasts n).frames (pasts n).answers

-- a step under these limits, time alone, or entries that are stored, but no crash and no want of memory
abbrev pub IsOfHub : StepLimits → ServerEffect → Type 0
IsOfHub limits (Stepped own moment message) = own ≡ limits
IsOfHub limits (Lacked message) = ⊥
IsOfHub limits (Crashed left) = ⊥
IsOfHub limits effect = Unit {0}

-- such effects, each with one of these messages if it has one, lead from this server to one that the hub is
pub record LeadsServer (limits : StepLimits) (messages : List Message) (server : Server) (b : Account)
    (t : DispatcherState) (pasts : ℕ → Past) : Type 0 where
  pub effects : List ServerEffect
  pub are : All (IsOfHub limits) effects
  pub later : Server
  pub runs : RunsServer messages server effects later
  pub is : IsHubServer messages later b t pasts

-- ---- what may leave

-- the answer may be sent to the client of this message
pub record MaySendFor (server : Server) (message : Message) (given : Given) : Type 0 where
  pub packet : Packet
  pub client_is : packet.client ≡ sender message
  pub body_is : given.body ≡ answer_text packet.answer
  pub may : MaySend server packet

-- the answer that a frame of this body got may be sent; answers to bad text and for want of memory always may
abbrev pub MayLeave : Server → List ℕ → Given → Type 0
MayLeave server body given =
    (((message : Message) → ¬ IsMessageBody body message) × (given ≡ on_nothing BadText))
    ⊎ ((given ≡ on_nothing NoMemory)
    ⊎ ((message : Message) × IsMessageBody body message × MaySendFor server message given))

-- ---- a new hub

-- a hub over a machine with this account's state: all that there is counts as written, no connection is open
abbrev pub new_hub : Account → DispatcherState
new_hub a = record {
  book = state_of a;
  now = (state_of a).moment;
  open_wires = none_open (state_of a).length;
  changed = [];
  hears = nobody;
}
