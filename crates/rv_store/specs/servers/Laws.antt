-- The laws of a hub that is a server that crashes and goes on.
use Rattle.std.specs.Prelude.{◌≡◌, ◌<◌, ◌≤◌, ◌+◌, ◌++◌, ◌∷◌, [], ℕ, List, Some, length, slice_get, take}
use Rattle.rv_text.specs.declared.message.Message.{Message}
use Rattle.rv_text.specs.declared.answer.Refusal.TheVariants.{NoMemory}
use Rattle.rv_text.specs.Limits.{FitsIdentifier}
use Rattle.rv_account.specs.Account.{Account}
use Rattle.rv_account.specs.Limits.{max_moment}
use Rattle.rv_account.specs.rules.Legal.{before}
use Rattle.rv_account.specs.rules.StepLimits.{AreStepLimits, StepLimits}
use Rattle.rv_account.specs.state.resume.Laws.{HadRoom}
use Rattle.rv_server_connections.specs.connection.Traffic.{Traffic}
use Rattle.rv_server_connections.specs.connection.History.{Given, given_bytes}
use Rattle.rv_hub.specs.dispatcher.View.{DispatcherState, DispatcherTerms}
use Rattle.rv_hub.specs.dispatcher.Effects.{Effect}
use Rattle.rv_hub.specs.EventEffects.{all_effects}
use Rattle.rv_hub.specs.HubRuns.{AddsEntries, DoesEvents, IsHubAccount}
use Rattle.rv_hub.specs.Pairing.{HasPairs, on_nothing}
use Rattle.rv_hub.specs.Pasts.{HasPast, Past, no_past, past_after}
use Rattle.rv_hub.specs.Turns.{made_by}
use Rattle.rv_world.specs.parts.World.{empty_account}
use Rattle.rv_store.specs.servers.crashes.Crashes.{Crashed, Lacked, Server, Stored, server_in}
use Rattle.rv_store.specs.servers.Room.{LetsGoOn}
use Rattle.rv_store.specs.servers.Serving.{IsHeldFor, IsHubServer, LeadsServer, MayLeave, RunsServer}
use Rattle.rv_store.specs.servers.Serving.{messages_in, new_hub}

-- the events of a hub are effects of such a server, with messages that came before and those of the hub's own
-- steps
abbrev pub HubsAreServers : Type 0
HubsAreServers = (terms : DispatcherTerms) (events : List (List Effect)) (s t : DispatcherState)
    (a b : Account)
    (messages : List Message) (server : Server) (pasts : ℕ → Past)
    → AreStepLimits terms.limits
    → DoesEvents terms s events t → t.now ≤ max_moment → IsHubAccount a s → AddsEntries a (made_by events) b
    → ((n : ℕ) → HasPairs terms.limits a s n (pasts n)) → IsHubServer messages server a s pasts
    → LeadsServer terms.limits (messages ++ messages_in events) server b t
    (λ n. past_after n (pasts n) s.book.length (all_effects events))

-- the answer that memory was refused may be held back for any message that came
abbrev pub LacksMemory : Type 0
LacksMemory = (messages : List Message) (message : Message) (server : Server) (a : Account)
    (s : DispatcherState)
    (pasts : ℕ → Past)
    → IsHubServer messages server a s pasts
    → let came : List Message = messages ++ message ∷ [] in (later : Server)
    × RunsServer came server (Lacked message ∷ []) later × IsHubServer came later a s pasts
    × IsHeldFor later message (on_nothing NoMemory)

-- no byte of an answer leaves before the server may send that answer. This holds of each answer of an open
-- connection of which a byte left or may leave, as is so when the answers before it have fewer bytes than
-- these
abbrev pub SentMayLeave : Type 0
SentMayLeave = (messages : List Message) (server : Server) (a : Account) (s : DispatcherState) (pasts : ℕ
    → Past)
    (n place : ℕ) (wire : Traffic) (body : List ℕ) (given : Given)
    → IsHubServer messages server a s pasts → HasPast s n (pasts n) → s.open_wires.wires n ≡ Some wire
    → slice_get (pasts n).frames place ≡ Some body → slice_get (pasts n).answers place ≡ Some given
    → length (given_bytes (take place (pasts n).answers)) < (pasts n).sent + length wire.ready
    → MayLeave server body given

-- a hub that begins over this account is this server, and no connection was given anything
pub record BeginsHub (messages : List Message) (server : Server) (a : Account) : Type 0 where
  pub can : LetsGoOn a
  pub account : IsHubAccount a (new_hub a)
  pub is : IsHubServer messages server a (new_hub a) (λ n. no_past)
  pub pairs : (limits : StepLimits) (n : ℕ) → HasPairs limits a (new_hub a) n no_past

-- so is a hub of an epoch in which nothing has happened yet
abbrev pub HubsBegin : Type 0
HubsBegin = (messages : List Message) (epoch : ℕ) → FitsIdentifier epoch
    → BeginsHub messages (server_in epoch) (empty_account epoch)

-- and a hub that goes on, after a crash, from what is left of the unwritten entries, once these are stored
abbrev pub HubsGoOn : Type 0
HubsGoOn = (messages : List Message) (server : Server) (a : Account) (s : DispatcherState) (pasts : ℕ → Past)
    (left : ℕ) → HadRoom a → IsHubServer messages server a s pasts
    → let b : Account = before a (s.open_wires.written + left) in (later : Server)
    × RunsServer messages server (Crashed left ∷ Stored (length b.entries) ∷ []) later
    × BeginsHub messages later b
