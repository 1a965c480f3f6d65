-- What a table of clients says to a hello and to a key, as functions of the map.
use Rattle.std.specs.Prelude.{◌+◌, ◌==◌, ℕ, [], ◌∷◌, Option, Some, None, if◌then◌else◌, is_some, nat_lt}
use Rattle.std.specs.FinMap.{get, len}
use Rattle.rv_text.specs.declared.version.Version.{Version}
use Rattle.rv_text.specs.declared.message.Key.{Key}
use Rattle.rv_text.specs.declared.call.Call.{Call}
use Rattle.rv_text.specs.declared.answer.Reply.{Reply}
use Rattle.rv_text.specs.declared.answer.Refusal.{Refusal}
use Rattle.rv_text.specs.declared.answer.Refusal.TheVariants.{OtherEpoch, NoSession, OldIncarnation}
use Rattle.rv_text.specs.declared.answer.Refusal.TheVariants.{OldNumber, Busy, Gap}
use Rattle.rv_text.specs.Versions.{number_of_version}
use Rattle.rv_session.specs.declared.client.ClientState.{ClientState}
use Rattle.rv_session.specs.declared.client.LastRequest.{LastRequest}
use Rattle.rv_session.specs.declared.client.LastRequest.TheVariants as requests
use Rattle.rv_session.specs.declared.standing.Greeting.{Greeting}
use Rattle.rv_session.specs.declared.standing.Greeting.TheVariants.{Again, Unknown, Full, Newer, Older}
use Rattle.rv_session.specs.declared.standing.Greeting.TheVariants.{OtherVersion}
use Rattle.rv_session.specs.declared.standing.KeyStanding.{KeyStanding}
use Rattle.rv_session.specs.declared.standing.KeyStanding.TheVariants as standing
use Rattle.rv_session.specs.Clients.{ClientStates, place_waiting}
use Rattle.rv_session.specs.Standings.{first_that_holds}

-- ---- a hello

-- where the client is known
abbrev pub client_greeting : ClientState → ℕ → Version → Greeting
client_greeting state incarnation version = first_that_holds
    ((nat_lt incarnation state.incarnation, Older state.incarnation)
    ∷ (nat_lt state.incarnation incarnation, Newer (place_waiting state.request))
    ∷ (number_of_version version == number_of_version state.version, Again)
    ∷ []) (OtherVersion state.version)

-- where it isn't, by how many clients there are and can be
abbrev pub unknown_greeting : ℕ → ℕ → Greeting
unknown_greeting count most = if nat_lt count most then Unknown else Full

abbrev pub greeting_from : Option ClientState → ℕ → ℕ → ℕ → Version → Greeting
greeting_from None count most incarnation version = unknown_greeting count most
greeting_from (Some state) count most incarnation version = client_greeting state incarnation version

-- what a client's hello with an incarnation and a version means to the table
abbrev pub hello_greeting : ClientStates → ℕ → ℕ → Version → Greeting
hello_greeting t client incarnation version =
    greeting_from (get t.clients client) (len t.clients) t.most incarnation version

-- ---- a key

-- what a key can mean: it is refused; its request waits at this place with this call; it was replied to; it
-- was cancelled before it came; or it is the next
pub data Stands : Type 0 where
  IsRefused : Refusal → Stands
  WaitsThere : ℕ → Call → Stands
  WasReplied : Call → Reply → Stands
  WasCancelled : Stands
  IsNext : Stands

-- a lent meaning, as what it is now
abbrev pub stands_as : KeyStanding → Stands
stands_as (standing.Refused refusal) = IsRefused refusal
stands_as (standing.Waits place call) = WaitsThere place call.now
stands_as (standing.Replied call reply) = WasReplied call.now reply.now
stands_as standing.CancelledUnseen = WasCancelled
stands_as standing.Next = IsNext

-- the last number: no request has the number 0 of a fresh session, so it counts as an old one
abbrev pub last_standing : ℕ → LastRequest → Stands
last_standing number requests.Fresh = IsRefused (OldNumber number)
last_standing number (requests.Waits place call) = WaitsThere place call
last_standing number (requests.RepliedTo call reply) = WasReplied call reply
last_standing number requests.CancelledUnseen = WasCancelled

-- where the client is known
abbrev pub client_standing : ClientState → Key → Stands
client_standing state key = first_that_holds
    ((nat_lt state.incarnation key.incarnation, IsRefused NoSession)
    ∷ (nat_lt key.incarnation state.incarnation, IsRefused (OldIncarnation state.incarnation))
    ∷ (nat_lt key.number state.last, IsRefused (OldNumber state.last))
    ∷ (key.number == state.last, last_standing state.last state.request)
    ∷ (is_some (place_waiting state.request), IsRefused (Busy state.last))
    ∷ (nat_lt (state.last + 1) key.number, IsRefused (Gap state.last))
    ∷ []) IsNext

abbrev pub standing_from : Option ClientState → Key → Stands
standing_from None key = IsRefused NoSession
standing_from (Some state) key = client_standing state key

-- what the key means to the table
abbrev pub key_standing : ClientStates → Key → Stands
key_standing t key =
    if key.epoch == t.epoch then standing_from (get t.clients key.client) key
    else IsRefused (OtherEpoch t.epoch)
