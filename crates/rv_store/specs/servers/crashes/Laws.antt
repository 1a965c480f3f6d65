-- The laws: on a server's effects, whatever messages came, and the parts of the headline, after whatever
-- occurs.
use Rattle.std.specs.Prelude.{◌≡◌, ◌⊎◌, ◌≤◌, ℕ, List, Some, length}
use Rattle.std.specs.List.{Contains}
use Rattle.rv_text.specs.declared.version.Version.{Version}
use Rattle.rv_text.specs.declared.message.Key.{Key}
use Rattle.rv_text.specs.declared.message.Message.{Message}
use Rattle.rv_text.specs.declared.message.Message.TheVariants.{Hello, Request}
use Rattle.rv_text.specs.declared.call.Call.{Call}
use Rattle.rv_text.specs.declared.answer.Answer.{Answer}
use Rattle.rv_text.specs.declared.answer.Answer.TheVariants.{Refused}
use Rattle.rv_text.specs.declared.answer.Refusal.{Refusal}
use Rattle.rv_text.specs.declared.answer.Refusal.TheVariants.{Busy, Gap, NoMemory, NoSession, OtherCall}
use Rattle.rv_text.specs.declared.answer.Refusal.TheVariants.{OtherVersion}
use Rattle.rv_text.specs.declared.answer.Reply.{Reply}
use Rattle.rv_account.specs.declared.entry.Act.TheVariants as act
use Rattle.rv_account.specs.Account.{Account, Extends, act_at}
use Rattle.rv_account.specs.rules.Legal.{Legal, before}
use Rattle.rv_account.specs.rules.Steps.{NextUnder, StepLimits}
use Rattle.rv_world.specs.declared.parts.packet.Packet.{Packet}
use Rattle.rv_world.specs.parts.World.{World, accounts, first_world}
use Rattle.rv_world.specs.parts.Events.{IsTold, sender}
use Rattle.rv_world.specs.parts.Headline.{ArrivesAt, IsAnswered, IsNo, LegalAccounts, MeetsNobody}
use Rattle.rv_world.specs.parts.Headline.{NoTwoReplies, OnlyGrows, OrderOfArrival, ReceivedMeansAssigned}
use Rattle.rv_world.specs.parts.Headline.{TrueExchange}
use Rattle.rv_world.specs.parts.Runs.{Happening, RunsAnyhow}
use Rattle.rv_store.specs.servers.crashes.Crashes.{CrashWorld, IsOfMessages, MaySend, Occurrence, RunsAcross}
use Rattle.rv_store.specs.servers.crashes.Crashes.{Server, ServerEffect, ServerDoes, first_crash_world, made}
use Rattle.rv_store.specs.servers.crashes.Crashes.{made_world, server_in, stored_world}

-- ---- a server's effects, whatever messages came

-- the answer is that of a step with one of these messages, sent by the answer's client, from a front of the
-- account to its front of so many entries
pub record IsHeldStep (messages : List Message) (a : Account) (packet : Packet) (count : ℕ) : Type 0 where
  pub message : Message
  pub limits : StepLimits
  pub early : ℕ
  pub moment : ℕ
  pub said : Answer
  pub sent : Contains messages message
  pub client_is : packet.client ≡ sender message
  pub in_order : early ≤ count
  pub within : count ≤ length a.entries
  pub next : NextUnder limits (before a early) moment message (before a count) said
  pub is_told : IsTold said packet.answer

-- it is the answer of such a step, or the one for want of memory
abbrev pub IsHeldRightly : List Message → Account → Packet → ℕ → Type 0
IsHeldRightly messages a packet count =
    (packet.answer ≡ Refused NoMemory) ⊎ IsHeldStep messages a packet count

-- what the server made is legal; its arrivals and hellos came by these messages; and each answer that it
-- holds back is right by them
pub record IsServer (messages : List Message) (s : Server) : Type 0 where
  pub legal : Legal (made s)
  pub arrivals : (r : ℕ) (key : Key) (call : Call) → ArrivesAt (made s).entries key r call
      → Contains messages (Request key call)
  pub hellos : (r client incarnation : ℕ) (version : Version)
      → act_at (made s).entries r ≡ Some (act.Hello client incarnation version)
      → Contains messages (Hello client incarnation version)
  pub answers : (packet : Packet) (count : ℕ) → Contains s.withheld (packet, count)
      → IsHeldRightly messages (made s) packet count

-- each server is such a one when it begins
abbrev pub ServersBegin : Type 0
ServersBegin = (messages : List Message) (epoch : ℕ) → IsServer messages (server_in epoch)

-- the later server is such a one, and has all that the earlier one stored
pub record KeepsServer (messages : List Message) (s t : Server) : Type 0 where
  pub server : IsServer messages t
  pub stored : Extends s.stored t.stored

-- each effect keeps that
abbrev pub EffectsKeepServers : Type 0
EffectsKeepServers = (messages : List Message) (s t : Server) (effect : ServerEffect) → IsServer messages s
    → IsOfMessages messages effect → ServerDoes s effect t → KeepsServer messages s t

-- an answer that may be sent is that of a step between fronts of what is stored, or the one for want of
-- memory
abbrev pub SentIsStored : Type 0
SentIsStored = (messages : List Message) (s : Server) (packet : Packet) → IsServer messages s
    → MaySend s packet
    → (count : ℕ) × IsHeldRightly messages s.stored packet count

-- ---- the headline

-- this holds after whatever occurs, in a world that began in any epoch
abbrev pub AfterAll : (CrashWorld → Type 0) → Type 0
AfterAll Holds = (epoch : ℕ) (occurrences : List Occurrence) (c : CrashWorld)
    → RunsAcross (first_crash_world epoch) occurrences c → Holds c

abbrev pub NoTwoRepliesAcross : Type 0
NoTwoRepliesAcross = AfterAll (λ c. NoTwoReplies (stored_world c))

abbrev pub LegalAccountsAcross : Type 0
LegalAccountsAcross = AfterAll (λ c. LegalAccounts (made_world c))

abbrev pub ReceivedMeansAssignedAcross : Type 0
ReceivedMeansAssignedAcross = AfterAll (λ c. ReceivedMeansAssigned (stored_world c))

-- a request that is answered with a no meets nobody in all that is made, then or after whatever else occurs
abbrev pub MeetsNobodyAcross : CrashWorld → Type 0
MeetsNobodyAcross c = (key : Key) (told : Reply) (further : List Occurrence) (d : CrashWorld)
    → IsAnswered (stored_world c) key told → IsNo told → RunsAcross c further d
    → MeetsNobody (made_world d) key

abbrev pub NeverHandedOverAcross : Type 0
NeverHandedOverAcross = AfterAll MeetsNobodyAcross

abbrev pub OrderOfArrivalAcross : Type 0
OrderOfArrivalAcross = AfterAll (λ c. OrderOfArrival (made_world c))

abbrev pub TrueExchangeAcross : Type 0
TrueExchangeAcross = AfterAll (λ c. TrueExchange (stored_world c))

abbrev pub OnlyGrowthAcross : Type 0
OnlyGrowthAcross = AfterAll (λ c. (further : List Occurrence) (d : CrashWorld) → RunsAcross c further d
    → OnlyGrows (stored_world c) (stored_world d))

-- the answer is that of a step with a message that was sent, between two fronts of an account
pub record IsOfSomeStep (w : World) (packet : Packet) : Type 0 where
  pub account : Account
  pub is_there : Contains (accounts w) account
  pub count : ℕ
  pub step : IsHeldStep w.to_server account packet count

abbrev pub EveryAnswer : World → Type 0
EveryAnswer w = (packet : Packet) → Contains w.to_client packet
    → (packet.answer ≡ Refused NoMemory) ⊎ IsOfSomeStep w packet

abbrev pub EveryAnswerAcross : Type 0
EveryAnswerAcross = AfterAll (λ c. EveryAnswer (stored_world c))

-- refusals that a client which keeps the protocol gets only if it was forgotten: refusals 3, 6, 7, 8 and 12
abbrev pub ForgetsClient : Refusal → Type 0
ForgetsClient NoSession = Unit {0}
ForgetsClient OtherCall = Unit {0}
ForgetsClient (Busy last) = Unit {0}
ForgetsClient (Gap last) = Unit {0}
ForgetsClient (OtherVersion current) = Unit {0}
ForgetsClient _ = ⊥

abbrev pub NobodyForgotten : World → Type 0
NobodyForgotten w = (packet : Packet) (refusal : Refusal) → Contains w.to_client packet
    → packet.answer ≡ Refused refusal → ¬ ForgetsClient refusal

abbrev pub NobodyForgottenAcross : Type 0
NobodyForgottenAcross = AfterAll (λ c. NobodyForgotten (stored_world c))

-- ---- a server that stores and sends at once

-- whatever happens in the network world occurs here too, and leaves the same world
abbrev pub TodayIsTheCase : Type 0
TodayIsTheCase = (epoch : ℕ) (happenings : List Happening) (w : World)
    → RunsAnyhow (first_world epoch) happenings w → (occurrences : List Occurrence) × (c : CrashWorld)
    × RunsAcross (first_crash_world epoch) occurrences c × (stored_world c ≡ w)
