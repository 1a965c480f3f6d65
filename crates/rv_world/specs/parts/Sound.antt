-- What holds of a world after every list of events, as far as further steps need it.
use Rattle.std.specs.Prelude.{◌≡◌, ◌<◌, ◌≤◌, ℕ, Some, None, slice_get}
use Rattle.std.specs.List.{Contains}
use Rattle.rv_text.specs.declared.message.Key.{Key}
use Rattle.rv_text.specs.declared.message.Message.{Message}
use Rattle.rv_text.specs.declared.message.Message.TheVariants as message
use Rattle.rv_text.specs.declared.call.Call.{Call}
use Rattle.rv_text.specs.declared.answer.Reply.{Reply}
use Rattle.rv_text.specs.Limits.{FitsAnswer, FitsCall, FitsIdentifier, FitsKey, FitsMessage}
use Rattle.rv_account.specs.Account.{Account}
use Rattle.rv_book.specs.Limits.{FitsAccount}
use Rattle.rv_client.specs.Process.{Process, New, Idle, Outstanding, Starting, Asking}
use Rattle.rv_world.specs.declared.parts.packet.Packet.{Packet}
use Rattle.rv_world.specs.parts.World.{World, accounts, process_of, WasAsked, IsHeld}
use Rattle.rv_world.specs.parts.Headline.{NoTwoReplies, LegalAccounts}

-- ---- limits

abbrev pub FitsProcess : Process → Type 0
FitsProcess (New starting) = FitsIdentifier starting.client × FitsIdentifier starting.incarnation
FitsProcess (Idle None) = Unit {0}
FitsProcess (Idle (Some next)) = FitsKey next
FitsProcess (Outstanding asking) = FitsKey asking.key × FitsCall asking.call

-- all that a delivery or a process hands on keeps its limits
pub record AllFits (w : World) : Type 0 where
  pub accounts_fit : (a : Account) → Contains (accounts w) a → FitsAccount a
  pub messages : (m : Message) → Contains w.to_server m → FitsMessage m
  pub answers : (p : Packet) → Contains w.to_client p → FitsAnswer p.answer
  pub processes : (client : ℕ) (process : Process) → process_of w client ≡ Some process
      → FitsProcess process

-- ---- epochs

-- each epoch that was opened is greater than those before it
abbrev pub EpochsRise : World → Type 0
EpochsRise w = (i j : ℕ) (a b : Account) → slice_get (accounts w) i ≡ Some a
    → slice_get (accounts w) j ≡ Some b → i < j → a.epoch < b.epoch

-- ---- keys

-- the key is of this client, in this incarnation
abbrev pub IsOfStart : Key → ℕ → ℕ → Type 0
IsOfStart key client incarnation = (key.client ≡ client) × (key.incarnation ≡ incarnation)

-- the client was last started in this incarnation
pub record IsLastStart (w : World) (client incarnation : ℕ) : Type 0 where
  pub there : Contains w.started (client, incarnation)
  pub greatest : (other : ℕ) → Contains w.started (client, other) → other ≤ incarnation

-- nothing was asked yet in this start
abbrev pub AskedNothing : World → ℕ → ℕ → Type 0
AskedNothing w client incarnation = (key : Key) (call : Call) → WasAsked w key call
    → ¬ IsOfStart key client incarnation

-- what was asked in the key's start has the key's epoch and a lower number
abbrev pub AskedBelow : World → Key → Type 0
AskedBelow w next = (key : Key) (call : Call) → WasAsked w key call
    → IsOfStart key next.client next.incarnation → (key.epoch ≡ next.epoch) × (key.number < next.number)

-- the same, except that the number may be the key's own
abbrev pub AskedUpTo : World → Key → Type 0
AskedUpTo w last = (key : Key) (call : Call) → WasAsked w key call
    → IsOfStart key last.client last.incarnation → (key.epoch ≡ last.epoch) × (key.number ≤ last.number)

-- the request was asked in its client's last start, as the last one there, and no reply to it is held
pub record IsOwed (w : World) (client : ℕ) (asking : Asking) : Type 0 where
  pub client_is : asking.key.client ≡ client
  pub last_start : IsLastStart w client asking.key.incarnation
  pub asked : WasAsked w asking.key asking.call
  pub last : AskedUpTo w asking.key
  pub not_held : (told : Reply) → ¬ IsHeld w asking.key told

-- the key is of its client's last start, with a number above all that were asked there
pub record IsUnasked (w : World) (client : ℕ) (next : Key) : Type 0 where
  pub client_is : next.client ≡ client
  pub last_start : IsLastStart w client next.incarnation
  pub below : AskedBelow w next

-- a new process asked nothing yet
pub record IsNewStart (w : World) (client : ℕ) (starting : Starting) : Type 0 where
  pub client_is : starting.client ≡ client
  pub last_start : IsLastStart w client starting.incarnation
  pub nothing : AskedNothing w client starting.incarnation

-- a client's process is that of its last start, with what was asked there
abbrev pub IsProcessOf : World → ℕ → Process → Type 0
IsProcessOf w client (New starting) = IsNewStart w client starting
IsProcessOf w client (Idle None) = Unit {0}
IsProcessOf w client (Idle (Some next)) = IsUnasked w client next
IsProcessOf w client (Outstanding asking) = IsOwed w client asking

-- ---- packets

-- what a message asks for was asked
abbrev pub IsAskedFor : World → Message → Type 0
IsAskedFor w (message.Hello client incarnation version) = Unit {0}
IsAskedFor w (message.Request key call) = WasAsked w key call
IsAskedFor w (message.Cancel key) = (call : Call) × WasAsked w key call

-- each request that was sent, and each cancel, is of a key that was asked; what was asked was started
pub record IsAccountedFor (w : World) : Type 0 where
  pub messages : (m : Message) → Contains w.to_server m → IsAskedFor w m
  pub starts : (key : Key) (call : Call) → WasAsked w key call
      → Contains w.started (key.client, key.incarnation)

-- ---- together

pub record IsSoundWorld (w : World) : Type 0 where
  pub epochs_rise : EpochsRise w
  pub no_two_replies : NoTwoReplies w
  pub legal_accounts : LegalAccounts w
  pub processes : (client : ℕ) (process : Process) → process_of w client ≡ Some process
      → IsProcessOf w client process
  pub accounted : IsAccountedFor w
