-- A client's process in the network world: what it may do next, and what becomes of it when an answer comes.
use Rattle.std.specs.Prelude.{ℕ, ◌≡◌, ◌<◌, ◌+◌, Option, Some, None, if◌then◌else◌, nat_lt}
use Rattle.rv_text.specs.declared.version.Version.{Version}
use Rattle.rv_text.specs.declared.message.Key.{Key}
use Rattle.rv_text.specs.declared.message.Message.{Message}
use Rattle.rv_text.specs.declared.message.Message.TheVariants as messages
use Rattle.rv_text.specs.declared.call.Call.{Call}
use Rattle.rv_text.specs.declared.answer.Answer.{Answer}
use Rattle.rv_text.specs.declared.answer.Answer.TheVariants as answers
use Rattle.rv_text.specs.declared.answer.Refusal.{Refusal}
use Rattle.rv_text.specs.declared.answer.Refusal.TheVariants as refusals
use Rattle.rv_text.specs.declared.answer.Reply.{Reply}
use Rattle.rv_text.specs.Members.{max_identifier}

-- ---- a process

-- a client that started in an incarnation, and asks for a version
pub record Starting : Type 0 where
  pub client : ℕ
  pub incarnation : ℕ
  pub version : Version

-- a request that was begun
pub record Asking : Type 0 where
  pub key : Key
  pub call : Call

-- a process is new, or idle with the key that its next request will have, or outstanding with the request
-- that it has begun; where the greatest number was used up there is no next key
pub data Process : Type 0 where
  New : (starting : Starting) → Process
  Idle : (next : Option Key) → Process
  Outstanding : (asking : Asking) → Process

-- what a new process says
abbrev pub hello_of : Starting → Message
hello_of starting = messages.Hello starting.client starting.incarnation starting.version

-- what an outstanding one says: its request, or the cancel of it
abbrev pub request_of : Asking → Message
request_of asking = messages.Request asking.key asking.call

abbrev pub cancel_of : Asking → Message
cancel_of asking = messages.Cancel asking.key

-- the key of a client's first request in an epoch
abbrev pub first_key : Starting → ℕ → Key
first_key starting epoch = record {
  epoch = epoch;
  client = starting.client;
  incarnation = starting.incarnation;
  number = 1;
}

-- the key of the request after that of this key
abbrev pub key_after : Key → Option Key
key_after key =
    if nat_lt key.number max_identifier then Some (record key { number = key.number + 1 }) else None

-- ---- what an answer means to it

-- the client is welcome in its incarnation and with its version, in this epoch
abbrev pub Welcomes : Starting → Answer → ℕ → Type 0
Welcomes starting answer epoch =
    answer ≡ answers.Welcome epoch starting.client starting.incarnation starting.version

-- a reply to the request's own key
abbrev pub Settles : Key → Answer → Reply → Type 0
Settles key answer reply = answer ≡ answers.Replied key reply

-- the server has this epoch, which is above the key's
abbrev pub EndsEpoch : Key → Answer → ℕ → Type 0
EndsEpoch key answer current =
    (answer ≡ answers.Refused (refusals.OtherEpoch current)) × (key.epoch < current)

-- the client has this incarnation, which is above the key's
abbrev pub Replaces : Key → Answer → ℕ → Type 0
Replaces key answer current =
    (answer ≡ answers.Refused (refusals.OldIncarnation current)) × (key.incarnation < current)

-- neither a welcome of the client in its incarnation and with its version, nor a refusal
pub record PassesBy (starting : Starting) (answer : Answer) : Type 0 where
  pub no_welcome : (epoch : ℕ) → ¬ Welcomes starting answer epoch
  pub no_refusal : (refusal : Refusal) → ¬ (answer ≡ answers.Refused refusal)

-- nothing final about the request of a key
pub record SaysNothingFinal (key : Key) (answer : Answer) : Type 0 where
  pub no_reply : (reply : Reply) → ¬ Settles key answer reply
  pub no_epoch : (current : ℕ) → ¬ EndsEpoch key answer current
  pub no_incarnation : (current : ℕ) → ¬ Replaces key answer current

-- ---- what becomes of it

pub data Outcome : Type 0 where
  Welcomed : (next : Option Key) → Outcome
  TurnedAway : (starting : Starting) (refusal : Refusal) → Outcome
  Settled : (next : Option Key) (reply : Reply) → Outcome
  EpochEnded : (key : Key) (current : ℕ) → Outcome
  Replaced : (key : Key) (current : ℕ) → Outcome
  Ignored : (process : Process) → Outcome

-- the process to which the answer comes has this outcome: it is idle, at its first number, or at the next one
-- with this reply; or it is turned away, and new as before; or its request ended; otherwise the answer is
-- ignored
abbrev pub Hears : Process → Answer → Outcome → Type 0
Hears (New starting) answer (Welcomed next) =
    (epoch : ℕ) × Welcomes starting answer epoch × (next ≡ Some (first_key starting epoch))
Hears (New starting) answer (TurnedAway same refusal) =
    (answer ≡ answers.Refused refusal) × (same ≡ starting)
Hears (New starting) answer (Ignored same) = PassesBy starting answer × (same ≡ New starting)
Hears (Outstanding asking) answer (Settled next reply) =
    Settles asking.key answer reply × (next ≡ key_after asking.key)
Hears (Outstanding asking) answer (EpochEnded key current) =
    EndsEpoch asking.key answer current × (key ≡ asking.key)
Hears (Outstanding asking) answer (Replaced key current) =
    Replaces asking.key answer current × (key ≡ asking.key)
Hears (Outstanding asking) answer (Ignored same) =
    SaysNothingFinal asking.key answer × (same ≡ Outstanding asking)
Hears (Idle next) answer (Ignored same) = same ≡ Idle next
Hears _ answer _ = ⊥
