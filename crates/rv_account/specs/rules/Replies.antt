-- The reply of a request, as an account has it: the first case that applies (Java SE 21, `TransferQueue`:
-- `put`, `transfer`, `tryTransfer`, `take` and `poll`; `BlockingQueue`: `drainTo`; `Exchanger`: `exchange`).
-- A count or a peek sees the account before it.
use Rattle.std.specs.Prelude.{◌≡◌, ◌⊎◌, ◌<◌, ℕ, zero, suc, List, Some, take}
use Rattle.rv_text.specs.declared.version.Version.TheVariants.{Two}
use Rattle.rv_text.specs.declared.message.Key.{Key}
use Rattle.rv_text.specs.declared.call.Wait.{Wait}
use Rattle.rv_text.specs.declared.call.Wait.TheVariants.{Now, Millis, Forever}
use Rattle.rv_text.specs.declared.call.Side.TheVariants.{Gives, Takes}
use Rattle.rv_text.specs.declared.call.Call.{Call}
use Rattle.rv_text.specs.declared.call.Call.TheVariants as call
use Rattle.rv_text.specs.declared.answer.Reply.{Reply}
use Rattle.rv_text.specs.declared.answer.Reply.TheVariants as reply
use Rattle.rv_account.specs.declared.entry.Entry.{Entry}
use Rattle.rv_account.specs.declared.entry.Act.{Act}
use Rattle.rv_account.specs.declared.entry.Act.TheVariants.{Hello, Arrive, Cancel, Tick}
use Rattle.rv_account.specs.Account.{act_at, call_at, key_at, partners_items}
use Rattle.rv_text.specs.Calls.{item_of}
use Rattle.rv_account.specs.rules.Counting.{NumberOf}
use Rattle.rv_account.specs.rules.Sessions.{AskedIn}
use Rattle.rv_account.specs.rules.Waiting.{NamesPartner, Met, StoppedAt, OpenAt, IsOldest}

-- the arrivals at r and at s are in one pair or swap
abbrev pub Meet : List Entry → ℕ → ℕ → Type 0
Meet entries r s = NamesPartner entries r s ⊎ NamesPartner entries s r

-- the arrival at r meets one that hands over this item
pub record GetsItem (entries : List Entry) (r : ℕ) (item : List ℕ) : Type 0 where
  pub giver : ℕ
  pub call : Call
  pub meet : Meet entries giver r
  pub arrived : call_at entries giver ≡ Some call
  pub hands_over : item_of call ≡ Some item

-- the arrival at r meets the request with this key
pub record MeetsKey (entries : List Entry) (r : ℕ) (key : Key) : Type 0 where
  pub place : ℕ
  pub meet : Meet entries r place
  pub named : key_at entries place ≡ Some key

-- the reply of the transfer at r, which was met: in a session of version 2 the key of its consumer, else that
-- its item was received
abbrev pub RepliesMet : List Entry → ℕ → Reply → Type 0
RepliesMet entries r told =
    (AskedIn entries r Two × (taker : Key) × MeetsKey entries r taker × (told ≡ reply.ReceivedBy taker))
    ⊎ ((¬ AskedIn entries r Two) × (told ≡ reply.Received))

-- the first entry that stops the request that arrived at r is the one at s
pub record FirstStop (entries : List Entry) (r s : ℕ) : Type 0 where
  pub stops : StoppedAt entries r s
  pub first : (earlier : ℕ) → earlier < s → ¬ StoppedAt entries r earlier

-- the reply of a request that such an act stopped
abbrev pub told_by : Act → Reply
told_by (Hello client incarnation version) = reply.Cancelled
told_by (Arrive key call) = reply.Cancelled
told_by (Cancel key) = reply.Cancelled
told_by Tick = reply.TimedOut

-- the request that arrived at r was stopped, and its reply follows from what stopped it first
pub record ToldStopped (entries : List Entry) (r : ℕ) (told : Reply) : Type 0 where
  pub place : ℕ
  pub stop : FirstStop entries r place
  pub is : told ≡ told_by stop.stops.stopper.act

-- the reply of the unmet request that arrived at r, by its wait: at once this one, or that its time is over;
-- or, once it was stopped, the reply that follows from what stopped it
abbrev pub RepliesUnmet : List Entry → ℕ → Wait → Reply → Reply → Type 0
RepliesUnmet entries r Now at_once told = told ≡ at_once
RepliesUnmet entries r (Millis zero) at_once told = told ≡ reply.TimedOut
RepliesUnmet entries r (Millis (suc n)) at_once told = ToldStopped entries r told
RepliesUnmet entries r Forever at_once told = ToldStopped entries r told

-- so many items and so many consumers of the queue are open
pub record Counts (entries : List Entry) (queue items consumers : ℕ) : Type 0 where
  pub items_are : NumberOf (OpenAt entries (Gives queue)) items
  pub consumers_are : NumberOf (OpenAt entries (Takes queue)) consumers

-- the queue's oldest open item
pub record IsFrontItem (entries : List Entry) (queue : ℕ) (item : List ℕ) : Type 0 where
  pub place : ℕ
  pub oldest : IsOldest entries (Gives queue) place
  pub hands_over : item_of oldest.there.of_side.call ≡ Some item

-- no item of the queue is open
abbrev pub HasNoItem : List Entry → ℕ → Type 0
HasNoItem entries queue = (r : ℕ) → ¬ OpenAt entries (Gives queue) r

-- the drain at r takes these items: what its partners hand over, in the order of their places
abbrev pub Drains : List Entry → ℕ → List (List ℕ) → Type 0
Drains entries r items = partners_items entries r ≡ Some items

-- the reply of the request with this call that arrived at r
abbrev pub RepliesAt : List Entry → ℕ → Call → Reply → Type 0
RepliesAt entries r (call.Put queue item) told = told ≡ reply.Done
RepliesAt entries r (call.Transfer queue item wait) told =
    (Met entries r × RepliesMet entries r told)
    ⊎ ((¬ Met entries r) × RepliesUnmet entries r wait reply.Nobody told)
RepliesAt entries r (call.Take queue wait) told =
    ((item : List ℕ) × GetsItem entries r item × (told ≡ reply.Item item))
    ⊎ ((¬ Met entries r) × RepliesUnmet entries r wait reply.Empty told)
RepliesAt entries r (call.Swap exchanger item wait) told =
    ((other : List ℕ) × GetsItem entries r other × (told ≡ reply.Swapped other))
    ⊎ ((¬ Met entries r) × RepliesUnmet entries r wait reply.TimedOut told)
RepliesAt entries r (call.Count queue) told = (items consumers : ℕ)
    × Counts (take r entries) queue items consumers × (told ≡ reply.Counted items consumers)
RepliesAt entries r (call.Peek queue) told =
    ((item : List ℕ) × IsFrontItem (take r entries) queue item × (told ≡ reply.Peeked item))
    ⊎ (HasNoItem (take r entries) queue × (told ≡ reply.Empty))
RepliesAt entries r (call.Drain queue max) told =
    (items : List (List ℕ)) × Drains entries r items × (told ≡ reply.Drained items)

-- the request with this key arrived, and it has this reply
pub record RepliesToArrival (entries : List Entry) (key : Key) (reply : Reply) : Type 0 where
  pub place : ℕ
  pub call : Call
  pub arrived : act_at entries place ≡ Some (Arrive key call)
  pub replies : RepliesAt entries place call reply

-- the request with this key was cancelled, and never arrived
pub record CancelledFirst (entries : List Entry) (key : Key) : Type 0 where
  pub place : ℕ
  pub cancelled : act_at entries place ≡ Some (Cancel key)
  pub not_arrived : (r : ℕ) (call : Call) → act_at entries r ≡ Some (Arrive key call) → ⊥

-- the reply of the request with this key: that of its arrival; or, where it was cancelled before it came,
-- that it was cancelled
abbrev pub HasReply : List Entry → Key → Reply → Type 0
HasReply entries key told =
    RepliesToArrival entries key told ⊎ (CancelledFirst entries key × (told ≡ reply.Cancelled))
