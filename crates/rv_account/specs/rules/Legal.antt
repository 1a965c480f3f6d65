-- Which entry may follow which entries, and so which accounts are legal.
use Rattle.std.specs.Prelude.{◌≡◌, ◌⊎◌, ◌<◌, ◌≤◌, ◌+◌, ℕ, List, length, take, Some, slice_get}
use Rattle.std.specs.List.Sorted.{IsStrictlyIncreasing}
use Rattle.rv_text.specs.declared.version.Version.{Version}
use Rattle.rv_text.specs.declared.message.Key.{Key}
use Rattle.rv_text.specs.declared.call.Call.{Call}
use Rattle.rv_text.specs.declared.call.Side.{Side}
use Rattle.rv_text.specs.Calls.{side_of}
use Rattle.rv_account.specs.declared.entry.Entry.{Entry}
use Rattle.rv_account.specs.declared.entry.Act.{Act}
use Rattle.rv_account.specs.declared.entry.Act.TheVariants.{Hello, Arrive, Cancel, Tick}
use Rattle.rv_account.specs.Account.{Account, Names, act_at, moment_at, call_in, key_in}
use Rattle.rv_account.specs.Calls.{MayMeet, may_name, opposite}
use Rattle.rv_account.specs.rules.Sessions.{HasIncarnation, HasOnlyLower, LastNumber, NamesKey}
use Rattle.rv_account.specs.rules.Waiting.{limit_at, Met, SideAt, OpenAt, Waiting}

-- ---- moments

-- no moment is less than an earlier one, nor than the opening moment
pub record KeepsTime (a : Account) (moment : ℕ) : Type 0 where
  pub opened : a.opened ≤ moment
  pub since : (r earlier : ℕ) → moment_at a.entries r ≡ Some earlier → earlier ≤ moment

-- the request that arrived at r waits, and has a limit at or before the moment
pub record IsDueAt (entries : List Entry) (moment r : ℕ) : Type 0 where
  pub waits : Waiting entries r
  pub limit : ℕ
  pub has : limit_at entries r ≡ Some limit
  pub elapsed : limit ≤ moment

-- no waiting request has a limit at or before the moment
abbrev pub NothingDue : List Entry → ℕ → Type 0
NothingDue entries moment = (r : ℕ) → ¬ IsDueAt entries moment r

-- some waiting request has one
abbrev pub SomethingDue : List Entry → ℕ → Type 0
SomethingDue entries moment = (r : ℕ) × IsDueAt entries moment r

-- at a tick something is due, and at any other act nothing is
abbrev pub KeepsLimits : List Entry → ℕ → Act → Type 0
KeepsLimits entries moment (Hello client incarnation version) = NothingDue entries moment
KeepsLimits entries moment (Arrive key call) = NothingDue entries moment
KeepsLimits entries moment (Cancel key) = NothingDue entries moment
KeepsLimits entries moment Tick = SomethingDue entries moment

-- the rules of moments that an entry of this moment and act keeps
pub record KeepsMoments (a : Account) (moment : ℕ) (does : Act) : Type 0 where
  pub keeps_time : KeepsTime a moment
  pub keeps_limits : KeepsLimits a.entries moment does

-- ---- numbers

-- each hello of a client has a greater incarnation than every one before it
abbrev pub RaisesIncarnation : List Entry → Act → Type 0
RaisesIncarnation entries does = (client incarnation : ℕ) (version : Version)
    → does ≡ Hello client incarnation version
    → HasOnlyLower entries client incarnation

-- the key that an act names has the account's epoch and its client's incarnation
abbrev pub IsOfSession : Account → Act → Type 0
IsOfSession a does = (key : Key) → key_in does ≡ Some key
    → (key.epoch ≡ a.epoch) × HasIncarnation a.entries key.client key.incarnation

-- a request of the client waits
pub record HasWaiting (entries : List Entry) (client : ℕ) : Type 0 where
  pub place : ℕ
  pub key : Key
  pub waits : Waiting entries place
  pub names : NamesKey entries client place key

-- an arrival has its session's next number, and nothing of that session waits
pub record IsNextNumber (entries : List Entry) (key : Key) : Type 0 where
  pub last : ℕ
  pub is_last : LastNumber entries key.client last
  pub next : key.number ≡ last + 1
  pub idle : ¬ HasWaiting entries key.client

abbrev pub CountsUp : List Entry → Act → Type 0
CountsUp entries does = (key : Key) (call : Call) → does ≡ Arrive key call → IsNextNumber entries key

-- the request with this key arrived, and it waits
pub record WaitsUnder (entries : List Entry) (key : Key) : Type 0 where
  pub place : ℕ
  pub call : Call
  pub arrived : act_at entries place ≡ Some (Arrive key call)
  pub waits : Waiting entries place

-- a cancel names the request that waits in its session, or, with nothing waiting there, the session's next
-- number
abbrev pub CancelsInTurn : List Entry → Act → Type 0
CancelsInTurn entries does = (key : Key) → does ≡ Cancel key
    → WaitsUnder entries key ⊎ IsNextNumber entries key

-- the rules of numbers that an entry of this act keeps
pub record KeepsNumbers (a : Account) (does : Act) : Type 0 where
  pub raises_incarnation : RaisesIncarnation a.entries does
  pub of_session : IsOfSession a does
  pub counts_up : CountsUp a.entries does
  pub cancels : CancelsInTurn a.entries does

-- ---- pairs and swaps
--
-- A pair joins one that gives and one that takes (Java SE 21, `TransferQueue`; Scherer, Lea and Scott's fair
-- dual queue, PPoPP 2006). A swap joins two that exchange at one exchanger (Java SE 21, `Exchanger`): each is
-- what the other meets there, so the earlier one is open when the later one comes, and no two wait at one
-- exchanger.

-- only a call that may meet names a partner: an earlier place that is in no pair or swap yet
pub record IsFreePartner (entries : List Entry) (e : Entry) (p : ℕ) : Type 0 where
  pub call : Call
  pub arrives : call_in e.act ≡ Some call
  pub meets : MayMeet call
  pub earlier : p < length entries
  pub unmet : ¬ Met entries p

-- the partners that an entry names rise, and are no more than its call may name; each is free
pub record NamesFreePartners (entries : List Entry) (e : Entry) : Type 0 where
  pub rising : IsStrictlyIncreasing e.partners
  pub few : (call : Call) → call_in e.act ≡ Some call → length e.partners ≤ may_name call
  pub free : (p : ℕ) → Names e p → IsFreePartner entries e p

-- at p stands an open arrival of the other side of the call's queue, or one at its exchanger
pub record IsOpenOpposite (entries : List Entry) (call : Call) (p : ℕ) : Type 0 where
  pub side : Side
  pub opposes : opposite (side_of call) ≡ Some side
  pub there : OpenAt entries side p

-- each partner of a call is open, and stands on the other side of its queue, or at its exchanger
abbrev pub PairsOpposites : List Entry → Entry → Type 0
PairsOpposites entries e = (p : ℕ) (call : Call) → Names e p → call_in e.act ≡ Some call
    → MayMeet call → IsOpenOpposite entries call p

-- an open arrival of a partner's side that stands before that partner is a partner too
abbrev pub PairsOldest : List Entry → Entry → Type 0
PairsOldest entries e = (p r : ℕ) (side : Side) → Names e p → SideAt entries side p → r < p
    → OpenAt entries side r → Names e r

-- an arrival with fewer partners than it may name names all open arrivals of the other side of its queue, or
-- at its exchanger
abbrev pub PairsWherePossible : List Entry → Entry → Type 0
PairsWherePossible entries e = (r : ℕ) (call : Call) → call_in e.act ≡ Some call
    → length e.partners < may_name call → IsOpenOpposite entries call r → Names e r

-- the rules of pairs and swaps that an entry keeps
pub record KeepsPairs (entries : List Entry) (e : Entry) : Type 0 where
  pub names_free_partners : NamesFreePartners entries e
  pub pairs_opposites : PairsOpposites entries e
  pub pairs_oldest : PairsOldest entries e
  pub pairs_where_possible : PairsWherePossible entries e

-- ---- legal accounts

-- the entry may follow those of the account
pub record MayFollow (a : Account) (e : Entry) : Type 0 where
  pub moments : KeepsMoments a e.moment e.act
  pub numbers : KeepsNumbers a e.act
  pub pairs : KeepsPairs a.entries e

-- the account with its entries before the place alone
abbrev pub before : Account → ℕ → Account
before a j = record { epoch = a.epoch; opened = a.opened; entries = take j a.entries }

-- each entry may follow those before it
abbrev pub Legal : Account → Type 0
Legal a = (j : ℕ) (e : Entry) → slice_get a.entries j ≡ Some e → MayFollow (before a j) e
