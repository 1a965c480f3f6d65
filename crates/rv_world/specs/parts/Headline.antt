-- The headline: what holds of the world after every list of events, and between it and every later world; and
-- what holds likewise after whatever happens.
use Rattle.std.specs.Prelude.{◌≡◌, ◌⊎◌, ◌++◌, ℕ, List, Some, length, slice_get}
use Rattle.std.specs.List.{Contains}
use Rattle.std.specs.List.Sorted.{IsStrictlyIncreasing}
use Rattle.rv_text.specs.declared.message.Key.{Key}
use Rattle.rv_text.specs.declared.call.Call.{Call}
use Rattle.rv_text.specs.declared.call.Side.TheVariants.{Exchanges}
use Rattle.rv_text.specs.Calls.{item_of}
use Rattle.rv_text.specs.declared.answer.Answer.TheVariants as answers
use Rattle.rv_text.specs.declared.answer.Reply.{Reply}
use Rattle.rv_text.specs.declared.answer.Reply.TheVariants as reply
use Rattle.rv_account.specs.declared.entry.Entry.{Entry}
use Rattle.rv_account.specs.declared.entry.Act.TheVariants.{Arrive}
use Rattle.rv_account.specs.Account.{Account, Among, Extends, act_at, partners_at}
use Rattle.rv_book.specs.Legal.{Legal}
use Rattle.rv_book.specs.Order.{InOrder, PairAt}
use Rattle.rv_book.specs.Replies.{HasReply, Meet}
use Rattle.rv_book.specs.Waiting.{Met, SideAt}
use Rattle.rv_world.specs.declared.parts.event.Event.{Event}
use Rattle.rv_world.specs.parts.World.{World, accounts, IsAccountOf, WasAsked, IsHeld}
use Rattle.rv_world.specs.parts.Runs.{Happening, Runs, RunsAnyhow}

-- some answer that was ever sent is this reply to the request with this key
abbrev pub IsAnswered : World → Key → Reply → Type 0
IsAnswered w key told =
    (client : ℕ) × Contains w.to_client (record { client = client; answer = answers.Replied key told })

-- the request with this key arrived at a place, with a call
abbrev pub ArrivesAt : List Entry → Key → ℕ → Call → Type 0
ArrivesAt entries key r call = act_at entries r ≡ Some (Arrive key call)

-- ---- 1: no two replies

-- each key is in the list at most once
abbrev pub HasEachKeyOnce : {X : Type 0} → List (Key × X) → Type 0
HasEachKeyOnce {X} list = (i j : ℕ) (key : Key) (one other : X) → slice_get list i ≡ Some (key, one)
    → slice_get list j ≡ Some (key, other) → i ≡ j

-- the reply is the one to the request with this key, in the account of the key's epoch
pub record IsReplyOf (w : World) (key : Key) (told : Reply) : Type 0 where
  pub account : Account
  pub is_of : IsAccountOf w key.epoch account
  pub has : HasReply account.entries key told

-- no key was asked twice, nor with two calls, and none is held twice; what is held was answered; what is
-- answered was asked, and is the reply in the account; no key is answered with two different replies
pub record NoTwoReplies (w : World) : Type 0 where
  pub asked_once : HasEachKeyOnce w.asked
  pub held_once : HasEachKeyOnce w.held
  pub held_answered : (key : Key) (told : Reply) → IsHeld w key told → IsAnswered w key told
  pub answered_asked : (key : Key) (told : Reply) → IsAnswered w key told
      → (call : Call) × WasAsked w key call
  pub answered_is : (key : Key) (told : Reply) → IsAnswered w key told → IsReplyOf w key told
  pub one_reply : (key : Key) (one other : Reply) → IsAnswered w key one → IsAnswered w key other
      → one ≡ other

-- ---- 2: legal accounts

-- each epoch has one account; each account is legal; and each arrival's key and call were asked
pub record LegalAccounts (w : World) : Type 0 where
  pub one_each : (a b : Account) → Contains (accounts w) a → Contains (accounts w) b → a.epoch ≡ b.epoch
      → a ≡ b
  pub legal : (a : Account) → Contains (accounts w) a → Legal a
  pub arrivals_asked : (a : Account) (r : ℕ) (key : Key) (call : Call) → Contains (accounts w) a
      → ArrivesAt a.entries key r call → WasAsked w key call

-- ---- 3: received means assigned

-- the giver at g and the taker at t of a queue are a pair
abbrev pub IsPair : List Entry → ℕ → ℕ → Type 0
IsPair entries g t = (queue p : ℕ) × PairAt entries queue p g t

-- the drain with this key, at t, gets a list in which the item is at the place that g has among the drain's
-- partners
pub record IsToldAmong (entries : List Entry) (key : Key) (g t : ℕ) (item : List ℕ) : Type 0 where
  pub partners : List ℕ
  pub named : partners_at entries t ≡ Some partners
  pub items : List (List ℕ)
  pub told : HasReply entries key (reply.Drained items)
  pub place : ℕ
  pub giver_there : slice_get partners place ≡ Some g
  pub item_there : slice_get items place ≡ Some item

-- the taker with this key, at t, gets the item of the giver at g: alone, or in the giver's place of a list
abbrev pub IsToldItem : List Entry → Key → ℕ → ℕ → List ℕ → Type 0
IsToldItem entries key g t item = HasReply entries key (reply.Item item) ⊎ IsToldAmong entries key g t item

-- the reply is that an item was received: in version 1 without a name, in version 2 with a consumer's
abbrev pub IsReceipt : Reply → Type 0
IsReceipt reply.Received = Unit {0}
IsReceipt (reply.ReceivedBy taker) = Unit {0}
IsReceipt _ = ⊥

-- this is the consumer that the reply names, if it names one
abbrev pub NamesTaker : Reply → Key → Type 0
NamesTaker (reply.ReceivedBy named) taker = named ≡ taker
NamesTaker _ taker = Unit {0}

-- in the account of the key's epoch, exactly one pair has the arrival with this key as its giver. Its taker,
-- which the reply names if it names one, gets the item that was asked with the key, or a list with that item
-- in its place
pub record IsAssigned (w : World) (key : Key) (told : Reply) : Type 0 where
  pub account : Account
  pub is_of : IsAccountOf w key.epoch account
  pub giver : ℕ
  pub taker : ℕ
  pub pair : IsPair account.entries giver taker
  pub call : Call
  pub arrived : ArrivesAt account.entries key giver call
  pub asked : WasAsked w key call
  pub item : List ℕ
  pub hands_over : item_of call ≡ Some item
  pub taker_key : Key
  pub taker_call : Call
  pub taker_arrived : ArrivesAt account.entries taker_key taker taker_call
  pub named : NamesTaker told taker_key
  pub taker_told : IsToldItem account.entries taker_key giver taker item
  pub only : (g t : ℕ) (other : Call) → IsPair account.entries g t → ArrivesAt account.entries key g other
      → (g ≡ giver) × (t ≡ taker)

-- exactly one pair has the arrival with this key as its taker, and the item is its giver's
pub record IsGiven (w : World) (key : Key) (item : List ℕ) : Type 0 where
  pub account : Account
  pub is_of : IsAccountOf w key.epoch account
  pub giver : ℕ
  pub taker : ℕ
  pub pair : IsPair account.entries giver taker
  pub call : Call
  pub arrived : ArrivesAt account.entries key taker call
  pub giver_key : Key
  pub giver_call : Call
  pub giver_arrived : ArrivesAt account.entries giver_key giver giver_call
  pub hands_over : item_of giver_call ≡ Some item
  pub only : (g t : ℕ) (other : Call) → IsPair account.entries g t → ArrivesAt account.entries key t other
      → (g ≡ giver) × (t ≡ taker)

-- the giver at g is at a place of the list, and hands over the item there
pub record HandsOverAt (entries : List Entry) (items : List (List ℕ)) (place g : ℕ) : Type 0 where
  pub key : Key
  pub call : Call
  pub arrived : ArrivesAt entries key g call
  pub item : List ℕ
  pub hands_over : item_of call ≡ Some item
  pub there : slice_get items place ≡ Some item

-- the givers of the pairs that have the arrival with this key as their taker, in the order of their arrival,
-- are as many as the items, and each hands over the item in its place
pub record IsDrained (w : World) (key : Key) (items : List (List ℕ)) : Type 0 where
  pub account : Account
  pub is_of : IsAccountOf w key.epoch account
  pub taker : ℕ
  pub call : Call
  pub arrived : ArrivesAt account.entries key taker call
  pub givers : List ℕ
  pub rising : IsStrictlyIncreasing givers
  pub as_many : length givers ≡ length items
  pub pairs : (g : ℕ) → Among givers g → IsPair account.entries g taker
  pub hands_over : (place g : ℕ) → slice_get givers place ≡ Some g
      → HandsOverAt account.entries items place g
  pub only : (g t : ℕ) (other : Call) → IsPair account.entries g t → ArrivesAt account.entries key t other
      → Among givers g × (t ≡ taker)

-- a request that is answered received was assigned to one taker, which the answer names if it names one; a
-- request that is answered with an item has one giver, and one that is answered drained has one giver for
-- each item
pub record ReceivedMeansAssigned (w : World) : Type 0 where
  pub received : (key : Key) (told : Reply) → IsAnswered w key told → IsReceipt told → IsAssigned w key told
  pub items : (key : Key) (item : List ℕ) → IsAnswered w key (reply.Item item) → IsGiven w key item
  pub drained : (key : Key) (items : List (List ℕ)) → IsAnswered w key (reply.Drained items)
      → IsDrained w key items

-- ---- 4: never handed over after a no

-- the replies of a request that met nobody
abbrev pub IsNo : Reply → Type 0
IsNo told =
    (told ≡ reply.Cancelled) ⊎ ((told ≡ reply.TimedOut) ⊎ ((told ≡ reply.Nobody) ⊎ (told ≡ reply.Empty)))

-- no pair and no swap of the world has the arrival with this key
abbrev pub MeetsNobody : World → Key → Type 0
MeetsNobody w key = (a : Account) (r : ℕ) (call : Call) → Contains (accounts w) a
    → ArrivesAt a.entries key r call → ¬ Met a.entries r

-- a request that is answered with a no meets nobody, in this world and after any further events
abbrev pub NeverHandedOver : World → Type 0
NeverHandedOver w = (key : Key) (told : Reply) (events : List Event) (v : World) → IsAnswered w key told
    → IsNo told → Runs w events v → MeetsNobody v key

-- ---- 5: order of arrival

-- items leave each queue of each account in the order of their arrival
abbrev pub OrderOfArrival : World → Type 0
OrderOfArrival w = (a : Account) → Contains (accounts w) a → InOrder a.entries

-- ---- 6: true exchange

-- the arrivals at r and s are a swap of an exchanger
abbrev pub IsSwap : List Entry → ℕ → ℕ → Type 0
IsSwap entries r s = (exchanger : ℕ) × SideAt entries (Exchanges exchanger) r
    × SideAt entries (Exchanges exchanger) s × Meet entries r s

-- in the account of the key's epoch, exactly one swap has the arrival with this key. The other was asked with
-- the item, and its reply is the item that was asked with this key
pub record IsExchanged (w : World) (key : Key) (item : List ℕ) : Type 0 where
  pub account : Account
  pub is_of : IsAccountOf w key.epoch account
  pub own : ℕ
  pub other : ℕ
  pub swap : IsSwap account.entries own other
  pub call : Call
  pub arrived : ArrivesAt account.entries key own call
  pub asked : WasAsked w key call
  pub own_item : List ℕ
  pub hands_over : item_of call ≡ Some own_item
  pub other_key : Key
  pub other_call : Call
  pub other_arrived : ArrivesAt account.entries other_key other other_call
  pub other_asked : WasAsked w other_key other_call
  pub other_hands_over : item_of other_call ≡ Some item
  pub other_told : HasReply account.entries other_key (reply.Swapped own_item)
  pub only : (r s : ℕ) (same : Call) → IsSwap account.entries r s → ArrivesAt account.entries key r same
      → (r ≡ own) × (s ≡ other)

-- a request that is answered swapped got the item of its one partner, which got its own
abbrev pub TrueExchange : World → Type 0
TrueExchange w = (key : Key) (item : List ℕ) → IsAnswered w key (reply.Swapped item) → IsExchanged w key item

-- ---- 7: only growth

-- the second list goes on where the first ends
pub record GoesOn {X : Type 0} (before after : List X) : Type 0 where
  pub more : List X
  pub is : after ≡ before ++ more

-- the world has an account that extends this one
pub record IsExtended (w : World) (a : Account) : Type 0 where
  pub account : Account
  pub is_there : Contains (accounts w) account
  pub extends : Extends a account

-- what was asked and held, the answers and each account are extended
pub record OnlyGrows (w v : World) : Type 0 where
  pub asked : GoesOn w.asked v.asked
  pub held : GoesOn w.held v.held
  pub answers : GoesOn w.to_client v.to_client
  pub accounts_extended : (a : Account) → Contains (accounts w) a → IsExtended v a

-- ---- the parts together

pub record Headline (w : World) : Type 0 where
  pub no_two_replies : NoTwoReplies w
  pub legal_accounts : LegalAccounts w
  pub received_means_assigned : ReceivedMeansAssigned w
  pub never_handed_over : NeverHandedOver w
  pub order_of_arrival : OrderOfArrival w
  pub true_exchange : TrueExchange w
  pub only_growth : (events : List Event) (v : World) → Runs w events v → OnlyGrows w v

-- ---- whatever happens

-- a request that is answered with a no meets nobody, in this world and after whatever else happens
abbrev pub NeverHandedOverAnyhow : World → Type 0
NeverHandedOverAnyhow w = (key : Key) (told : Reply) (happenings : List Happening) (v : World)
    → IsAnswered w key told → IsNo told → RunsAnyhow w happenings v → MeetsNobody v key

-- the parts together, if further steps may be made under any limits and time may pass
pub record HeadlineAnyhow (w : World) : Type 0 where
  pub no_two_replies : NoTwoReplies w
  pub legal_accounts : LegalAccounts w
  pub received_means_assigned : ReceivedMeansAssigned w
  pub never_handed_over : NeverHandedOverAnyhow w
  pub order_of_arrival : OrderOfArrival w
  pub true_exchange : TrueExchange w
  pub only_growth : (happenings : List Happening) (v : World) → RunsAnyhow w happenings v → OnlyGrows w v
