-- Which requests an entry settles, over accounts: those that waited before it and wait no more, with their
-- replies, in order.
use Rattle.std.specs.Prelude.{◌≡◌, ◌⊎◌, ◌<◌, ◌∷◌, [], ◌++◌, ℕ, List, Option, Some, None, slice_get}
use Rattle.rv_text.specs.declared.message.Key.{Key}
use Rattle.rv_text.specs.declared.call.Call.{Call}
use Rattle.rv_text.specs.declared.answer.Reply.{Reply}
use Rattle.rv_account.specs.declared.entry.Entry.{Entry}
use Rattle.rv_account.specs.declared.entry.Act.{Act}
use Rattle.rv_account.specs.declared.entry.Act.TheVariants.{Hello, Arrive, Cancel, Tick}
use Rattle.rv_account.specs.Account.{limit_at}
use Rattle.rv_account.specs.rules.Legal.{WaitsUnder}
use Rattle.rv_account.specs.rules.Replies.{HasReply, RepliesAt}
use Rattle.rv_account.specs.rules.Waiting.{Waiting}
use Rattle.rv_account.specs.state.After.{Settled}
use Rattle.rv_account.specs.state.Agreement.{WaitsThere}

-- the request with this key waited, waits no more, and has this reply
pub record WasSettled (before after : List Entry) (settled : Settled) : Type 0 where
  pub place : ℕ
  pub call : Call
  pub waited : WaitsThere before settled.key place call
  pub ended : ¬ Waiting after place
  pub replies : RepliesAt after place call settled.reply

-- the key is one of those that are settled
pub record HasSettled (settles : List Settled) (key : Key) : Type 0 where
  pub i : ℕ
  pub settled : Settled
  pub there : slice_get settles i ≡ Some settled
  pub key_is : settled.key ≡ key

-- the request that waits at the first place has the lower limit, or the same one and the lower place
pub record HasSoonerLimit (entries : List Entry) (p q : ℕ) : Type 0 where
  pub limit : ℕ
  pub other : ℕ
  pub has : limit_at entries p ≡ Some limit
  pub has_other : limit_at entries q ≡ Some other
  pub sooner : (limit < other) ⊎ ((limit ≡ other) × (p < q))

-- what waits at the first place is settled before what waits at the other: by a tick by limit and then place,
-- by any other act by place
abbrev pub SettlesBefore : List Entry → Act → ℕ → ℕ → Type 0
SettlesBefore entries (Hello client incarnation version) p q = p < q
SettlesBefore entries (Arrive key call) p q = p < q
SettlesBefore entries (Cancel key) p q = p < q
SettlesBefore entries Tick p q = HasSoonerLimit entries p q

-- these, and no others, are settled by an entry, in this order
pub record SettlesAt (entries : List Entry) (e : Entry) (settles : List Settled) : Type 0 where
  pub are : (i : ℕ) (settled : Settled) → slice_get settles i ≡ Some settled
      → WasSettled entries (entries ++ e ∷ []) settled
  pub each : (place : ℕ) (key : Key) (call : Call) → WaitsThere entries key place call
      → ¬ Waiting (entries ++ e ∷ []) place → HasSettled settles key
  pub in_order : (i j p q : ℕ) (one other : Settled) (call called : Call) → i < j
      → slice_get settles i ≡ Some one → slice_get settles j ≡ Some other
      → WaitsThere entries one.key p call → WaitsThere entries other.key q called
      → SettlesBefore entries e.act p q

-- these are settled by some entries, one after the other; each comes after the given ones and after those
-- before it
abbrev pub SettlesEach : List Entry → List Entry → List Settled → Type 0
SettlesEach before [] settles = settles ≡ []
SettlesEach before (e ∷ more) settles =
    (first : List Settled) × (rest : List Settled) × SettlesAt before e first
    × SettlesEach (before ++ e ∷ []) more rest
    × (settles ≡ first ++ rest)

-- the request with an entry's own key has this reply, or waits
abbrev pub ToldOwn : List Entry → Key → Option Reply → Type 0
ToldOwn entries key None = WaitsUnder entries key
ToldOwn entries key (Some reply) = HasReply entries key reply
