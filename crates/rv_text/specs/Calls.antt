-- What a call is: its word, its side, its wait, how many items it drains, and its item. Everything else about
-- a call is said in terms of these.
use Rattle.std.specs.Prelude.{ℕ, List, codes, Option, Some, None}
use Rattle.rv_text.specs.declared.call.Wait.{Wait}
use Rattle.rv_text.specs.declared.call.Wait.TheVariants as wait
use Rattle.rv_text.specs.declared.call.Side.{Side}
use Rattle.rv_text.specs.declared.call.Side.TheVariants as side
use Rattle.rv_text.specs.declared.call.Call.{Call}
use Rattle.rv_text.specs.declared.call.Call.TheVariants as call

pub record Nature : Type 0 where
  -- the word that names it in a body
  pub word : List ℕ
  -- the queue or exchanger at which it acts, and its side of it
  pub side : Side
  -- how long it may wait: none for a put, a count and a peek, and now for a drain
  pub wait : Option Wait
  -- how many items it takes at most in one step; none if it meets one partner at most
  pub drains : Option ℕ
  -- what it hands over
  pub item : Option (List ℕ)

abbrev pub nature_of : Call → Nature
nature_of (call.Put queue item) =
    record {
      word = codes "put";
      side = side.Gives queue;
      wait = None;
      drains = None;
      item = Some item;
    }
nature_of (call.Transfer queue item wait) =
    record {
      word = codes "transfer";
      side = side.Gives queue;
      wait = Some wait;
      drains = None;
      item = Some item;
    }
nature_of (call.Take queue wait) =
    record {
      word = codes "take";
      side = side.Takes queue;
      wait = Some wait;
      drains = None;
      item = None;
    }
nature_of (call.Swap exchanger item wait) =
    record {
      word = codes "swap";
      side = side.Exchanges exchanger;
      wait = Some wait;
      drains = None;
      item = Some item;
    }
nature_of (call.Count queue) =
    record {
      word = codes "count";
      side = side.Looks queue;
      wait = None;
      drains = None;
      item = None;
    }
nature_of (call.Peek queue) =
    record {
      word = codes "peek";
      side = side.Looks queue;
      wait = None;
      drains = None;
      item = None;
    }
nature_of (call.Drain queue max) =
    record {
      word = codes "drain";
      side = side.Takes queue;
      wait = Some wait.Now;
      drains = Some max;
      item = None;
    }

abbrev pub side_of : Call → Side
side_of call = (nature_of call).side

abbrev pub wait_of : Call → Option Wait
wait_of call = (nature_of call).wait

-- which waits a side may have: a call that exchanges waits at least 0 milliseconds
abbrev pub MayWait : Side → Option Wait → Type 0
MayWait (side.Exchanges exchanger) (Some wait.Now) = ⊥
MayWait _ _ = Unit {0}

-- how many items a drain takes at most
abbrev pub drains_of : Call → Option ℕ
drains_of call = (nature_of call).drains

abbrev pub item_of : Call → Option (List ℕ)
item_of call = (nature_of call).item
