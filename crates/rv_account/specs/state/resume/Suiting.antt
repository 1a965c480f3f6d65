-- Which replies a call may get in a session of a version: by Java's calls, as `told_alone` and `told_with`
-- give them, whatever else there is.
use Rattle.std.specs.Prelude.{◌≡◌, ◌⊎◌, ◌≤◌, ℕ, zero, suc, List, length}
use Rattle.rv_text.specs.declared.answer.Reply.{Reply}
use Rattle.rv_text.specs.declared.answer.Reply.TheVariants as reply
use Rattle.rv_text.specs.declared.call.Call.{Call}
use Rattle.rv_text.specs.declared.call.Call.TheVariants as call
use Rattle.rv_text.specs.declared.call.Wait.{Wait}
use Rattle.rv_text.specs.declared.call.Wait.TheVariants.{Now, Millis, Forever}
use Rattle.rv_text.specs.declared.message.Key.{Key}
use Rattle.rv_text.specs.declared.version.Version.{Version}
use Rattle.rv_text.specs.declared.version.Version.TheVariants.{One, Two}

-- a transfer that was met may have this reply, by its session's version
abbrev pub TellsReceipt : Version → Reply → Type 0
TellsReceipt One told = told ≡ reply.Received
TellsReceipt Two told = (taker : Key) × (told ≡ reply.ReceivedBy taker)

-- a request that met nobody may have this reply, by its wait and by the reply that it gets at once
abbrev pub EndsUnmet : Wait → Reply → Reply → Type 0
EndsUnmet Now at_once told = told ≡ at_once
EndsUnmet (Millis zero) at_once told = told ≡ reply.TimedOut
EndsUnmet (Millis (suc n)) at_once told = (told ≡ reply.TimedOut) ⊎ (told ≡ reply.Cancelled)
EndsUnmet Forever at_once told = told ≡ reply.Cancelled

-- a request with this call may have this reply in a session of this version
abbrev pub SuitsCall : Version → Call → Reply → Type 0
SuitsCall version (call.Put queue item) told = told ≡ reply.Done
SuitsCall version (call.Transfer queue item wait) told =
    TellsReceipt version told ⊎ EndsUnmet wait reply.Nobody told
SuitsCall version (call.Take queue wait) told =
    ((item : List ℕ) × (told ≡ reply.Item item)) ⊎ EndsUnmet wait reply.Empty told
SuitsCall version (call.Swap exchanger item wait) told =
    ((other : List ℕ) × (told ≡ reply.Swapped other)) ⊎ EndsUnmet wait reply.TimedOut told
SuitsCall version (call.Count queue) told = (items consumers : ℕ) × (told ≡ reply.Counted items consumers)
SuitsCall version (call.Peek queue) told =
    ((item : List ℕ) × (told ≡ reply.Peeked item)) ⊎ (told ≡ reply.Empty)
SuitsCall version (call.Drain queue max) told =
    (items : List (List ℕ)) × (told ≡ reply.Drained items) × (length items ≤ max)
