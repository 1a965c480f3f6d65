-- For private clauses: how an entry changes what became of a request.
use Rattle.std.specs.Prelude.{Option, Some, None, option_and_then}
use Rattle.rv_text.specs.declared.message.Key.{Key}
use Rattle.rv_text.specs.declared.call.Call.{Call}
use Rattle.rv_text.specs.declared.answer.Reply.{Reply}
use Rattle.rv_account.specs.declared.entry.Act.{Act}
use Rattle.rv_account.specs.declared.entry.Act.TheVariants.{Arrive, Cancel, Hello, Tick}
use Rattle.rv_account.specs.rules.Replies.{told_by}
use Rattle.rv_account.specs.state.Moves.{told_again}
use Rattle.rv_account.specs.state.State.{ClientState, State, client_at}
use Rattle.rv_replies.specs.declared.changes.Change.{Change}
use Rattle.rv_replies.specs.declared.changes.Change.TheVariants.{Becomes, Cancels, Ends}
use Rattle.rv_replies.specs.declared.findings.fate.Fate.{Fate}
use Rattle.rv_replies.specs.declared.findings.fate.Fate.TheVariants.{CancelledUnseen, RepliedTo, Unnamed}
use Rattle.rv_replies.specs.declared.findings.fate.Fate.TheVariants.{Waits}

-- what became of a request that came with this call, and has this reply or waits
abbrev pub own_fate : Call → Option Reply → Fate
own_fate call None = Waits call
own_fate call (Some reply) = RepliedTo call reply

-- a request that waited gets this reply
abbrev pub ended : Reply → Fate → Fate
ended reply Unnamed = Unnamed
ended reply (Waits call) = RepliedTo call reply
ended reply (RepliedTo call other) = RepliedTo call other
ended reply CancelledUnseen = CancelledUnseen

-- the same, if there is a reply
abbrev pub ended_by : Option Reply → Fate → Fate
ended_by None fate = fate
ended_by (Some reply) fate = ended reply fate

-- a key that nothing named was cancelled
abbrev pub buried : Fate → Fate
buried Unnamed = CancelledUnseen
buried (Waits call) = Waits call
buried (RepliedTo call reply) = RepliedTo call reply
buried CancelledUnseen = CancelledUnseen

-- the result of a change
abbrev pub changed : Change → Fate → Fate
changed (Ends reply) fate = ended reply fate
changed Cancels fate = buried fate
changed (Becomes other) fate = other

-- the reply that the last request of a key's client gets again
abbrev pub told_last_by : State → Key → Option Reply
told_last_by s key = option_and_then (λ (c : ClientState). told_again c.request) (client_at s key.client)

-- the reply to a request that waited until an act, in the state after it: that of the act, or, if an arrival
-- met the request, the one that its session has
abbrev pub told_now : State → Act → Key → Option Reply
told_now s (Hello client incarnation version) key = Some (told_by (Hello client incarnation version))
told_now s (Arrive own call) key = told_last_by s key
told_now s (Cancel own) key = Some (told_by (Cancel own))
told_now s Tick key = Some (told_by Tick)
