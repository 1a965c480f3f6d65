-- The pieces in which a command waits.
use Rattle.std.specs.Prelude.{ℕ, ◌-◌, if◌then◌else◌, nat_lt, None, Option, Some}
use Rattle.rv_text.specs.declared.call.Call.{Call}
use Rattle.rv_text.specs.declared.call.Call.TheVariants as call
use Rattle.rv_text.specs.declared.call.Wait.{Wait}
use Rattle.rv_text.specs.declared.call.Wait.TheVariants.{Forever, Millis, Now}

-- the first piece of a wait, with so many milliseconds at most, and what is left after it: all pieces
-- together are the wait
abbrev pub pieces_of : Wait → ℕ → Wait × Option Wait
pieces_of Now most = (Now, None)
pieces_of (Millis n) most = if nat_lt most n then (Millis most, Some (Millis (n - most))) else
    (Millis n, None)
pieces_of Forever most = (Millis most, Some Forever)

-- the call with this wait, if both wait
abbrev pub waiting : Call → Wait → Call
waiting before Now = before
waiting (call.Transfer queue item before) wait = call.Transfer queue item wait
waiting (call.Take queue before) wait = call.Take queue wait
waiting (call.Swap exchanger item before) wait = call.Swap exchanger item wait
waiting other wait = other
