-- The entries before the loop's own were copied.
use Rattle.std.proofs.Common.{◌≡◌, take}
use Rattle.rv_account.proofs.account.Account.clone_out.Given as goal

abbrev pub invariant-loop-entry : goal.invariant-loop-entry
invariant-loop-entry l = l.entries.items ≡ take l.entry-index l.entry-items
