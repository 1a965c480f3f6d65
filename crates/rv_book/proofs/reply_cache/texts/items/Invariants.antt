-- The items of the places before the loop's own were copied.
use Rattle.std.proofs.Common.{◌≡◌, Some, take}
use Rattle.rv_account.specs.Account.{items_at}
use Rattle.rv_book.proofs.reply_cache.texts.items.Given as goal

abbrev pub invariant-loop-place : goal.invariant-loop-place
invariant-loop-place l = items_at l.account.account.entries (take l.place-index l.places) ≡ Some l.items.items
