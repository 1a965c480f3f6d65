-- Re-exported from rv_account: the reply of a request, as an account has it.
pub use Rattle.rv_account.specs.rules.Replies.{Meet, GetsItem, MeetsKey, RepliesMet, FirstStop, told_by}
pub use Rattle.rv_account.specs.rules.Replies.{ToldStopped, RepliesUnmet, Counts, IsFrontItem, HasNoItem}
pub use Rattle.rv_account.specs.rules.Replies.{Drains}
pub use Rattle.rv_account.specs.rules.Replies.{RepliesAt, RepliesToArrival, CancelledFirst, HasReply}
