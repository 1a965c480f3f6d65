-- The reply that is kept, by the entries where its texts and its consumer stand.
use Rattle.std.specs.Prelude.{List, Option, Some, option_map}
use Rattle.rv_text.specs.declared.answer.Reply.{Reply}
use Rattle.rv_text.specs.declared.answer.Reply as reply
use Rattle.rv_session.specs.declared.kept.Kept.{Kept}
use Rattle.rv_session.specs.declared.kept.Kept as kept
use Rattle.rv_account.specs.declared.entry.Entry.{Entry}
use Rattle.rv_account.specs.Account.{item_at, key_at, partners_items}

-- the reply that is kept; none where no item, or no request, arrived at its place
abbrev pub reply_of : List Entry → Kept → Option Reply
reply_of entries kept.TheVariants.Done = Some reply.TheVariants.Done
reply_of entries (kept.TheVariants.Item place) = option_map reply.TheVariants.Item (item_at entries place)
reply_of entries kept.TheVariants.Empty = Some reply.TheVariants.Empty
reply_of entries (kept.TheVariants.Swapped place) =
    option_map reply.TheVariants.Swapped (item_at entries place)
reply_of entries kept.TheVariants.Received = Some reply.TheVariants.Received
reply_of entries (kept.TheVariants.ReceivedBy place) =
    option_map reply.TheVariants.ReceivedBy (key_at entries place)
reply_of entries kept.TheVariants.Nobody = Some reply.TheVariants.Nobody
reply_of entries kept.TheVariants.Cancelled = Some reply.TheVariants.Cancelled
reply_of entries kept.TheVariants.TimedOut = Some reply.TheVariants.TimedOut
reply_of entries (kept.TheVariants.Counted items consumers) =
    Some (reply.TheVariants.Counted items consumers)
reply_of entries (kept.TheVariants.Peeked place) = option_map reply.TheVariants.Peeked (item_at entries place)
reply_of entries (kept.TheVariants.Drained place) =
    option_map reply.TheVariants.Drained (partners_items entries place)

-- the reply carries items' texts, or a list for them
abbrev pub ReplyHasText : Reply → Type 0
ReplyHasText (reply.TheVariants.Item text) = Unit {0}
ReplyHasText (reply.TheVariants.Swapped text) = Unit {0}
ReplyHasText (reply.TheVariants.Peeked text) = Unit {0}
ReplyHasText (reply.TheVariants.Drained texts) = Unit {0}
ReplyHasText _ = ⊥
