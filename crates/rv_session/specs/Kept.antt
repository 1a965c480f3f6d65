-- The reply as a session gets it, by its version.
use Rattle.std.specs.Prelude.{ℕ}
use Rattle.rv_text.specs.declared.version.Version.{Version}
use Rattle.rv_text.specs.declared.version.Version.TheVariants.{One, Two}
use Rattle.rv_session.specs.declared.kept.Kept.{Kept}
use Rattle.rv_session.specs.declared.kept.Kept.TheVariants as kept

-- an item was received by the consumer that arrived at this place; version 1 leaves the consumer out
abbrev pub receipt : Version → ℕ → Kept
receipt One place = kept.Received
receipt Two place = kept.ReceivedBy place

-- all other replies are the same in each version
abbrev pub told_in : Version → Kept → Kept
told_in version kept.Done = kept.Done
told_in version kept.Received = kept.Received
told_in version (kept.ReceivedBy place) = receipt version place
told_in version kept.Nobody = kept.Nobody
told_in version (kept.Item place) = kept.Item place
told_in version kept.Empty = kept.Empty
told_in version (kept.Swapped place) = kept.Swapped place
told_in version kept.TimedOut = kept.TimedOut
told_in version kept.Cancelled = kept.Cancelled
told_in version (kept.Counted items consumers) = kept.Counted items consumers
told_in version (kept.Peeked place) = kept.Peeked place
told_in version (kept.Drained place) = kept.Drained place
