-- The words with which lines begin.
use Rattle.std.specs.Prelude.{ℕ, List, codes, get_or}
use Rattle.rv_checkpoint.specs.declared.kind.LineKind.{LineKind}
use Rattle.rv_checkpoint.specs.declared.kind.LineKind.TheVariants.{Lies, Waits, Fresh, Asks, Replied, Unseen}
use Rattle.rv_checkpoint.specs.declared.kind.LineKind.TheVariants.{End}

-- a kind's word, and the space after it
abbrev pub word_before : LineKind → List ℕ
word_before Lies = codes "lies "
word_before Waits = codes "waits "
word_before Fresh = codes "fresh "
word_before Asks = codes "asks "
word_before Replied = codes "replied "
word_before Unseen = codes "unseen "
word_before End = codes "end "

-- the byte with which it begins
abbrev pub initial_of : LineKind → ℕ
initial_of kind = get_or (word_before kind) 0 0
