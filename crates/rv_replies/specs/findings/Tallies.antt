-- The words of findings, and which findings are the same.
use Rattle.std.specs.Prelude.{Bool, ℕ, List, codes, nat_eq}
use Rattle.rv_replies.specs.declared.findings.Finding.{Finding}
use Rattle.rv_replies.specs.declared.findings.Finding.TheVariants.{Impossible, Kept, KeptUnseen, NoRecord}
use Rattle.rv_replies.specs.declared.findings.Finding.TheVariants.{NoRequest, OtherCall, OtherEpoch}
use Rattle.rv_replies.specs.declared.findings.Finding.TheVariants.{OtherReply, Waiting}

abbrev pub words_of : Finding → List ℕ
words_of Kept = codes "kept"
words_of KeptUnseen = codes "kept, as a cancel tells it"
words_of OtherReply = codes "another reply"
words_of OtherCall = codes "another call"
words_of NoRequest = codes "no such request"
words_of Waiting = codes "still waiting"
words_of OtherEpoch = codes "another epoch"
words_of Impossible = codes "a reply that this call can't have"
words_of NoRecord = codes "no record"

-- each finding has a number of its own
abbrev pub number_of : Finding → ℕ
number_of Kept = 0
number_of OtherReply = 1
number_of OtherCall = 2
number_of NoRequest = 3
number_of Waiting = 4
number_of OtherEpoch = 5
number_of Impossible = 6
number_of NoRecord = 7
number_of KeptUnseen = 8

abbrev pub is_finding : Finding → Finding → Bool
is_finding finding other = nat_eq (number_of finding) (number_of other)
