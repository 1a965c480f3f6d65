-- What is printed on an account and on a record beside it, and how much of it went out.
use Rattle.std.specs.Prelude.{◌≡◌, ◌<◌, ◌≤◌, ◌+◌, ◌⊎◌, ◌∷◌, ◌++◌, true, ℕ, List, None, Option, Some}
use Rattle.std.specs.Prelude.{length, slice_get, take}
use Rattle.std.specs.List.{flat_map}
use Rattle.rv_account.specs.Account.{Account}
use Rattle.rv_audit.specs.declared.rule.Rule.{Rule}
use Rattle.rv_replies.specs.declared.findings.Finding.{Finding}
use Rattle.rv_replies.specs.declared.findings.Told.{Told}
use Rattle.rv_replies.specs.declared.findings.verdict.AccountFinding.{AccountFinding}
use Rattle.rv_frame.specs.declared.sink.Sink.{Sink}
use Rattle.rv_frame.specs.Sink.{SinkTakes, sink_failed}
use Rattle.rv_book.specs.lines.Lines.{printed_lines}
use Rattle.rv_replies.specs.Firsts.{StandsBeside}
use Rattle.rv_replies.specs.Standing.{HasNoted, IsLineFinding}
use Rattle.rv_replies.specs.declared.records.Beside.{Beside}
use Rattle.rv_replies.specs.declared.records.Beside.TheVariants.{Differs, Repeats}
use Rattle.rv_replies.specs.declared.records.Line.{Line}
use Rattle.rv_replies.specs.declared.records.Line.TheVariants as line
use Rattle.rv_replies.specs.declared.records.Records.{Records}
use Rattle.rv_account.specs.rules.Counting.{NumberOf}
use Rattle.rv_account.specs.rules.Legal.{Legal}
use Rattle.rv_run.specs.declared.fault.RunFault.{RunFault}
use Rattle.rv_run.specs.declared.fault.RunFault.TheVariants.{NoMemory, ReadFault, TooLong, WriteFault}
use Rattle.rv_run.specs.inspect.Lines.{SaysFate, beside_lines, count_lines, finding_text, verdict_lines}

-- ---- what is found of all lines

-- these are the findings on the first lines of a record, beside the account of this epoch that it has noted
pub record FindsFirst (r : Records) (epoch : ℕ) (count : ℕ) (findings : List Finding) : Type 0 where
  pub each : length findings ≡ count
  pub are : (a : Account) → Legal a → a.epoch ≡ epoch → HasNoted r a → (index : ℕ) (line : Line)
      (finding : Finding) → slice_get r.lines.items index ≡ Some line
      → slice_get findings index ≡ Some finding → IsLineFinding a line finding

-- the line of this index, which is among the first `n`, compares so to the first one of its key
pub record StandsSo (how : Beside) (lines : List Line) (n index : ℕ) : Type 0 where
  pub inside : index < n
  pub told : Told
  pub first : ℕ
  pub there : slice_get lines index ≡ Some (line.Told told)
  pub beside : StandsBeside lines index told (Some (how, first))

-- this many of the first `n` lines of a record do, if it has noted some account
pub record CountsBeside (how : Beside) (r : Records) (n count : ℕ) : Type 0 where
  pub are : (a : Account) → HasNoted r a → NumberOf (StandsSo how r.lines.items n) count

-- ---- what is printed of a line of a record

-- the text is the line of the finding on it
abbrev pub SaysFinding : Account → Line → ℕ → Finding → List ℕ → Type 0
SaysFinding a (line.Told told) number finding text = SaysFate a told number finding text
SaysFinding a (line.Flawed flaw) number finding text = text ≡ finding_text number finding None

-- how the line with an index compares to the first one of its key, if it says another reply or repeats it
abbrev pub IsOther : List Line → ℕ → Line → Option (Beside × ℕ) → Type 0
IsOther lines index (line.Told told) other = StandsBeside lines index told other
IsOther lines index (line.Flawed flaw) other = other ≡ None

-- the texts are the finding on the line with an index, and then, if so, that it differs or repeats
pub record SaysLine (a : Account) (lines : List Line) (index : ℕ) (own : Line) (finding : Finding)
    (texts : List (List ℕ)) : Type 0 where
  pub text : List ℕ
  pub other : Option (Beside × ℕ)
  pub says : SaysFinding a own (index + 1) finding text
  pub beside : IsOther lines index own other
  pub texts_are : texts ≡ text ∷ beside_lines index other

-- ---- what is printed of a record

-- these are the texts for each of the first `count` lines, beside the account that the record has noted
pub record SaysEach (r : Records) (findings : List Finding) (count : ℕ) (each : List (List (List ℕ)))
    : Type 0 where
  pub many : length each ≡ count
  pub say : (a : Account) → HasNoted r a → (index : ℕ) (own : Line) (finding : Finding)
      (texts : List (List ℕ)) → slice_get r.lines.items index ≡ Some own
      → slice_get findings index ≡ Some finding → slice_get each index ≡ Some texts
      → SaysLine a r.lines.items index own finding texts

-- after the first lines come those of each line of the record, and the counts
pub record SaysAll (first : List (List ℕ)) (r : Records) (findings : List Finding)
    (counts texts : List (List ℕ)) : Type 0 where
  pub each : List (List (List ℕ))
  pub says : SaysEach r findings (length r.lines.items) each
  pub texts_are : texts ≡ first ++ (flat_map (λ own. own) each ++ counts)

-- after the first lines come those of some first lines of the record
pub record SaysSome (first : List (List ℕ)) (r : Records) (findings : List Finding)
    (texts : List (List ℕ)) : Type 0 where
  pub count : ℕ
  pub within : count ≤ length r.lines.items
  pub each : List (List (List ℕ))
  pub says : SaysEach r findings count each
  pub texts_are : texts ≡ first ++ flat_map (λ own. own) each

-- by the findings beside the account of this epoch
pub record ReportsAll (first : List (List ℕ)) (r : Records) (epoch : ℕ) (texts : List (List ℕ))
    : Type 0 where
  pub findings : List Finding
  pub finds : FindsFirst r epoch (length r.lines.items) findings
  pub differing : ℕ
  pub repeating : ℕ
  pub differ : CountsBeside Differs r (length r.lines.items) differing
  pub repeat : CountsBeside Repeats r (length r.lines.items) repeating
  pub says : SaysAll first r findings (count_lines findings differing repeating) texts

pub record ReportsSome (first : List (List ℕ)) (r : Records) (epoch : ℕ) (texts : List (List ℕ))
    : Type 0 where
  pub findings : List Finding
  pub finds : FindsFirst r epoch (length r.lines.items) findings
  pub says : SaysSome first r findings texts

-- ---- the report

-- the first lines, and those of the record, if one stood beside an account that says an epoch
abbrev pub ReportsBehind : List (List ℕ) → Option Records → Option ℕ → List (List ℕ) → Type 0
ReportsBehind first None epoch texts = texts ≡ first
ReportsBehind first (Some r) None texts = texts ≡ first
ReportsBehind first (Some r) (Some epoch) texts = ReportsAll first r epoch texts

-- the same, up to some first lines of the record
abbrev pub BeginsBehind : List (List ℕ) → Option Records → Option ℕ → List (List ℕ) → Type 0
BeginsBehind first None epoch texts = texts ≡ first
BeginsBehind first (Some r) None texts = texts ≡ first
BeginsBehind first (Some r) (Some epoch) texts = ReportsSome first r epoch texts

-- the lines of what was found of an account and of a record beside it
abbrev pub IsReport : AccountFinding → Option Rule → Option Records → List (List ℕ) → Type 0
IsReport found rule records texts =
    ReportsBehind (verdict_lines found.verdict rule found.torn) records found.epoch texts

-- the first ones of them
abbrev pub BeginsReport : AccountFinding → Option Rule → Option Records → List (List ℕ) → Type 0
BeginsReport found rule records texts =
    BeginsBehind (verdict_lines found.verdict rule found.torn) records found.epoch texts

-- ---- what the sink took

module _ {W : Type 0} (contents : W → Option (List ℕ)) where
  -- exactly these lines
  pub record TookLines (AreAll : List (List ℕ) → Type 0) (old new : Sink W) : Type 0 where
    pub texts : List (List ℕ)
    pub are : AreAll texts
    pub went_out : SinkTakes contents old new (printed_lines texts)
    pub sink_stays : sink_failed new ≡ sink_failed old

  -- a write failed: exactly this many bytes of these lines, or of some first ones, and not all
  pub record TookFront (AreAll AreSome : List (List ℕ) → Type 0) (old new : Sink W) (sent : ℕ)
      : Type 0 where
    pub texts : List (List ℕ)
    pub are : AreAll texts ⊎ AreSome texts
    pub not_all : sent < length (printed_lines texts)
    pub went_out : SinkTakes contents old new (take sent (printed_lines texts))
    pub sink_fails : sink_failed new ≡ true

  -- not all went out, for this fault; where memory was refused, whole first lines did, or nothing
  abbrev pub StopsTaking : (List (List ℕ) → Type 0) → (List (List ℕ) → Type 0) → Sink W → Sink W → RunFault
      → Type 0
  StopsTaking AreAll AreSome old new ReadFault = ⊥
  StopsTaking AreAll AreSome old new (WriteFault fault) = TookFront AreAll AreSome old new fault.sent
  StopsTaking AreAll AreSome old new NoMemory = (new ≡ old) ⊎ TookLines AreSome old new
  StopsTaking AreAll AreSome old new TooLong = ⊥
