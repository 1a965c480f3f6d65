-- The lines that are printed.
use Rattle.std.specs.Prelude.{◌≡◌, ◌∷◌, ◌++◌, ◌+◌, [], true, false, Bool, ℕ, List, None, Option, Some, codes}
use Rattle.std.specs.Prelude.{filter, length}
use Rattle.std.specs.Fmt.{decimal}
use Rattle.rv_account.specs.Account.{Account}
use Rattle.rv_audit.specs.AccountRules.{name_of}
use Rattle.rv_audit.specs.declared.rule.Rule.{Rule}
use Rattle.rv_replies.specs.findings.Fates.{IsFateOf}
use Rattle.rv_replies.specs.findings.Tallies.{is_finding, words_of}
use Rattle.rv_replies.specs.declared.findings.fate.Fate.{Fate}
use Rattle.rv_replies.specs.declared.findings.fate.Fate.TheVariants.{CancelledUnseen, RepliedTo, Unnamed}
use Rattle.rv_replies.specs.declared.findings.fate.Fate.TheVariants.{Waits}
use Rattle.rv_replies.specs.declared.findings.Finding.{Finding}
use Rattle.rv_replies.specs.declared.findings.Finding.TheVariants.{Impossible, Kept, KeptUnseen, NoRecord}
use Rattle.rv_replies.specs.declared.findings.Finding.TheVariants.{NoRequest, OtherCall, OtherEpoch}
use Rattle.rv_replies.specs.declared.findings.Finding.TheVariants.{OtherReply, Waiting}
use Rattle.rv_replies.specs.declared.findings.Told.{Told}
use Rattle.rv_replies.specs.declared.records.Beside.{Beside}
use Rattle.rv_replies.specs.declared.records.Beside.TheVariants.{Differs, Repeats}
use Rattle.rv_text.specs.Bodies.{answer_text, message_text}
use Rattle.rv_text.specs.declared.answer.Answer.TheVariants.{Replied}
use Rattle.rv_text.specs.declared.answer.Reply.TheVariants.{Cancelled}
use Rattle.rv_text.specs.declared.message.Key.{Key}
use Rattle.rv_text.specs.declared.message.Message.TheVariants.{Request}
use Rattle.rv_replies.specs.declared.findings.verdict.AccountVerdict.{AccountVerdict}
use Rattle.rv_replies.specs.declared.findings.verdict.AccountVerdict.TheVariants.{BadLine, BeyondLimits}
use Rattle.rv_replies.specs.declared.findings.verdict.AccountVerdict.TheVariants.{Fault, Legal as LegalSoFar}
use Rattle.rv_replies.specs.declared.findings.verdict.AccountVerdict.TheVariants.{NotOpen}

-- a fault: its place, and the text that names the rule
abbrev pub fault_text : ℕ → List ℕ → List ℕ
fault_text place name = codes "fault " ++ decimal place ++ 32 ∷ name

-- the line of a verdict, with the rule at a closed place, if it is known
abbrev pub verdict_text : AccountVerdict → Option Rule → List ℕ
verdict_text LegalSoFar rule = codes "legal"
verdict_text (Fault place broken) rule = fault_text place (name_of broken)
verdict_text (NotOpen place entry) (Some broken) = fault_text place (name_of broken)
verdict_text (NotOpen place entry) None =
    fault_text place (codes "P1, P2 or S1: a file, read twice, tells which")
verdict_text (BadLine number) rule = codes "bad line " ++ decimal number
verdict_text (BeyondLimits place) rule = codes "beyond limits " ++ decimal place

-- the lines of a verdict, the last of which says that the end is torn, if it is
abbrev pub verdict_lines : AccountVerdict → Option Rule → Bool → List (List ℕ)
verdict_lines verdict rule true = verdict_text verdict rule ∷ codes "torn end" ∷ []
verdict_lines verdict rule false = verdict_text verdict rule ∷ []

-- ---- what an account says in place of a reply

-- the body of the reply that the request with the key has, if it has one
abbrev pub reply_said : Key → Fate → Option (List ℕ)
reply_said key Unnamed = None
reply_said key (Waits call) = None
reply_said key (RepliedTo call reply) = Some (answer_text (Replied key reply))
reply_said key CancelledUnseen = Some (answer_text (Replied key Cancelled))

-- the body of that request as it came, if it came
abbrev pub call_said : Key → Fate → Option (List ℕ)
call_said key Unnamed = None
call_said key (Waits call) = Some (message_text (Request key call))
call_said key (RepliedTo call reply) = Some (message_text (Request key call))
call_said key CancelledUnseen = None

-- the body that follows the finding: the other reply's, or the other call's
abbrev pub instead_said : Finding → Key → Fate → Option (List ℕ)
instead_said Kept key fate = None
instead_said KeptUnseen key fate = None
instead_said OtherEpoch key fate = None
instead_said Impossible key fate = None
instead_said OtherReply key fate = reply_said key fate
instead_said OtherCall key fate = call_said key fate
instead_said Waiting key fate = None
instead_said NoRequest key fate = None
instead_said NoRecord key fate = None

-- ---- the lines of a record

-- a line's number, its finding's words, and the body after it, if there is one
abbrev pub finding_text : ℕ → Finding → Option (List ℕ) → List ℕ
finding_text number finding None = decimal number ++ 32 ∷ words_of finding
finding_text number finding (Some body) = decimal number ++ (32 ∷ words_of finding ++ 32 ∷ body)

-- the text is the line of a reply, by what became of its request
abbrev pub SaysFate : Account → Told → ℕ → Finding → List ℕ → Type 0
SaysFate a told number finding text = (fate : Fate) × IsFateOf a.entries told.key fate
    × (text ≡ finding_text number finding (instead_said finding told.key fate))

-- the line of this number says another reply than that one, the first of its key
abbrev pub differs_text : ℕ → ℕ → List ℕ
differs_text number first = decimal number ++ (codes " differs from line " ++ decimal first)

-- it says the same as that one
abbrev pub repeats_text : ℕ → ℕ → List ℕ
repeats_text number first = decimal number ++ (codes " repeats line " ++ decimal first)

abbrev pub beside_text : Beside → ℕ → ℕ → List ℕ
beside_text Differs number first = differs_text number first
beside_text Repeats number first = repeats_text number first

-- the line on how it compares to the first one of its key, if there is one
abbrev pub beside_lines : ℕ → Option (Beside × ℕ) → List (List ℕ)
beside_lines index None = []
beside_lines index (Some stands) = beside_text stands.0 (index + 1) (stands.1 + 1) ∷ []

-- ---- the counts

-- how many lines have the finding
abbrev pub count : List Finding → Finding → List ℕ
count findings finding = decimal (length (filter (is_finding finding) findings))

-- the words of the finding, and how many lines have it
abbrev pub count_text : List Finding → Finding → List ℕ
count_text findings finding = words_of finding ++ 32 ∷ count findings finding

-- the line of each finding; and how many lines differ from the first one of their key, and how many repeat it
abbrev pub count_lines : List Finding → ℕ → ℕ → List (List ℕ)
count_lines findings differing repeating =
    count_text findings Kept
    ∷ count_text findings KeptUnseen
    ∷ count_text findings OtherReply
    ∷ count_text findings OtherCall
    ∷ count_text findings NoRequest
    ∷ count_text findings Waiting
    ∷ count_text findings OtherEpoch
    ∷ count_text findings Impossible
    ∷ count_text findings NoRecord
    ∷ (codes "differing " ++ decimal differing)
    ∷ (codes "repeating " ++ decimal repeating)
    ∷ []
