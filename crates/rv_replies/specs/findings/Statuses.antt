-- The exit status of `rv verify`.
use Rattle.std.specs.Prelude.{true, false, Bool, ℕ, None, Option, Some}
use Rattle.rv_audit.specs.declared.rule.Rule.{Rule}
use Rattle.rv_replies.specs.declared.findings.verdict.AccountVerdict.{AccountVerdict}
use Rattle.rv_replies.specs.declared.findings.verdict.AccountVerdict.TheVariants.{BadLine, BeyondLimits}
use Rattle.rv_replies.specs.declared.findings.verdict.AccountVerdict.TheVariants.{Fault, Legal as LegalSoFar}
use Rattle.rv_replies.specs.declared.findings.verdict.AccountVerdict.TheVariants.{NotOpen}

-- 3 if the end is torn, else the given status
abbrev pub torn_or : Bool → ℕ → ℕ
torn_or true own = 3
torn_or false own = own

-- the status for a closed place, by whether its rule is known
abbrev pub closed_status : Option Rule → ℕ
closed_status (Some broken) = 1
closed_status None = 5

-- the status for a legal account, by whether its end is torn and all of a record is kept
abbrev pub legal_status : Bool → Bool → ℕ
legal_status torn true = torn_or torn 0
legal_status torn false = 6

-- the status for a verdict, by the rule at a closed place, if it is known, by whether the end is torn, and by
-- whether all of a record is kept
abbrev pub status_by : AccountVerdict → Option Rule → Bool → Bool → ℕ
status_by LegalSoFar rule torn kept = legal_status torn kept
status_by (Fault place broken) rule torn kept = torn_or torn 1
status_by (NotOpen place entry) rule torn kept = torn_or torn (closed_status rule)
status_by (BadLine number) rule torn kept = torn_or torn 1
status_by (BeyondLimits place) rule torn kept = torn_or torn 4
