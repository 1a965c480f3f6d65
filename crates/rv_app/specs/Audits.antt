-- What an audit of an input prints, and what each of its outcomes leaves behind.
use Rattle.std.specs.Prelude.{ℕ, ◌≡◌, ◌<◌, ◌∷◌, ◌++◌, [], true, IfSome, List, Option, String, codes}
use Rattle.std.specs.Prelude.{length, string_bytes, take}
use Rattle.std.specs.Fmt.{decimal}
use Rattle.std.specs.declared.alloc.Global.{Global}
use Rattle.rv_frame.specs.declared.sink.Sink.{Sink}
use Rattle.rv_frame.specs.declared.source.Source.{Source}
use Rattle.rv_frame.specs.Sink.{SinkTakes, sink_failed}
use Rattle.rv_frame.specs.Source.{source_remaining}
use Rattle.rv_account.specs.Account.{Account}
use Rattle.rv_book.specs.Legal as book
use Rattle.rv_audit.specs.declared.rule.Rule.{Rule}
use Rattle.rv_audit.specs.AccountRules.{name_of}
use Rattle.rv_audit.specs.Faults.{FirstFault}
use Rattle.rv_book.specs.lines.Lines.{lines}
use Rattle.rv_book.specs.lines.Reading.{FirstBadLine, ReadsAccount}
use Rattle.rv_run.specs.Input.{ReadsAll}
use Rattle.rv_app.specs.declared.audit.AuditSaid.{AuditSaid}
use Rattle.rv_app.specs.declared.audit.AuditSaid.TheVariants.{BadLine, Fault, Legal}

-- the input's lines are read as a legal account, and the text says so
pub record TellsLegal (input text : List ℕ) : Type 0 where
  pub account : Account
  pub read : ReadsAccount (lines input) account
  pub legal : book.Legal account
  pub text_is : text ≡ codes "legal"

-- they are read as an account, and the text says its first fault
pub record TellsFault (input text : List ℕ) : Type 0 where
  pub account : Account
  pub place : ℕ
  pub rule : Rule
  pub read : ReadsAccount (lines input) account
  pub first : FirstFault account place rule
  pub text_is : text ≡ codes "fault " ++ decimal place ++ 32 ∷ name_of rule

-- they have a first bad line, and the text says which
pub record TellsBadLine (input text : List ℕ) : Type 0 where
  pub number : ℕ
  pub bad : FirstBadLine (lines input) number
  pub text_is : text ≡ codes "bad line " ++ decimal number

-- the text says what the audit of the input finds, which is of this one of the three kinds
abbrev pub TellsAudit : List ℕ → AuditSaid → List ℕ → Type 0
TellsAudit input Legal text = TellsLegal input text
TellsAudit input Fault text = TellsFault input text
TellsAudit input BadLine text = TellsBadLine input text

-- the line with its LF (10) says it
pub record TellsLine (input : List ℕ) (said : AuditSaid) (line : List ℕ) : Type 0 where
  pub text : List ℕ
  pub tells : TellsAudit input said text
  pub line_is : line ≡ text ++ 10 ∷ []

abbrev pub HasLine : List ℕ → AuditSaid × String Global → Type 0
HasLine input told = TellsLine input told.0 (string_bytes told.1)

-- the same for any lines that are read as this account
abbrev pub TellsOf : Account → AuditSaid × String Global → Type 0
TellsOf account told = (input : List ℕ) → ReadsAccount (lines input) account → HasLine input told

module _ {W : Type 0} (contents : W → Option (List ℕ)) where
  -- the sink took exactly such a line
  pub record WritesLine (input : List ℕ) (said : AuditSaid) (old new : Sink W) : Type 0 where
    pub line : List ℕ
    pub tells : TellsLine input said line
    pub went_out : SinkTakes contents old new line

  -- it took exactly this many bytes of such a line, and not all
  pub record WritesFrontOfLine (input : List ℕ) (old new : Sink W) (sent : ℕ) : Type 0 where
    pub said : AuditSaid
    pub line : List ℕ
    pub tells : TellsLine input said line
    pub not_all : sent < length line
    pub went_out : SinkTakes contents old new (take sent line)

module _ {R W : Type 0} (remaining : R → Option (List ℕ)) (contents : W → Option (List ℕ)) where
  -- the whole input was audited, and its line was written
  pub record Audited (source source' : Source R) (sink sink' : Sink W) (said : AuditSaid) : Type 0 where
    pub whole_input : ReadsAll remaining source source'
    pub whole_output : IfSome (source_remaining remaining source)
        (λ input. WritesLine contents input said sink sink')
    pub sink_stays : sink_failed sink' ≡ sink_failed sink

  -- a write failed after so many bytes of the line
  pub record StoppedTelling (source source' : Source R) (sink sink' : Sink W) (sent : ℕ) : Type 0 where
    pub whole_input : ReadsAll remaining source source'
    pub front_of_output : IfSome (source_remaining remaining source)
        (λ input. WritesFrontOfLine contents input sink sink' sent)
    pub sink_fails : sink_failed sink' ≡ true
