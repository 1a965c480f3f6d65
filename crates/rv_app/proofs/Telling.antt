-- The lines that an audit prints.
use Rattle.std.proofs.Common.{◌≡◌, ◌<◌, ℕ, Bool, true, false, List, [], ◌∷◌, ◌++◌, refl, sym, ap, ◌∙◌}
use Rattle.std.proofs.Common.{append_assoc, arith, length, length-append, codes}
use Rattle.std.specs.Fmt.{decimal}
use Rattle.rv_account.specs.Account.{Account}
use Rattle.rv_audit.specs.declared.rule.Rule.{Rule}
use Rattle.rv_audit.specs.AccountRules.{name_of}
use Rattle.rv_audit.specs.Faults.{FirstFault}
use Rattle.rv_book.specs.lines.Lines.{lines}
use Rattle.rv_book.specs.lines.Reading.{FirstBadLine, ReadsAccount}
use Rattle.rv_app.specs.Audits.{TellsLine}
use Rattle.rv_app.specs.declared.audit.AuditSaid.{AuditSaid}
use Rattle.rv_app.specs.declared.audit.AuditSaid.TheVariants.{BadLine, Fault}

pub fault_line : (input line name : List ℕ) (a : Account) (place : ℕ) (rule : Rule)
    → ReadsAccount (lines input) a → FirstFault a place rule → name ≡ name_of rule
    → line ≡ codes "fault " ++ (decimal place ++ 32 ∷ (name ++ 10 ∷ [])) → TellsLine input Fault line
fault_line input line name a place rule reads first named is = record {
  text = codes "fault " ++ decimal place ++ 32 ∷ name_of rule;
  tells = record { account = a; place = place; rule = rule; read = reads; first = first; text_is = refl };
  line_is = is ∙ (λ i. codes "fault " ++ (decimal place ++ 32 ∷ (named i ++ 10 ∷ [])))
      ∙ sym (append_assoc (codes "fault ") (decimal place) ((32 ∷ name_of rule) ++ 10 ∷ []))
      ∙ sym (append_assoc (codes "fault " ++ decimal place) (32 ∷ name_of rule) (10 ∷ []));
}

pub bad_line_told : (input line : List ℕ) (n : ℕ) → FirstBadLine (lines input) n
    → line ≡ codes "bad line " ++ (decimal n ++ 10 ∷ []) → TellsLine input BadLine line
bad_line_told input line n bad is = record {
  text = codes "bad line " ++ decimal n;
  tells = record { number = n; bad = bad; text_is = refl };
  line_is = is ∙ sym (append_assoc (codes "bad line ") (decimal n) (10 ∷ []));
}

-- a write that failed did not send all of a line: none of it where the sink had failed before
pub not_all_sent : (input line : List ℕ) (said : AuditSaid) (failed : Bool) (sent : ℕ)
    → TellsLine input said line → (failed ≡ false → sent < length line) → (failed ≡ true → sent ≡ 0)
    → sent < length line
not_all_sent input line said false sent tells fresh stale = fresh refl
not_all_sent input line said true sent tells fresh stale = omega (
  arith,
  stale refl,
  ap length tells.line_is,
  length-append tells.text (10 ∷ []),
)
