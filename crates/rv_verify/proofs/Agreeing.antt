-- What an audit reads is read here too, and the verdict is the audit's.
use Rattle.std.proofs.Common.{◌≡◌, ◌≤◌, ◌+◌, ◌∙◌, ℕ, List, length, refl, sym, ap, subst, arith}
use Rattle.rv_account.specs.Account.{Account}
use Rattle.rv_account.specs.declared.entry.Entry.{Entry}
use Rattle.rv_audit.specs.Faults.{IsToldOf}
use Rattle.rv_audit.specs.declared.outcome.Audit.{Audit}
use Rattle.rv_audit.specs.declared.outcome.Audit.TheVariants as tells
use Rattle.rv_audit.specs.declared.rule.Rule.{Rule}
use Rattle.rv_audit.proofs.ByRules.{one_audit}
use Rattle.rv_verify.specs.follow.state_rules.Ruling.{IsOnNamed}
use Rattle.rv_book.specs.lines.Reading.{ReadsAccount}
use Rattle.rv_book.proofs.OfLines.OneReading.{account_one, read_has_no_bad}
use Rattle.rv_account.specs.Limits.{FitEntries, max_moment}
use Rattle.rv_verify.specs.Laws.{SayTheSame, VerdictsAgree}
use Rattle.rv_verify.specs.Verdicts.{IsVerdictOn, ReadsLong, TellsBeyond, long_limits}
use Rattle.rv_verify.proofs.Small.{entries_fit, few_entries, front_room}
use Rattle.rv_verify.proofs.Wider.{entries_wider}
use Rattle.rv_replies.specs.declared.findings.verdict.AccountVerdict.{AccountVerdict}
use Rattle.rv_replies.specs.declared.findings.verdict.AccountVerdict.TheVariants as verdict

-- ---- reading

account_wider : (lines : List (List ℕ)) (a : Account) → ReadsAccount lines a → ReadsLong lines a
account_wider lines a reads = record {
  head = reads.head;
  rest = reads.rest;
  parts = reads.parts;
  says_head = reads.says_head;
  says_entries = record {
    one_by_one = entries_wider reads.rest a.entries reads.says_entries.one_by_one;
    not_too_many = omega (arith, reads.says_entries.not_too_many);
  };
}

-- ---- the verdict

same_fault : (told : Audit) (place : ℕ) (rule : Rule) → told ≡ tells.Fault place rule
    → SayTheSame told (verdict.Fault place rule)
same_fault told place rule is = subst (λ t. SayTheSame t (verdict.Fault place rule)) (sym is) (refl, refl)

same_named : (told : Audit) (place : ℕ) (rule : Rule) (e : Entry) → told ≡ tells.Fault place rule
    → IsOnNamed rule → SayTheSame told (verdict.NotOpen place e)
same_named told place rule e is on = subst (λ t. SayTheSame t (verdict.NotOpen place e)) (sym is) (refl, on)

module _ (lines : List (List ℕ)) (a : Account) (told : Audit) (reads : ReadsAccount lines a)
    (is : IsToldOf a told) where
  one : (b : Account) → ReadsLong lines b → b ≡ a
  one b read = account_one long_limits lines b a read (account_wider lines a reads)

  -- an account of so few entries has room as long as it is legal
  within : (place : ℕ) → TellsBeyond lines place → ⊥
  within place tell =
      let same = one tell.account tell.read in
      let few : length tell.account.entries ≤ 100000 =
      subst (λ (b : Account). length b.entries ≤ 100000) (sym same) (few_entries lines a reads) in
      let fit : FitEntries tell.account.entries =
      subst (λ (b : Account). FitEntries b.entries) (sym same) (entries_fit lines a reads) in
      let opened : tell.account.opened ≤ max_moment = tell.had_room.opened in
      tell.beyond (front_room tell.account (place + 1) tell.legal opened fit few)

  agree : (said : AccountVerdict) → IsVerdictOn lines said → SayTheSame told said
  agree verdict.Legal tell =
      let same = one_audit a told tells.Legal is (subst (λ b. IsToldOf b tells.Legal)
      (one tell.account tell.read)
      tell.legal) in
      subst (λ t. SayTheSame t verdict.Legal) (sym same) tt
  agree (verdict.Fault place rule) tell =
      let fault = tell.told told (subst (λ b. IsToldOf b told) (sym (one tell.account tell.read)) is) in
      same_fault told place rule (fault.1 ∙ ap (tells.Fault place) fault.2)
  agree (verdict.NotOpen place e) tell =
      let at = tell.fault in
      let fault = at.told told (subst (λ b. IsToldOf b told) (sym (one at.account at.read)) is) in
      same_named told place fault.0 e fault.1 fault.2
  agree (verdict.BadLine n) tell =
      absurd (read_has_no_bad long_limits lines a n (account_wider lines a reads) tell)
  agree (verdict.BeyondLimits place) tell = absurd (within place tell)

pub verdicts_agree : VerdictsAgree
verdicts_agree lines a told said reads is tell = agree lines a told reads is said tell
