-- The verdict on the lines that a verifier read.
use Rattle.std.proofs.Common.{◌≡◌, ◌+◌, ◌∷◌, ◌++◌, ◌∙◌, ℕ, List, [], Option, None, Some}
use Rattle.std.proofs.Common.{length, take, refl, sym, ap, subst, arith, slice_get, length-append}
use Rattle.std.proofs.Math.Seq.{take-append-add, take-append_seam}
use Rattle.rv_account.specs.declared.entry.Entry.{Entry}
use Rattle.rv_account.specs.Account.{Account, with_entry}
use Rattle.rv_account.specs.rules.Legal.{Legal, before}
use Rattle.rv_account.specs.state.After.{state_of}
use Rattle.rv_account.proofs.OfState.Agreed.{agreed, state_pushed}
use Rattle.rv_account.specs.state.resume.Laws.{HadRoom}
use Rattle.rv_account.specs.state.resume.Resuming.{StaysInRoom}
use Rattle.rv_machine.specs.Machines.{state_in}
use Rattle.rv_audit.specs.declared.rule.Rule.{Rule}
use Rattle.rv_verify.specs.follow.state_rules.Ruling.{IsFirstBroken, IsOnNamed, NamesClosed}
use Rattle.rv_verify.proofs.OfFollow.OfAsked.RuleLaws.{closed_breaks, follows_legally, rules_break}
use Rattle.rv_verify.specs.Standing.{HasRead, StandsAt, StopsBehind, verdict_by}
use Rattle.rv_verify.specs.Verdicts.{AuditTells, IsVerdictOn, ReadsLong, TellsFaultOf}
use Rattle.rv_replies.specs.declared.findings.verdict.AccountVerdict.{AccountVerdict}
use Rattle.rv_replies.specs.declared.findings.verdict.AccountVerdict.TheVariants as verdict
use Rattle.rv_verify.specs.declared.verifier.StopReason.{StopReason}
use Rattle.rv_verify.specs.declared.verifier.StopReason.TheVariants as stop
use Rattle.rv_verify.specs.declared.verifier.Verifier.{Verifier}
use Rattle.rv_verify.proofs.Fronts.{whole_illegal, whole_told}

get_at_end : (xs : List Entry) (x : Entry) (more : List Entry)
    → slice_get (xs ++ x ∷ more) (length xs) ≡ Some x
get_at_end [] x more = refl
get_at_end (y ∷ xs) x more = get_at_end xs x more

-- what an audit tells of what passed with the entry that stopped the verifier
pub bound : (p : Account) (e : Entry) (rule : Rule) → Legal p → IsFirstBroken (state_of p) e rule
    → AuditTells (with_entry p e) (length p.entries) (λ other. other ≡ rule)
bound p e rule legal broken told is = (rule, (rules_break p e rule legal).told broken told is, refl)

pub bound_named : (p : Account) (e : Entry) → Legal p → NamesClosed (state_of p) e
    → AuditTells (with_entry p e) (length p.entries) IsOnNamed
bound_named p e legal closed told is =
    let named = closed_breaks p e told legal closed is in (named.rule, named.is, named.on_named)

module _ (lines : List (List ℕ)) (p a : Account) (reads : ReadsLong lines a) (reason : StopReason)
    (legal : Legal p) (had_room : HadRoom p) (behind : StopsBehind p a reason) where
  -- the account's fronts before the entry and with it
  pub front : before a (length p.entries) ≡ p
  front =
      let entries : take (length p.entries) a.entries ≡ p.entries =
      ap (take (length p.entries)) behind.entries
      ∙ take-append_seam p.entries (behind.entry ∷ behind.more) in
      λ i. record { epoch = behind.epoch i; opened = behind.opened i; entries = entries i }

  pub front_more : before a (length p.entries + 1) ≡ with_entry p behind.entry
  front_more =
      let entries : take (length p.entries + 1) a.entries ≡ p.entries ++ behind.entry ∷ [] =
      ap (take (length p.entries + 1)) behind.entries
      ∙ take-append-add p.entries (behind.entry ∷ behind.more) 1 in
      λ i. record { epoch = behind.epoch i; opened = behind.opened i; entries = entries i }

  fault_of : (Of : Rule → Type 0) → AuditTells (with_entry p behind.entry) (length p.entries) Of
      → TellsFaultOf Of lines (length p.entries)
  fault_of Of told =
      let told_front = subst (λ x. AuditTells x (length p.entries) Of) (sym front_more) told in
      record {
        account = a;
        read = reads;
        legal_before = subst Legal (sym front) legal;
        had_room = subst HadRoom (sym front) had_room;
        illegal = whole_illegal a (length p.entries) Of told_front;
        told = whole_told a (length p.entries) Of told_front;
      }

  there : slice_get a.entries (length p.entries) ≡ Some behind.entry
  there = ap (λ es. slice_get es (length p.entries)) behind.entries
      ∙ get_at_end p.entries behind.entry behind.more

-- the verdict of a verifier that stopped for this reason, or didn't, at a place
abbrev pub verdict_after : Option StopReason → ℕ → AccountVerdict
verdict_after None place = verdict.Legal
verdict_after (Some reason) place = verdict_by reason place

told_by : (lines : List (List ℕ)) (p a : Account) (reason : Option StopReason) → ReadsLong lines a → Legal p
    → HadRoom p → StandsAt p a reason → IsVerdictOn lines (verdict_after reason (length p.entries))
unfolding fault_of
told_by lines p a None reads legal had_room stands = record {
  account = p;
  read = subst (ReadsLong lines) stands reads;
  legal = legal;
  had_room = had_room;
}
told_by lines p a (Some (stop.Breaks rule)) reads legal had_room stands =
    fault_of lines p a reads (stop.Breaks rule) legal had_room stands (λ other. other ≡ rule)
    (bound p stands.entry rule legal stands.is_stop)
told_by lines p a (Some (stop.NotOpen entry)) reads legal had_room stands =
    record {
      fault = fault_of lines p a reads (stop.NotOpen entry) legal had_room stands IsOnNamed
          (bound_named p stands.entry legal stands.is_stop.0);
      there = there lines p a reads (stop.NotOpen entry) legal had_room stands
          ∙ ap Some (sym stands.is_stop.1);
      closed = subst (NamesClosed (state_of (before a (length p.entries)))) (sym stands.is_stop.1)
          (subst (λ x. NamesClosed (state_of x) stands.entry)
          (sym (front lines p a reads (stop.NotOpen entry) legal had_room stands)) stands.is_stop.0);
    }
told_by lines p a (Some stop.BeyondLimits) reads legal had_room stands =
    let to = front lines p a reads stop.BeyondLimits legal had_room stands in
    let more = front_more lines p a reads stop.BeyondLimits legal had_room stands in
    let passes = stands.is_stop in
    record {
      account = a;
      read = reads;
      there = omega (arith, ap length stands.entries, length-append p.entries (stands.entry ∷ stands.more));
      legal = subst Legal (sym more) ((follows_legally p stands.entry legal).0 passes.follows);
      had_room = subst HadRoom (sym to) had_room;
      beyond = λ room. passes.beyond (subst StaysInRoom (ap state_of more ∙ state_pushed p stands.entry)
          room);
    }

-- a verifier's verdict is that of the lines that it read
pub verdict_told : (old : Verifier) (place : ℕ) (result : AccountVerdict)
    → place ≡ (state_in old.machine).length
    → result ≡ verdict_after old.stop place → (lines : List (List ℕ)) → HasRead lines old
    → IsVerdictOn lines result
verdict_told old place result at is lines has =
    let counted : place ≡ length has.passed.entries =
    at ∙ ap (λ s. s.length) has.holds.state ∙ (agreed has.passed has.holds.legal).length in
    subst (IsVerdictOn lines) (sym (is ∙ ap (verdict_after old.stop) counted))
    (told_by lines has.passed has.account old.stop has.read has.holds.legal has.holds.had_room has.stands)
