-- The lines of a journal are those of its account, once its first line has begun.
use Rattle.std.proofs.Common.{◌≡◌, ◌++◌, ◌∙◌, ℕ, Bool, true, false, not, List, [], ap, append_assoc, refl}
use Rattle.std.proofs.Common.{subst, sym}
use Rattle.std.specs.Prelude.{◌≢◌}
use Rattle.std.proofs.lemmas.Bool.{false≢true}
use Rattle.rv_journal.specs.Text.{IsLines}
use Rattle.rv_book.specs.lines.Lines.{lines}
use Rattle.rv_machine.specs.Machines.{state_in}
use Rattle.rv_machine.specs.declared.machine.Machine.{Machine}
use Rattle.rv_replies.specs.declared.findings.verdict.AccountFinding.{AccountFinding}
use Rattle.rv_replies.specs.declared.records.Records.{Records}
use Rattle.rv_account.specs.state.State.{State}
use Rattle.rv_account.proofs.OfState.Agreed.{agreed}
use Rattle.rv_verify.specs.Standing.{HoldsAccountOf}
use Rattle.rv_verify.specs.declared.ongoing.OngoingAudit.{OngoingAudit}
use Rattle.rv_store.specs.Format.{IsFormatFault, IsJournalOf, format}
use Rattle.rv_store.specs.Reading.{HasReadSo, HasReadWhole, HoldsJournal, IsFaultOfFront, IsFaultOfText}
use Rattle.rv_store.specs.Reading.{IsNoAccount, ReadsWholeOn, RefusesWholeOn}
use Rattle.rv_store.specs.WholeLines.{lines_on, rest_lines}
use Rattle.rv_store.specs.declared.reader.RecoveryFault.{RecoveryFault}
use Rattle.rv_store.specs.declared.reader.RecoveryFault.TheVariants as fault

-- the part of some lines that is the account's
pub part_lines : (begun : Bool) (text account : List ℕ) → IsLines text → (begun ≡ true → account ≡ text)
    → (begun ≡ false → text ≡ format ++ account) → IsLines account
part_lines true text account is later first = subst IsLines (sym (later refl)) is
part_lines false text account is later first = rest_lines format account (subst IsLines (first refl) is)

-- a first line of another format
pub of_format : (text : List ℕ) (told : RecoveryFault) → IsFormatFault text told → text ≢ []
    → IsFaultOfFront text told
of_format text (fault.NoAccount found) refused some = absurd refused
of_format text fault.NoMemory refused some = absurd refused
of_format text fault.NoLines refused some = absurd refused
of_format text fault.TooFew refused some = absurd refused
of_format text (fault.OtherEpoch other) refused some = absurd refused
of_format text fault.NoJournal refused some = refused some
of_format text (fault.OtherVersion version) refused some = refused

module _ (before text account : List ℕ) (whole : IsLines before) (audit : OngoingAudit) (r : Records) where
  -- the account that they go on with
  joined : (had : List ℕ) → IsJournalOf before had → account ≡ text
      → lines had ++ lines account ≡ lines (had ++ text)
  joined had is same = ap (λ (l : List ℕ). lines had ++ lines l) same
      ∙ sym (lines_on had text (rest_lines format had (subst IsLines is whole)))

  goes_on : (had : List ℕ) → IsJournalOf before had → IsJournalOf (before ++ text) (had ++ text)
  goes_on had is = ap (λ (l : List ℕ). l ++ text) is ∙ append_assoc format had text

  begins : before ≡ [] → text ≡ format ++ account → IsJournalOf (before ++ text) account
  begins none is = ap (λ (l : List ℕ). l ++ text) none ∙ is

  pub reads_part : (begun : Bool) (later : OngoingAudit) (after : Records) → (begun ≡ true → account ≡ text)
      → (begun ≡ false → text ≡ format ++ account) → ReadsWholeOn audit r account later after
      → HasReadSo begun before audit r → HasReadSo true (before ++ text) later after
  reads_part true later after same first on has = (
    has.0 ++ text,
    goes_on has.0 has.1,
    subst (λ (l : List (List ℕ)). HasReadWhole l later after) (joined has.0 has.1 (same refl))
        (on (lines has.0) has.2),
  )
  reads_part false later after same first on has = (account, begins has.0 (first refl), on [] has.1)

  pub refuses_part : (begun : Bool) (why : RecoveryFault) → (begun ≡ true → account ≡ text)
      → (begun ≡ false → text ≡ format ++ account) → RefusesWholeOn audit r account why
      → HasReadSo begun before audit r → IsFaultOfFront (before ++ text) why
  refuses_part true (fault.NoAccount found) same first refused has = (
    has.0 ++ text,
    goes_on has.0 has.1,
    subst (λ (l : List (List ℕ)). IsNoAccount l found) (joined has.0 has.1 (same refl))
        (refused (lines has.0) has.2),
  )
  refuses_part false (fault.NoAccount found) same first refused has =
      (account, begins has.0 (first refl), refused [] has.1)
  refuses_part begun fault.NoMemory same first refused has = tt
  refuses_part begun fault.NoLines same first refused has = absurd refused
  refuses_part begun fault.TooFew same first refused has = absurd refused
  refuses_part begun (fault.OtherEpoch other) same first refused has = absurd refused
  refuses_part begun fault.NoJournal same first refused has = absurd refused
  refuses_part begun (fault.OtherVersion version) same first refused has = absurd refused

  pub refuses_format : (begun : Bool) (why : RecoveryFault) → (begun ≡ false) × IsFormatFault text why
      → text ≢ [] → HasReadSo begun before audit r → IsFaultOfFront (before ++ text) why
  refuses_format true why is some has = absurd (false≢true (sym is.0))
  refuses_format false why is some has = subst (λ (l : List ℕ). IsFaultOfFront l why)
      (sym (ap (λ (l : List ℕ). l ++ text) has.0)) (of_format text why is.1 some)

-- ---- no more lines come

module _ (text : List ℕ) (epoch : ℕ) (audit : OngoingAudit) (r : Records) where
  pub makes : (begun : Bool) (machine : Machine) → not begun ≡ false → HasReadSo begun text audit r
      → ((read : List (List ℕ)) → HasReadWhole read audit r → HoldsAccountOf read machine)
      → (state_in machine).epoch ≡ epoch → HoldsJournal epoch text machine
  makes true machine is has so same = record {
    account = has.0;
    is = has.1;
    holds = so (lines has.0) has.2;
    epoch_is = same;
  }
  makes false machine is has so same = absurd (false≢true (sym is))

  pub lacks : (begun : Bool) (found : AccountFinding) → not begun ≡ false → HasReadSo begun text audit r
      → ((read : List (List ℕ)) → HasReadWhole read audit r → IsNoAccount read found)
      → IsFaultOfText epoch text (fault.NoAccount found)
  lacks true found is has so = (has.0, has.1, so (lines has.0) has.2)
  lacks false found is has so = absurd (false≢true (sym is))

  pub of_epoch : (begun : Bool) (machine : Machine) (other : ℕ) → not begun ≡ false → HasReadSo begun text
      audit r
      → ((read : List (List ℕ)) → HasReadWhole read audit r → HoldsAccountOf read machine)
      → other ≡ (state_in machine).epoch → other ≢ epoch → IsFaultOfText epoch text (fault.OtherEpoch other)
  of_epoch true machine other is has so same differs =
      let held = so (lines has.0) has.2 in (
        record {
          lines_in = has.0;
          is = has.1;
          account = held.account;
          read = held.read;
          epoch_is = sym (same ∙ ap (λ (s : State). s.epoch) held.holds.state
              ∙ (agreed held.account held.holds.legal).epoch);
        },
        differs,
      )
  of_epoch false machine other is has so same differs = absurd (false≢true (sym is))
