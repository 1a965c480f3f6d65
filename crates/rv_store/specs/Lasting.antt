-- The journal of an account as a device whose bytes last.
use Rattle.std.specs.Prelude.{◌≡◌, ◌||◌, ℕ, List, Option, is_some}
use Rattle.rv_frame.specs.Lasting.{LastingDevice}
use Rattle.rv_journal.specs.Device.{Disk}
use Rattle.rv_journal.specs.Journal.{JournalState, journal_contents}
use Rattle.rv_journal.specs.Text.{before_zero}
use Rattle.rv_journal.specs.declared.fault.JournalFault.{JournalFault}
use Rattle.rv_store.specs.declared.account_journal.AccountJournal.{AccountJournal}

-- its journal
abbrev pub journal_of : {D : Type 0} → AccountJournal D → JournalState D
journal_of account = account.journal

-- why it takes nothing more
abbrev pub fault_of : {D : Type 0} → AccountJournal D → Option JournalFault
fault_of account = account.fault

-- what a crash might have left of its text: what stands before the first zero of the file
abbrev pub text_left : {D : Type 0} → Disk D → D → ℕ → List ℕ → Type 0
text_left disk device t left = (file : List ℕ) × disk.left_since device t file × (left ≡ before_zero file)

abbrev pub journal_lasts : {D : Type 0} → Disk D → LastingDevice (AccountJournal D)
journal_lasts disk = record {
  contents = λ account. journal_contents disk (journal_of account);
  failed = λ account. is_some (fault_of account) || (journal_of account).failed;
  moment = λ account. disk.moment (journal_of account).device;
  left_since = λ account. text_left disk (journal_of account).device;
}
