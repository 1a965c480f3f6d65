-- What keeps the account of a server, as a device whose bytes last.
use Rattle.std.specs.Prelude.{List, Option, ℕ}
use Rattle.rv_frame.specs.Lasting.{LastingDevice, sink_lasts}
use Rattle.rv_frame.specs.declared.sink.Sink.{Sink}
use Rattle.rv_journal.specs.System.{system_disk}
use Rattle.rv_journal.specs.declared.system.SystemFile.{SystemFile}
use Rattle.rv_store.specs.Lasting.{journal_lasts}
use Rattle.rv_store.specs.declared.account_journal.AccountJournal.{AccountJournal}
use Rattle.rv_store.specs.declared.keeping.account_file.AccountFile.{AccountFile}
use Rattle.rv_store.specs.declared.keeping.store_account.StoreAccount.{StoreAccount}

-- the file of an account
abbrev pub file_of : {W : Type 0} → AccountFile W → Sink W
file_of account = account.file

-- it lasts as its writer does
abbrev pub file_lasts : {W : Type 0} → (W → Option (List ℕ)) → LastingDevice (AccountFile W)
file_lasts contents = record {
  contents = λ account. (sink_lasts contents).contents (file_of account);
  failed = λ account. (sink_lasts contents).failed (file_of account);
  moment = λ account. (sink_lasts contents).moment (file_of account);
  left_since = λ account. (sink_lasts contents).left_since (file_of account);
}

-- the journal of a store
abbrev pub journal_in : StoreAccount → AccountJournal SystemFile
journal_in account = account.journal

-- its account lasts as that does
abbrev pub store_lasts : LastingDevice StoreAccount
store_lasts = record {
  contents = λ account. (journal_lasts system_disk).contents (journal_in account);
  failed = λ account. (journal_lasts system_disk).failed (journal_in account);
  moment = λ account. (journal_lasts system_disk).moment (journal_in account);
  left_since = λ account. (journal_lasts system_disk).left_since (journal_in account);
}
