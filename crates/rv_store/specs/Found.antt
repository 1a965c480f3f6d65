-- What is found after a crash at any moment of an engine's run over the journal of its account.
use Rattle.std.specs.Prelude.{◌≡◌, ◌≤◌, ◌++◌, ℕ, List, length, true}
use Rattle.rv_account.specs.Account.{Account}
use Rattle.rv_account.specs.Limits.{max_moment}
use Rattle.rv_account.specs.declared.entry.Entry.{Entry}
use Rattle.rv_engine.specs.EngineRuns.{BeginsStored, EngineEffect, RunsEngine, answers_in, bytes_written}
use Rattle.rv_engine.specs.Engines.{EngineState}
use Rattle.rv_engine.specs.Handing.{unwritten}
use Rattle.rv_frame.specs.Lasting.{HasFrontAfter}
use Rattle.rv_hub.specs.HubRuns.{AddsEntries, IsHubAccount, made_in}
use Rattle.rv_hub.specs.dispatcher.View.{DispatcherTerms}
use Rattle.rv_journal.specs.Text.{whole_lines}
use Rattle.rv_book.specs.lines.Lines.{lines, printed_lines}
use Rattle.rv_book.specs.lines.Written.{account_lines}
use Rattle.rv_account.specs.rules.StepLimits.{AreStepLimits}
use Rattle.rv_store.specs.servers.Room.{LetsGoOn}
use Rattle.rv_account.specs.state.resume.Laws.{HadRoom}
use Rattle.rv_verify.specs.Verdicts.{ReadsLong}
use Rattle.rv_store.specs.Format.{IsJournalOf, format}

-- what the journal of an account has
abbrev pub journal_lines : Account → List ℕ
journal_lines a = format ++ printed_lines (account_lines a)

-- The account that was, with a front of the entries that were made since, among them all that the hub was
-- told are written. A machine goes on from it.
pub record IsFoundAfter (was : Account) (made : List Entry) (told : ℕ) (found : Account) : Type 0 where
  pub front : List Entry
  pub more : List Entry
  pub parts : made ≡ front ++ more
  pub adds : AddsEntries was front found
  pub goes_on : LetsGoOn found
  pub all_told : told ≤ length found.entries

-- The whole lines of this text are a journal, whose account is read as such a one.
pub record FindsTold (was : Account) (made : List Entry) (told : ℕ) (text : List ℕ) : Type 0 where
  pub found : Account
  pub is : IsFoundAfter was made told found
  pub account : List ℕ
  pub journal : IsJournalOf (whole_lines text) account
  pub read : ReadsLong (lines account) found

-- An engine begins with an account's lines written in its journal, and runs. A crash, then or while it writes
-- lines, leaves the lines that were written and a front of those that weren't: what was told is found.
abbrev pub ToldIsFound : Type 0
ToldIsFound = (terms : DispatcherTerms) (effects : List EngineEffect) (s t : EngineState) (a : Account)
    (left : List ℕ)
    → AreStepLimits terms.limits → RunsEngine true terms s effects t → BeginsStored s
    → t.hub.now ≤ max_moment → IsHubAccount a s.hub → HadRoom a
    → HasFrontAfter (journal_lines a ++ bytes_written effects) (unwritten t) left
    → FindsTold a (made_in (answers_in effects)) t.hub.open_wires.written left
