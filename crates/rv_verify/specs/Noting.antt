-- Which account a record of replies has noted, among those that an account's first lines are.
use Rattle.std.specs.Prelude.{◌≡◌, ◌<◌, ◌≤◌, ℕ, List, Option, None, Some, length, take}
use Rattle.rv_account.specs.Account.{Account}
use Rattle.rv_replies.specs.Standing.{HasNoted}
use Rattle.rv_replies.specs.declared.records.Records.{Records}
use Rattle.rv_account.specs.state.resume.Laws.{HadRoom}
use Rattle.rv_account.specs.rules.Legal.{Legal}
use Rattle.rv_verify.specs.Ends.{HoldsOfLines}
use Rattle.rv_verify.specs.Verdicts.{ReadsLong}
use Rattle.rv_replies.specs.declared.findings.verdict.AccountFinding.{AccountFinding}

-- some first lines are read as this account, which is legal, and whose state has had room after each entry;
-- no more of the lines are
pub record IsLongestLegal (lines : List (List ℕ)) (a : Account) : Type 0 where
  pub front : ℕ
  pub within : front ≤ length lines
  pub read : ReadsLong (take front lines) a
  pub legal : Legal a
  pub had_room : HadRoom a
  pub longest : (n : ℕ) (other : Account) → front < n → n ≤ length lines → ReadsLong (take n lines) other
      → Legal other → ¬ HadRoom other

-- this is that account's epoch, and the record knows what became in it of the request of each reply
pub record NotesLongest (lines : List (List ℕ)) (epoch : ℕ) (r : Records) : Type 0 where
  pub account : Account
  pub is_longest : IsLongestLegal lines account
  pub is_epoch : account.epoch ≡ epoch
  pub noted : HasNoted r account

-- if the first line says no epoch, there is no such account
abbrev pub HasNotedOf : List (List ℕ) → Option ℕ → Records → Type 0
HasNotedOf lines None r = (n : ℕ) (a : Account) → ¬ ReadsLong (take n lines) a
HasNotedOf lines (Some epoch) r = NotesLongest lines epoch r

-- the same for the bytes of an account
abbrev pub IsNotedOfBytes : List ℕ → AccountFinding → Records → Type 0
IsNotedOfBytes bytes told r = HoldsOfLines told.torn bytes (λ ls. HasNotedOf ls told.epoch r)
