-- What passed is read of the longest front of the lines that is read as a legal account with room.
use Rattle.std.proofs.Common.{◌≡◌, ◌<◌, ◌≤◌, ◌+◌, ◌-◌, ◌∷◌, ◌∙◌, ℕ, zero, suc, List, Option, None}
use Rattle.std.proofs.Common.{Some}
use Rattle.std.proofs.Common.{ap, arith, inl, inr, length, length-append, length-take, subst, sym, take}
use Rattle.std.proofs.lemmas.Bool.{cases_lt}
use Rattle.std.proofs.lemmas.List.{take_all, take-take}
use Rattle.rv_account.specs.declared.entry.Entry.{Entry}
use Rattle.rv_account.specs.Account.{Account, with_entry}
use Rattle.rv_audit.specs.declared.outcome.Audit.TheVariants as tells
use Rattle.rv_book.proofs.OfLines.OneReading.{account_one, front_of_front, front_read, front_read_as}
use Rattle.rv_book.proofs.OfLines.Turns.{so_many_lines}
use Rattle.rv_account.specs.state.resume.Laws.{HadRoom}
use Rattle.rv_account.specs.state.resume.Resuming.{StaysInRoom}
use Rattle.rv_account.specs.rules.Legal.{Legal, before}
use Rattle.rv_account.proofs.OfRules.Fronts.{Legal-before}
use Rattle.rv_account.specs.state.After.{state_of}
use Rattle.rv_account.proofs.OfState.Agreed.{state_pushed}
use Rattle.rv_verify.specs.Laws.{LegalIsNoted}
use Rattle.rv_verify.specs.Noting.{IsLongestLegal}
use Rattle.rv_verify.specs.Reading.{IsBadAt}
use Rattle.rv_verify.specs.Standing.{HasRead, IsStopAt, StandsAt, StopsBehind}
use Rattle.rv_verify.specs.Verdicts.{ReadsLong, long_limits}
use Rattle.rv_verify.specs.declared.verifier.StopReason.{StopReason}
use Rattle.rv_verify.specs.declared.verifier.StopReason.TheVariants as stop
use Rattle.rv_verify.specs.declared.verifier.Verifier.{Verifier}
use Rattle.rv_verify.proofs.Fronts.{legal_is_no_fault}
use Rattle.rv_verify.proofs.Telling.{bound, bound_named, front, front_more}

-- with the entry that stops a verifier an account isn't legal, or its state has no room
stops : (p : Account) (e : Entry) (reason : StopReason) → Legal p → IsStopAt (state_of p) e reason
    → Legal (with_entry p e) → StaysInRoom (state_of (with_entry p e)) → ⊥
stops p e (stop.Breaks rule) legal broken more room =
    let told = bound p e rule legal broken tells.Legal more in legal_is_no_fault (length p.entries) told.0
    told.1
stops p e (stop.NotOpen entry) legal closed more room =
    let told = bound_named p e legal closed.0 tells.Legal more in legal_is_no_fault (length p.entries) told.0
    told.1
stops p e stop.BeyondLimits legal passes more room =
    passes.beyond (subst StaysInRoom (state_pushed p e) room)

module _ (lines : List (List ℕ)) (p a : Account) (reads : ReadsLong lines a) (legal : Legal p)
    (had_room : HadRoom p) where
  all_lines : a ≡ p → IsLongestLegal lines p
  all_lines same = record {
    front = length lines;
    within = omega arith;
    read = subst (λ ls. ReadsLong ls p) (sym (take_all (length lines) lines (omega arith)))
        (subst (ReadsLong lines) same reads);
    legal = legal;
    had_room = had_room;
    longest = λ n other more most. absurd (omega (arith, more, most));
  }

  module _ (reason : StopReason) (behind : StopsBehind p a reason) where
    abbrev many : ℕ
    many = length p.entries

    no_longer : (n : ℕ) (other : Account) → many + 1 < n → ReadsLong (take n lines) other → Legal other
        → ¬ HadRoom other
    no_longer zero other more read legal' room = absurd (omega (arith, more))
    no_longer (suc m) other more read legal' room =
        let same : other ≡ before a m =
        account_one long_limits (take (suc m) lines) other (before a m) read
        (front_read_as long_limits m lines a reads) in
        let with_it : before other (many + 1) ≡ with_entry p behind.entry =
        ap (λ (x : Account). before x (many + 1)) same ∙ front_of_front_account m more
        ∙ front_more lines p a reads reason legal had_room behind in
        stops p behind.entry reason legal behind.is_stop
        (subst Legal with_it (Legal-before other (many + 1) legal'))
        (subst (λ (x : Account). StaysInRoom (state_of x)) with_it (room.room (many + 1)))
      where
        front_of_front_account : (m : ℕ) → many + 1 < suc m
            → before (before a m) (many + 1) ≡ before a (many + 1)
        front_of_front_account m more =
            let entries = take-take (many + 1) m a.entries (omega (arith, more)) in
            λ i. record { epoch = a.epoch; opened = a.opened; entries = entries i }

    some_lines : IsLongestLegal lines p
    some_lines = record {
      front = suc many;
      within = omega (
        arith,
        so_many_lines long_limits lines a reads,
        ap length behind.entries,
        length-append p.entries (behind.entry ∷ behind.more),
      );
      read = subst (ReadsLong (take (suc many) lines)) (front lines p a reads reason legal had_room behind)
          (front_read_as long_limits many lines a reads);
      legal = legal;
      had_room = had_room;
      longest = λ n other more most. no_longer n other (omega (arith, more));
    }

  longest_by : (reason : Option StopReason) → StandsAt p a reason → IsLongestLegal lines p
  longest_by None same = all_lines same
  longest_by (Some reason) behind = some_lines reason behind

pub passed_longest : (lines : List (List ℕ)) (v : Verifier) (has : HasRead lines v)
    → IsLongestLegal lines has.passed
passed_longest lines v has =
    longest_by lines has.passed has.account has.read has.holds.legal has.holds.had_room v.stop has.stands

-- so it is of more lines, of which the next is bad
pub longest_bad : (lines : List (List ℕ)) (n : ℕ) (a : Account) → IsBadAt lines n
    → IsLongestLegal (take (n - 1) lines) a → IsLongestLegal lines a
longest_bad lines n a bad of =
    let few : of.front ≤ n - 1 = omega (arith, of.within, length-take (n - 1) lines) in
    record {
      front = of.front;
      within = omega (arith, few, bad.among);
      read = subst (λ ls. ReadsLong ls a) (front_of_front of.front (n - 1) lines few) of.read;
      legal = of.legal;
      had_room = of.had_room;
      longest = λ m other more most read. elim (cases_lt m n) [
        | inl less ↦
            of.longest m other more (omega (arith, less, bad.among, length-take (n - 1) lines))
            (subst (λ ls. ReadsLong ls other) (sym (front_of_front m (n - 1) lines (omega (arith, less))))
            read)
        | inr past ↦
            let front = front_read long_limits n (take m lines) other bad.bad.from_one read in
            absurd (bad.bad.read_no_more front.0
            (subst (λ ls. ReadsLong ls front.0) (front_of_front n m lines (omega (arith, past))) front.1))
      ];
    }

-- of a legal account it is all lines
pub legal_is_noted : LegalIsNoted
legal_is_noted lines a noted reads legal room of = elim (cases_lt of.front (length lines)) [
  | inl less ↦
      absurd (of.longest (length lines) a less (omega arith)
      (subst (λ ls. ReadsLong ls a) (sym (take_all (length lines) lines (omega arith))) reads) legal room)
  | inr past ↦
      account_one long_limits lines noted a
      (subst (λ ls. ReadsLong ls noted) (take_all of.front lines (omega (arith, past))) of.read) reads
]
