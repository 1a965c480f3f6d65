-- A machine that was opened holds the account whose journal has its first line alone.
use Rattle.std.proofs.Common.{◌≡◌, ◌≤◌, ◌∙◌, ℕ, List, [], None, Some, zero, suc, ap, arith, refl, slice_get}
use Rattle.std.proofs.Common.{subst, sym, take}
use Rattle.rv_account.specs.Account.{Account}
use Rattle.rv_account.specs.Limits.{max_moment}
use Rattle.rv_account.specs.declared.entry.Entry.{Entry}
use Rattle.rv_journal.specs.Device.{Disk}
use Rattle.rv_journal.specs.Journal.{IsDurable, journal_text}
use Rattle.rv_book.specs.lines.Lines.{printed_lines}
use Rattle.rv_book.specs.lines.Written.{FitsLinesUnder, account_lines}
use Rattle.rv_book.proofs.OfLines.ReadBack.{lines_again}
use Rattle.rv_machine.specs.Machines.{state_in}
use Rattle.rv_machine.specs.declared.machine.Machine.{Machine}
use Rattle.rv_account.specs.rules.Legal.{Legal}
use Rattle.rv_account.specs.rules.Steps.{capped_moment}
use Rattle.rv_account.proofs.OfRules.Words.{none-some}
use Rattle.rv_account.specs.state.After.{state_of}
use Rattle.rv_account.specs.state.State.{State, opening}
use Rattle.rv_account.specs.state.resume.Resuming.{CanResume, StaysInRoom}
use Rattle.rv_account.proofs.OfState.Resumed.ResumeLaws.{openings_resume}
use Rattle.rv_text.specs.Limits.{FitsIdentifier}
use Rattle.rv_verify.specs.Verdicts.{long_limits}
use Rattle.rv_store.specs.Entered.{IsStored}
use Rattle.rv_store.specs.Format.{first_text}
use Rattle.rv_store.specs.Lasting.{journal_of}
use Rattle.rv_store.specs.Reading.{HoldsJournal}
use Rattle.rv_store.specs.declared.opening.StoredAccount.{StoredAccount}

none_there : (j : ℕ) (e : Entry) → slice_get [] j ≡ Some e → ⊥
none_there zero e there = none-some e there
none_there (suc j) e there = none-some e there

module _ (epoch opened : ℕ) (fits : FitsIdentifier epoch) (small : opened ≤ max_moment) where
  abbrev new : Account
  new = record { epoch = epoch; opened = opened; entries = [] }

  new_legal : Legal new
  new_legal j e there = absurd (none_there j e there)

  room_at : (j : ℕ) → StaysInRoom (state_of (record { epoch = epoch; opened = opened; entries = take j [] }))
  room_at zero = (openings_resume epoch opened fits small).room
  room_at (suc j) = (openings_resume epoch opened fits small).room

  new_fits : FitsLinesUnder long_limits new
  new_fits = record {
    epoch = fits;
    opened = small;
    entries = λ r e there. absurd (none_there r e there);
    places = λ r e there. absurd (none_there r e there);
    few = omega arith;
  }

  capped : capped_moment opened ≡ opened
  capped = omega (arith, small)

  pub opening_is : (s : State) → s ≡ opening epoch (capped_moment opened) → s ≡ opening epoch opened
  opening_is s is = is ∙ ap (opening epoch) capped

  pub resumes_new : (s : State) → s ≡ opening epoch (capped_moment opened) → CanResume s
  resumes_new s is = subst CanResume (sym (opening_is s is)) (openings_resume epoch opened fits small)

  pub holds_new : (machine : Machine) → state_in machine ≡ opening epoch opened
      → HoldsJournal epoch (first_text epoch opened) machine
  holds_new machine is = record {
    account = printed_lines (account_lines new);
    is = refl;
    holds = record {
      account = new;
      read = lines_again long_limits new (omega arith) new_fits;
      holds = record {
        state = is;
        legal = new_legal;
        had_room = record {
          epoch = fits;
          opened = small;
          entries = λ r e there. absurd (none_there r e there);
          room = room_at;
        };
      };
    };
    epoch_is = ap (λ (s : State). s.epoch) is;
  }

  -- so what was stored of it is what it holds
  pub stored_new : {D : Type 0} (disk : Disk D) (stored : StoredAccount D)
      → state_in stored.machine ≡ opening epoch (capped_moment opened)
      → journal_text disk (journal_of stored.journal) ≡ first_text epoch opened
      → IsDurable disk (journal_of stored.journal) → IsStored disk None stored
  stored_new {D = D} disk stored is text durable = record {
    holds = λ none. subst (λ (l : List ℕ). HoldsJournal (state_in stored.machine).epoch l stored.machine)
        (sym text)
        (subst (λ (n : ℕ). HoldsJournal n (first_text epoch opened) stored.machine)
        (sym (ap (λ (s : State). s.epoch) (opening_is (state_in stored.machine) is)))
        (holds_new stored.machine (opening_is (state_in stored.machine) is)));
    durable = durable;
  }
