-- A verifier after the first line of an account.
use Rattle.std.proofs.Common.{◌≡◌, ◌≤◌, ◌∷◌, ◌∙◌, ℕ, zero, suc, List, [], None, Some, refl, sym, ap, subst}
use Rattle.std.proofs.Common.{arith}
use Rattle.std.proofs.Common.{slice_get, take}
use Rattle.rv_account.specs.Account.{Account}
use Rattle.rv_account.specs.Limits.{max_moment}
use Rattle.rv_account.specs.declared.entry.Entry.{Entry}
use Rattle.rv_machine.specs.Machines.{state_in}
use Rattle.rv_account.specs.state.resume.Resuming.{CanResume, StaysInRoom}
use Rattle.rv_account.proofs.OfState.Resumed.ResumeLaws.{openings_resume}
use Rattle.rv_account.specs.rules.Legal.{Legal}
use Rattle.rv_account.specs.rules.Steps.{capped_moment}
use Rattle.rv_account.proofs.OfRules.Words.{none-some}
use Rattle.rv_account.specs.state.After.{state_of}
use Rattle.rv_account.specs.state.State.{opening}
use Rattle.rv_text.specs.Limits.{FitsIdentifier}
use Rattle.rv_book.specs.lines.Reading.{ReadsHead}
use Rattle.rv_replies.specs.declared.records.Records.{Records}
use Rattle.rv_verify.specs.Stages.{AreNew, HasReadNoting}
use Rattle.rv_verify.specs.Standing.{CanReadOn, StandsAt}
use Rattle.rv_verify.specs.declared.verifier.Verifier.{Verifier}

nothing_there : (j : ℕ) (e : Entry) → slice_get [] j ≡ Some e → ⊥
nothing_there zero e there = none-some e there
nothing_there (suc j) e there = none-some e there

capped_is : (n : ℕ) → n ≤ max_moment → capped_moment n ≡ n
capped_is n small = omega arith

module _ (v : Verifier) (epoch opened : ℕ) (fits : FitsIdentifier epoch) (small : opened ≤ max_moment)
    (state : state_in v.machine ≡ opening epoch (capped_moment opened)) where
  is : state_in v.machine ≡ opening epoch opened
  is = state ∙ ap (opening epoch) (capped_is opened small)

  pub opens_ready : v.entries ≡ 0 → CanReadOn v
  opens_ready none = record {
    resumes = subst CanResume (sym is) (openings_resume epoch opened fits small);
    few = omega (arith, none);
  }

  legal : Legal (record { epoch = epoch; opened = opened; entries = [] })
  legal j e there = absurd (nothing_there j e there)

  room_at : (j : ℕ) → StaysInRoom (state_of (record { epoch = epoch; opened = opened; entries = take j [] }))
  room_at zero = (openings_resume epoch opened fits small).room
  room_at (suc j) = (openings_resume epoch opened fits small).room

  pub opens_read : v.entries ≡ 0 → v.stop ≡ None → (head : List ℕ) (r : Records) → ReadsHead head epoch opened
      → AreNew r → HasReadNoting (head ∷ []) v r
  opens_read none goes head r says are_new =
      let a : Account = record { epoch = epoch; opened = opened; entries = [] } in
      record {
        read = record {
          passed = a;
          holds = record {
            state = is;
            legal = legal;
            had_room = record {
              epoch = fits;
              opened = small;
              entries = λ r e there. absurd (nothing_there r e there);
              room = room_at;
            };
          };
          account = a;
          read = record {
            head = head;
            rest = [];
            parts = refl;
            says_head = says;
            says_entries = record { one_by_one = tt; not_too_many = omega arith };
          };
          counted = none;
          stands = subst (StandsAt a a) (sym goes) refl;
        };
        noted = are_new a refl;
      }
