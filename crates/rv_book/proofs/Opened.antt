-- An empty account, with the machine that holds its state and nothing that is kept, is sound.
use Rattle.std.proofs.Common.{◌≡◌, ◌≤◌, ◌∙◌, ℕ, [], refl, sym, ap, subst, arith}
use Rattle.std.proofs.lemmas.Option.{none-some}
use Rattle.std.specs.FinMap.{get, get-empty}
use Rattle.std.specs.Ordering.{nat_cmp}
use Rattle.rv_text.specs.Limits.{FitsIdentifier}
use Rattle.rv_account.specs.Account.{Account, Stored}
use Rattle.rv_account.specs.Limits.{max_moment}
use Rattle.rv_account.specs.rules.Legal.{Legal}
use Rattle.rv_account.specs.rules.Limits.{FitsAccount}
use Rattle.rv_account.specs.rules.Waiting.{Waiting}
use Rattle.rv_account.proofs.OfRules.Counting.{one_number}
use Rattle.rv_account.specs.rules.StepLimits.{max_clients}
use Rattle.rv_account.proofs.OfRules.FewClients.{few_none}
use Rattle.rv_account.specs.state.Agreement.{IsStateOf}
use Rattle.rv_account.specs.state.State.{State, opening, waiting_count}
use Rattle.rv_account.proofs.OfState.Agreed.{agreed}
use Rattle.rv_account.proofs.OfState.WhoWaits.{tells_waiting}
use Rattle.rv_book.specs.reply_cache.Table.{KeptTable}
use Rattle.rv_machine.specs.Machines.{state_in}
use Rattle.rv_machine.specs.declared.machine.Machine.{Machine}
use Rattle.rv_book.specs.Tables.{IsSound}

abbrev pub empty_account : ℕ → ℕ → Account
empty_account epoch opened = record { epoch = epoch; opened = opened; entries = [] }

module _ (epoch opened : ℕ) (identifier : FitsIdentifier epoch) (time : opened ≤ max_moment) where
  legal : Legal (empty_account epoch opened)
  legal j e there = absurd (none-some e there)

  state : IsStateOf (empty_account epoch opened) (opening epoch opened)
  state = agreed (empty_account epoch opened) legal

  fits : FitsAccount (empty_account epoch opened)
  fits = record {
    epoch = identifier;
    opened = time;
    entries = λ r e there. absurd (none-some e there);
    room = λ waiting count.
        let none : waiting ≡ 0 = one_number (Waiting []) waiting 0 count
        (tells_waiting (empty_account epoch opened) (opening epoch opened) legal state).number in
        omega (arith, none);
    clients = few_none max_clients [] refl;
  }

  pub opened_sound : (stored : Stored) (m : Machine) (table : KeptTable)
      → stored.account ≡ empty_account epoch opened → state_in m ≡ opening epoch opened
      → IsSound (record { account = stored; machine = m; kept = table })
  opened_sound stored m table is holds = record {
    legal = subst Legal (sym is) legal;
    fits = subst FitsAccount (sym is) fits;
    stands = subst (λ (x : Account). IsStateOf x (state_in m)) (sym is)
        (subst (IsStateOf (empty_account epoch opened)) (sym holds) state);
    kept = λ client session there. absurd (none-some session
        (sym (get-empty nat_cmp client) ∙ ap (λ (s : State). get s.clients client) (sym holds) ∙ there));
    spare = let none : waiting_count (state_in m) ≡ 0 = ap waiting_count holds in omega (arith, none);
  }
