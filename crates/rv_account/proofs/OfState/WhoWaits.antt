-- A state tells the line of each side, who waits and for whom, what is due, and how many there are.
use Rattle.std.proofs.Common.{◌≡◌, ℕ, Option, Some, None, refl, subst}
use Rattle.rv_account.specs.Account.{Account, Among}
use Rattle.rv_account.specs.rules.Legal.{IsDueAt, Legal}
use Rattle.rv_account.specs.state.State.{OpenPlace, State, client_waits, place_list}
use Rattle.rv_account.specs.state.After.{due_at}
use Rattle.rv_account.specs.state.Agreement.{IsStateOf, SaysWaits, TellsWaiting, ClientWaitsAt}
use Rattle.rv_account.proofs.OfRules.Waits.{one_waits}
use Rattle.rv_account.proofs.OfState.Counted.{clients_number, waiter_there, wait_queues_number, with_waiter}
use Rattle.rv_account.proofs.OfState.Due.{due_found, due_there}
use Rattle.rv_account.proofs.OfState.GoneBy.{names_of}
use Rattle.rv_account.proofs.OfState.PlacesLeft.{among_place, place_among}
use Rattle.rv_account.proofs.OfState.Sessions.{ClientWaits, client_waits_there, none_waits_there}
use Rattle.rv_account.proofs.OfState.SideLines.{line_is}

module _ (a : Account) (s : State) (legal : Legal a) (state : IsStateOf a s) where
  says_by : (client place : ℕ) (o : Option OpenPlace) → client_waits s client ≡ o
      → ClientWaitsAt a.entries client place
      → (there : OpenPlace) × (client_waits s client ≡ Some there) × (there.place ≡ place)
  says_by client place None is waits =
      absurd (none_waits_there a s client legal state is
      (record { place = place; key = waits.key; waits = waits.waits; names = waits.names }))
  says_by client place (Some there) is waits =
      (there, is, waits_at client place there waits (client_waits_there a s client there legal state is))
    where
      waits_at : (n r : ℕ) (o : OpenPlace) → ClientWaitsAt a.entries n r → ClientWaits a n o → o.place ≡ r
      waits_at n r o of found =
          let names = names_of a.entries n o.place found.key found.call found.arrived found.of_client in
          one_waits a n o.place r found.key of.key legal found.waits of.waits names of.names

  waits_by : (client place : ℕ) → SaysWaits s client place → ClientWaitsAt a.entries client place
  waits_by client place (there, is, at) =
      let found : ClientWaits a client there = client_waits_there a s client there legal state is in
      subst (ClientWaitsAt a.entries client) at (record {
        key = found.key;
        waits = found.waits;
        names = names_of a.entries client there.place found.key found.call found.arrived found.of_client;
      })

  found_due : (moment r : ℕ) → IsDueAt a.entries moment r → Among (place_list (due_at s moment)) r
  found_due moment r due =
      let found = due_found a s moment r state due in
      subst (Among (place_list (due_at s moment))) found.3
      (among_place (due_at s moment) found.0 found.1 found.2)

  due_among : (moment r : ℕ) → Among (place_list (due_at s moment)) r → IsDueAt a.entries moment r
  due_among moment r among =
      let found = place_among (due_at s moment) r among in
      subst (IsDueAt a.entries moment) found.at_place
      (due_there a s moment found.i found.there state found.stands)

  pub tells_waiting : TellsWaiting a s
  tells_waiting =
      record {
        lines = line_is a s state;
        waiting = λ i there at. (waiter_there a s state i there at, with_waiter a s state i there at);
        of_client = λ client place. (
          says_by client place (client_waits s client) refl,
          waits_by client place,
        );
        due = λ moment r. (found_due moment r, due_among moment r);
        number = wait_queues_number a s state;
        clients = clients_number a s state;
      }
