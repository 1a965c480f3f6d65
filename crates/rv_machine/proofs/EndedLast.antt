-- A client's last request, which waited, was ended: it was found by its client, who waits nowhere now.
use Rattle.std.proofs.Common.{◌≡◌, ◌<◌, ◌≤◌, ◌∙◌, ◌+◌, ℕ, Option, Some, None, IsSome, refl, sym, ap, subst}
use Rattle.std.proofs.Common.{arith}
use Rattle.std.specs.Prelude.{option_and_then}
use Rattle.std.specs.FinMap.{FinMap, get}
use Rattle.std.specs.Ordering.{nat_cmp}
use Rattle.rv_text.specs.declared.call.Call.{Call}
use Rattle.rv_text.specs.declared.answer.Reply.{Reply}
use Rattle.rv_session.specs.declared.client.LastRequest.{LastRequest}
use Rattle.rv_session.specs.declared.client.LastRequest.TheVariants.{Fresh, Waits, RepliedTo, CancelledUnseen}
use Rattle.rv_session.specs.Clients.{answered, clients_told, place_waiting, with_request}
use Rattle.rv_machine.specs.open_places.OpenMap.{most_counted}
use Rattle.rv_account.specs.state.State.{ClientState, OpenPlace, State, Waiter, client_at, client_waits}
use Rattle.rv_account.specs.state.State.{open_at}
use Rattle.rv_account.proofs.OfState.TableClients.{clients_after_tell}
use Rattle.rv_account.proofs.OfState.Words.{none-some, same_Some}
use Rattle.rv_machine.specs.declared.tables.Holdings.{Holdings}
use Rattle.rv_machine.specs.Ending.{EndsWaiting}
use Rattle.rv_machine.specs.Entering.{WaitsForNothing}
use Rattle.rv_machine.specs.open_places.Indexed.{WaitsIn}
use Rattle.rv_machine.specs.Machines.{IsConsistent, IsWhole, AwaitsPlace, state_in}
use Rattle.rv_machine.specs.open_places.OpenMap.{count_waiting}
use Rattle.rv_machine.proofs.EndingOne.{less_waits}
use Rattle.rv_machine.proofs.Told.{told_own}

abbrev ClientMap : Type 0
ClientMap = FinMap nat_cmp ClientState

-- ---- requests

waits_of : (r : LastRequest) (place : ℕ) → place_waiting r ≡ Some place
    → (call : Call) × (r ≡ Waits place call)
waits_of Fresh place is = absurd (none-some place is)
waits_of (Waits at call) place is = (call, ap (λ p. Waits p call) (same_Some _ _ is))
waits_of (RepliedTo call reply) place is = absurd (none-some place is)
waits_of CancelledUnseen place is = absurd (none-some place is)

answered_idle : (reply : Reply) (r : LastRequest) → place_waiting (answered reply r) ≡ None
answered_idle reply Fresh = refl
answered_idle reply (Waits place call) = refl
answered_idle reply (RepliedTo call other) = refl
answered_idle reply CancelledUnseen = refl

-- ---- clients

idle_by : (s : State) (client : ℕ) (o : Option ClientState)
    → ((x : ClientState) → o ≡ Some x → place_waiting x.request ≡ None)
    → option_and_then (open_at s) (option_and_then (λ c. place_waiting c.request) o) ≡ None
idle_by s client None idle = refl
idle_by s client (Some x) idle = ap (option_and_then (open_at s)) (idle x refl)

-- nothing waits of a client that waits nowhere
pub idle_waits : (s : State) (client : ℕ) → WaitsForNothing s client → client_waits s client ≡ None
idle_waits s client idle = idle_by s client (client_at s client) idle

pub waits_for : (s : State) → IsConsistent s → (client place : ℕ) (x : ClientState)
    → client_at s client ≡ Some x → place_waiting x.request ≡ Some place → AwaitsPlace s client place
waits_for s is client place x known waits =
    let at = waits_of x.request place waits in is.clients client x place at.0 known at.1

pub waits_in : (s : State) (client place : ℕ) → AwaitsPlace s client place → WaitsIn s.open_places place
waits_in s client place waits = record {
  there = waits.there;
  found = waits.found;
  waits = subst (λ (o : Option Waiter). IsSome o) (sym waits.waits) refl;
}

module _ (old new : Holdings) (ready : IsWhole old) (client place : ℕ) (reply : Reply) (x : ClientState)
    (known : client_at (state_in old) client ≡ Some x) (waits : place_waiting x.request ≡ Some place)
    (ends : EndsWaiting old new place reply) where
  its : AwaitsPlace (state_in old) client place
  its = waits_for (state_in old) ready.consistent client place x known waits

  pub client_is : ends.waiter.key.client ≡ client
  client_is =
      let same : its.there ≡ ends.there = same_Some _ _ (sym its.found ∙ ends.found) in
      let waiter : its.waiter ≡ ends.waiter =
      same_Some _ _ (sym its.waits ∙ ap (λ (o : OpenPlace). o.waiter) same ∙ ends.waits) in
      ap (λ (w : Waiter). w.key.client) (sym waiter) ∙ its.client_is

  pub found_waiting : client_waits (state_in old) client ≡ Some ends.there
  found_waiting =
      ap (λ (o : Option ClientState). option_and_then (open_at (state_in old))
      (option_and_then (λ c. place_waiting c.request) o)) known
      ∙ ap (option_and_then (open_at (state_in old))) waits
      ∙ ends.found

  pub known_after : client_at (state_in new) client ≡ Some (with_request x (answered reply x.request))
  known_after =
      ap (λ (s : State). client_at s client) ends.state
      ∙ ap (λ (m : ClientMap). get m client)
      (clients_after_tell old.clients.clients (record { key = ends.waiter.key; reply = reply }))
      ∙ ap (λ n. get (clients_told old.clients.clients n reply) client) client_is
      ∙ told_own old.clients.clients client reply x known

  pub idle_after : WaitsForNothing (state_in new) client
  idle_after y there =
      ap (λ (z : ClientState). place_waiting z.request) (same_Some _ _ (sym there ∙ known_after))
      ∙ answered_idle reply x.request

-- ---- space

pub space_after : (old new : Holdings) (ready : IsWhole old) (place : ℕ) (reply : Reply)
    → EndsWaiting old new place reply → new.length + count_waiting new.table < most_counted
space_after old new ready place reply ends =
    let less = less_waits (state_in old) ready.consistent place ends.there ends.waiter reply ends.found
    ends.waits in
    let opens = ap (λ (s : State). count_waiting s.open_places) ends.state in
    let length = ap (λ (s : State). s.length) ends.state in
    let most : old.length + count_waiting old.table ≤ most_counted = ready.consistent.space in
    omega (arith, less, opens, length, most)
