-- The state after an entry is that of the account with the entry.
use Rattle.rv_account.proofs.OfState.Words.{◌≡◌, ◌+◌, ◌∷◌, ◌++◌, ◌∙◌, ℕ, List, [], length, Option, Some}
use Rattle.rv_account.proofs.OfState.Words.{None, refl}
use Rattle.rv_account.proofs.OfState.Words.{sym, ap, arith, option_map, slice_get, Key, Act, Hello, Arrive}
use Rattle.rv_account.proofs.OfState.Words.{Cancel}
use Rattle.rv_account.proofs.OfState.Words.{Tick, Entry, Account, own_moment, with_entry, get-append_end}
use Rattle.rv_account.proofs.OfState.Words.{ClientState}
use Rattle.rv_account.proofs.OfState.Words.{LastRequest, OpenPlace, State, client_at, client_waits, acted}
use Rattle.rv_account.proofs.OfState.Words.{cancelled}
use Rattle.rv_account.proofs.OfState.Words.{state_after, with_last, IsStateOf}
use Rattle.std.proofs.Common.{◌-◌, length-append}
use Rattle.std.specs.Prelude.{unwrap_or}
use Rattle.rv_account.proofs.OfState.ClientsAfter.{clients_after}
use Rattle.rv_account.proofs.OfState.Coming.{Comes}
use Rattle.rv_account.proofs.OfState.PlacesAfter.{arrivals_after, places_after}

-- a state of this epoch, after so many entries
pub record Keeps (s after : State) : Type 0 where
  pub epoch : after.epoch ≡ s.epoch
  pub length_is : after.length ≡ s.length

asked_keeps : (s t : State) (key : Key) (request : LastRequest) (o : Option ClientState) → Keeps s t
    → Keeps s (with_last t key request o)
asked_keeps s t key request None keeps = keeps
asked_keeps s t key request (Some client) keeps =
    record { epoch = keeps.epoch; length_is = keeps.length_is }

cancelled_keeps : (s : State) (key : Key) (there : Option OpenPlace) → Keeps s (cancelled s key there).after
cancelled_keeps s key None =
    asked_keeps s s key LastRequest.CancelledUnseen (client_at s key.client)
    (record { epoch = refl; length_is = refl })
cancelled_keeps s key (Some there) = record { epoch = refl; length_is = refl }

-- an act leaves the epoch, and counts no entry
acted_keeps : (s : State) (moment : ℕ) (does : Act) → Keeps s (acted s moment does).after
acted_keeps s moment (Hello client incarnation version) = record { epoch = refl; length_is = refl }
acted_keeps s moment (Arrive key call) =
    asked_keeps s _ key _ _ (record { epoch = refl; length_is = refl })
acted_keeps s moment (Cancel key) = cancelled_keeps s key (client_waits s key.client)
acted_keeps s moment Tick = record { epoch = refl; length_is = refl }

last_place : (es : List Entry) (e : Entry) → length (es ++ e ∷ []) - 1 ≡ length es
last_place es e = omega (arith, length-append es (e ∷ []))

pub own_last : (a : Account) (e : Entry) → own_moment (with_entry a e) ≡ e.moment
own_last a e =
    ap (λ (o : Option Entry). unwrap_or (option_map (λ x. x.moment) o) a.opened)
    (ap (slice_get (a.entries ++ e ∷ [])) (last_place a.entries e) ∙ get-append_end a.entries e)

pub stated : (a : Account) (s : State) (e : Entry) → Comes a s e
    → IsStateOf (with_entry a e) (state_after s e)
stated a s e comes =
    let keeps = acted_keeps s e.moment e.act in
    record {
      epoch = keeps.epoch ∙ comes.state.epoch;
      moment = sym (own_last a e);
      length = ap (λ n. n + 1) (keeps.length_is ∙ comes.state.length)
          ∙ sym (length-append a.entries (e ∷ []));
      in_order = places_after a s e comes;
      arrivals = arrivals_after a s e comes;
      clients = clients_after a s e comes;
    }
