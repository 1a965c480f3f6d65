-- The numbers of sessions stay as they should where one is told its reply, or put.
use Rattle.std.proofs.Common.{◌≡◌, ◌∙◌, ℕ, Option, Some, None, inl, inr, refl, sym, ap, subst}
use Rattle.std.proofs.lemmas.Bool.{cases_eq}
use Rattle.std.specs.FinMap.{FinMap, get, insert}
use Rattle.std.specs.Ordering.{nat_cmp}
use Rattle.rv_text.specs.declared.answer.Reply.{Reply}
use Rattle.rv_session.specs.declared.client.LastRequest.{LastRequest}
use Rattle.rv_session.specs.declared.client.LastRequest.TheVariants.{Fresh, Waits, RepliedTo, CancelledUnseen}
use Rattle.rv_session.specs.Clients.{answered, insert_known, with_request}
use Rattle.rv_account.specs.state.State.{ClientState, State}
use Rattle.rv_account.specs.state.After.{Settled, tell, with_client}
use Rattle.rv_account.proofs.OfState.TableClients.{clients_after_tell}
use Rattle.rv_account.proofs.OfState.Words.{same_Some}
use Rattle.rv_machine.specs.declared.tables.Holdings.{Holdings}
use Rattle.rv_machine.specs.Ending.{EndsWaiting}
use Rattle.rv_machine.specs.Machines.{state_in}
use Rattle.rv_machine.specs.Numbering.{AreNumbered, IsNumbered}
use Rattle.rv_account.proofs.OfState.Resumed.Sessions.{put_other, put_own}

abbrev pub AllNumbered : FinMap nat_cmp ClientState → Type 0
AllNumbered clients = (client : ℕ) (session : ClientState) → get clients client ≡ Some session
    → IsNumbered session

pub put_in : (clients : FinMap nat_cmp ClientState) (client : ℕ) (session : ClientState) → AllNumbered clients
    → IsNumbered session → AllNumbered (insert clients client session)
put_in clients client session all its other x there = elim (cases_eq other client) [
  | inl same ↦
      subst IsNumbered
      (same_Some _ _ (sym (put_own clients client session)
      ∙ ap (get (insert clients client session)) (sym same) ∙ there)) its
  | inr apart ↦ all other x (sym (put_other clients client other session apart) ∙ there)
]

-- a session of these numbers enters
pub put_numbered : (s : State) (client : ℕ) (session : ClientState) → AreNumbered s → IsNumbered session
    → AreNumbered (with_client s client session)
put_numbered s client session all its = put_in s.clients client session all its

answered_fresh : (reply : Reply) (request : LastRequest) → answered reply request ≡ Fresh → request ≡ Fresh
answered_fresh reply Fresh is = refl
answered_fresh reply (Waits place call) is = cc
answered_fresh reply (RepliedTo call other) is = cc
answered_fresh reply CancelledUnseen is = cc

known_in : (clients : FinMap nat_cmp ClientState) (client : ℕ) (reply : Reply) (o : Option ClientState)
    → get clients client ≡ o → AllNumbered clients
    → AllNumbered (insert_known clients client (λ x. with_request x (answered reply x.request)) o)
known_in clients client reply None is all = all
known_in clients client reply (Some x) is all =
    put_in clients client (with_request x (answered reply x.request)) all
    (record {
      unasked = λ none. ap (answered reply) ((all client x is).unasked none);
      zero = λ fresh. (all client x is).zero (answered_fresh reply x.request fresh);
    })

pub tell_numbered : (clients : FinMap nat_cmp ClientState) (settled : Settled) → AllNumbered clients
    → AllNumbered (tell clients settled)
tell_numbered clients settled all =
    subst AllNumbered (sym (clients_after_tell clients settled))
    (known_in clients settled.key.client settled.reply (get clients settled.key.client) refl all)

-- a wait is over
pub closed_numbered : (s t : State) (settled : Settled) → t.clients ≡ tell s.clients settled → AreNumbered s
    → AreNumbered t
closed_numbered s t settled is all = subst AllNumbered (sym is) (tell_numbered s.clients settled all)

pub ended_numbered : (old new : Holdings) (place : ℕ) (reply : Reply) → EndsWaiting old new place reply
    → AreNumbered (state_in old) → AreNumbered (state_in new)
ended_numbered old new place reply ends =
    closed_numbered (state_in old) (state_in new) (record { key = ends.waiter.key; reply = reply })
    (ap (λ (s : State). s.clients) ends.state)
