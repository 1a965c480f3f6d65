-- The numbers of sessions stay as they should where a request arrives.
use Rattle.std.proofs.Common.{◌≢◌, ◌∷◌, [], ℕ, List, Option, Some, None, sym, subst, arith}
use Rattle.std.specs.FinMap.{FinMap, get}
use Rattle.std.specs.Ordering.{nat_cmp}
use Rattle.rv_text.specs.declared.call.Call.{Call}
use Rattle.rv_text.specs.declared.message.Key.{Key}
use Rattle.rv_text.specs.declared.answer.Reply.{Reply}
use Rattle.rv_account.specs.declared.entry.Entry.{Entry}
use Rattle.rv_account.specs.declared.entry.Act.TheVariants.{Arrive}
use Rattle.rv_session.specs.declared.client.LastRequest.{LastRequest}
use Rattle.rv_session.specs.declared.client.LastRequest.TheVariants.{Fresh}
use Rattle.rv_session.specs.Clients.{insert_known, with_last_number}
use Rattle.rv_account.specs.state.State.{ClientState, State}
use Rattle.rv_account.specs.state.After.{Settled, asked, closed, following, met_by, parked, request_after}
use Rattle.rv_account.specs.state.After.{settled_all}
use Rattle.rv_account.specs.state.After.{tell, tell_all, told_own, told_partner, with_open}
use Rattle.rv_account.specs.state.Follows.{NumberIsNext}
use Rattle.rv_account.proofs.OfState.TableClients.{clients_after_asked}
use Rattle.rv_machine.specs.declared.tables.Holdings.{Holdings}
use Rattle.rv_machine.specs.Arriving.{Arrives}
use Rattle.rv_machine.specs.Machines.{state_in}
use Rattle.rv_machine.specs.Numbering.{AreNumbered}
use Rattle.rv_machine.proofs.Numbered.{AllNumbered, put_in, tell_numbered}

tell_all_numbered : (clients : FinMap nat_cmp ClientState) (settles : List Settled) → AllNumbered clients
    → AllNumbered (tell_all clients settles)
tell_all_numbered clients [] all = all
tell_all_numbered clients (x ∷ settles) all =
    tell_all_numbered (tell clients x) settles (tell_numbered clients x all)

known_asked : (clients : FinMap nat_cmp ClientState) (key : Key) (request : LastRequest)
    (o : Option ClientState)
    → key.number ≢ 0 → request ≢ Fresh → AllNumbered clients
    → AllNumbered (insert_known clients key.client (λ x. with_last_number x key.number request) o)
known_asked clients key request None some came all = all
known_asked clients key request (Some x) some came all =
    put_in clients key.client (with_last_number x key.number request) all
    (record { unasked = λ none. absurd (some none); zero = λ fresh. absurd (came fresh) })

-- a session's next number is asked
pub asked_numbered : (s : State) (key : Key) (request : LastRequest) → key.number ≢ 0 → request ≢ Fresh
    → AreNumbered s → AreNumbered (asked s key request)
asked_numbered s key request some came all =
    subst AllNumbered (sym (clients_after_asked s key request))
    (known_asked s.clients key request (get s.clients key.client) some came all)

came_after : (place : ℕ) (call : Call) (told : Option Reply) → request_after place call told ≢ Fresh
came_after place call None is = cc
came_after place call (Some reply) is = cc

pub next_number : (s : State) (key : Key) → NumberIsNext s key → key.number ≢ 0
next_number s key is none = let next = is.next in omega arith

-- a request of this number arrives
pub arrived_numbered : (s : State) (moment : ℕ) (key : Key) (call : Call) → key.number ≢ 0 → AreNumbered s
    → AreNumbered (following s moment (Arrive key call)).after
arrived_numbered s moment key call some all =
    let met = met_by s call in
    let settles = settled_all (told_partner s key call) met in
    asked_numbered (with_open (closed s met settles) (parked s moment key call met)) key
    (request_after s.length call (told_own s key call met)) some
    (came_after s.length call (told_own s key call met)) (tell_all_numbered s.clients settles all)

pub arrives_numbered : (old new : Holdings) (moment : ℕ) (key : Key) (call : Call) (made : Entry)
    → NumberIsNext (state_in old) key → Arrives old new moment key call made → AreNumbered (state_in old)
    → AreNumbered (state_in new)
arrives_numbered old new moment key call made is arrives all =
    subst AreNumbered (sym arrives.state)
    (arrived_numbered (state_in old) moment key call (next_number (state_in old) key is) all)
