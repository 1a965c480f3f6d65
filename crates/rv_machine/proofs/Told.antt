-- A map of clients where one was told its reply, or asked its next number.
use Rattle.std.proofs.Common.{◌≡◌, ◌≢◌, ◌∙◌, ℕ, Option, Some, None, refl}
use Rattle.std.proofs.Common.{ap}
use Rattle.std.specs.FinMap.{get}
use Rattle.rv_text.specs.declared.message.Key.{Key}
use Rattle.rv_text.specs.declared.answer.Reply.{Reply}
use Rattle.rv_session.specs.declared.client.ClientState.{ClientState}
use Rattle.rv_session.specs.declared.client.LastRequest.{LastRequest}
use Rattle.rv_session.specs.Clients.{answered, clients_asked, clients_told, insert_known, with_last_number}
use Rattle.rv_session.specs.Clients.{with_request}
use Rattle.rv_account.proofs.OfState.Resumed.Sessions.{ClientMap, put_other, put_own}

known_own : (m : ClientMap) (client : ℕ) (becomes : ClientState → ClientState) (session : ClientState)
    → get m client ≡ Some session
    → get (insert_known m client becomes (get m client)) client ≡ Some (becomes session)
known_own m client becomes session known =
    ap (λ o. get (insert_known m client becomes o) client) known ∙ put_own m client (becomes session)

known_other : (m : ClientMap) (client other : ℕ) (becomes : ClientState → ClientState)
    (o : Option ClientState)
    → other ≢ client → get (insert_known m client becomes o) other ≡ get m other
known_other m client other becomes None apart = refl
known_other m client other becomes (Some session) apart = put_other m client other (becomes session) apart

pub told_own : (m : ClientMap) (client : ℕ) (reply : Reply) (session : ClientState)
    → get m client ≡ Some session
    → get (clients_told m client reply) client ≡ Some (with_request session (answered reply session.request))
told_own m client reply session known =
    known_own m client (λ state. with_request state (answered reply state.request)) session known

pub told_other : (m : ClientMap) (client other : ℕ) (reply : Reply) → other ≢ client
    → get (clients_told m client reply) other ≡ get m other
told_other m client other reply apart =
    known_other m client other (λ state. with_request state (answered reply state.request)) (get m client)
    apart

pub asked_own : (m : ClientMap) (key : Key) (request : LastRequest) (session : ClientState)
    → get m key.client ≡ Some session
    → get (clients_asked m key request) key.client ≡ Some (with_last_number session key.number request)
asked_own m key request session known =
    known_own m key.client (λ state. with_last_number state key.number request) session known

pub asked_other : (m : ClientMap) (key : Key) (other : ℕ) (request : LastRequest) → other ≢ key.client
    → get (clients_asked m key request) other ≡ get m other
asked_other m key other request apart =
    known_other m key.client other (λ state. with_last_number state key.number request) (get m key.client)
    apart
