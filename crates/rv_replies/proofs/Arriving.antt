-- What the last request of an arrival's client is told again in the state after it: the arrival's own reply.
use Rattle.rv_replies.proofs.Words.{◌≡◌, ◌∙◌, List, None, Option, Some, ap, option_and_then, option_map}
use Rattle.rv_replies.proofs.Words.{refl, ℕ, Arrive, Reply, Call, Key, Settled, following, ClientState}
use Rattle.rv_replies.proofs.Words.{LastRequest, OpenPlace, State, client_at, with_last, told_again}
use Rattle.rv_replies.proofs.Words.{told_last_by}
use Rattle.rv_replies.proofs.Words.{met_by}
use Rattle.rv_account.specs.state.After.{closed, parked, request_after, settled_all, told_own, told_partner}
use Rattle.rv_account.specs.state.After.{with_open}
use Rattle.rv_account.specs.state.Follows.{NumberIsNext}
use Rattle.rv_account.proofs.OfState.ToldClients.{get_own, get_tell_all, told_client}

told_after : (place : ℕ) (call : Call) (told : Option Reply)
    → told_again (request_after place call told) ≡ told
told_after place call None = refl
told_after place call (Some reply) = refl

last_told : (s : State) (key : Key) (request : LastRequest) (o : Option ClientState) (was : ClientState)
    → o ≡ Some was
    → option_and_then (λ (c : ClientState). told_again c.request) (client_at (with_last s key request o)
    key.client)
    ≡ told_again request
last_told s key request None was known = absurd (let no : ⊥ = cc in no)
last_told s key request (Some session) was known =
    ap (option_and_then (λ (c : ClientState). told_again c.request))
    (get_own s.clients key.client
    (record {
      incarnation = session.incarnation;
      version = session.version;
      last = key.number;
      request = request;
    }) key.client refl)

pub own_told_in : (s : State) (moment : ℕ) (key : Key) (call : Call) → NumberIsNext s key
    → told_last_by (following s moment (Arrive key call)).after key ≡
    (following s moment (Arrive key call)).reply
own_told_in s moment key call next =
    let met : List OpenPlace = met_by s call in
    let settles : List Settled = settled_all (told_partner s key call) met in
    let opens : State = with_open (closed s met settles) (parked s moment key call met) in
    let own : Option Reply = told_own s key call met in
    last_told opens key (request_after s.length call own) (client_at opens key.client)
    (told_client settles key.client next.session)
    (get_tell_all settles s.clients key.client
    ∙ ap (option_map (told_client settles key.client)) next.of_session.there)
    ∙ told_after s.length call own
