-- The last requests of clients after an entry: that of its own key, and those of the clients that it doesn't
-- name, which are told at most.
use Rattle.rv_account.proofs.OfState.Words.{◌≡◌, ◌∙◌, ℕ, [], Option, Some, None, option_map, sym, ap}
use Rattle.rv_account.proofs.OfState.Words.{none-some}
use Rattle.rv_account.proofs.OfState.Words.{same_Some, Key, ClientState}
use Rattle.rv_account.proofs.OfState.Words.{LastRequest}
use Rattle.rv_account.proofs.OfState.Words.{OpenPlace, State, client_at, client_waits, CancelledUnseen, acted}
use Rattle.rv_account.proofs.OfState.Words.{cancelled}
use Rattle.rv_account.proofs.OfState.Words.{with_last, refl}
use Rattle.rv_account.specs.declared.entry.Act.{Act}
use Rattle.rv_account.specs.declared.entry.Act.TheVariants.{Arrive, Cancel, Hello, Tick}
use Rattle.rv_account.specs.state.After.{tell_all}
use Rattle.rv_account.proofs.OfState.ToldClients.{get_other, get_own, get_tell_all, told_client}
use Rattle.rv_book.specs.reply_cache.Keeping.{client_of}

-- ---- the request of its own key

pub asked_request : (t : State) (key : Key) (request : LastRequest) (o : Option ClientState)
    → client_at t key.client ≡ o → (session : ClientState)
    → client_at (with_last t key request o) key.client ≡ Some session → session.request ≡ request
asked_request t key request None there session is = absurd (none-some session (sym there ∙ is))
asked_request t key request (Some client) there session is =
    let own = get_own t.clients key.client
    (record {
      incarnation = client.incarnation;
      version = client.version;
      last = key.number;
      request =
          request;
    })
    key.client refl in
    ap (λ (c : ClientState). c.request) (same_Some _ _ (sym is ∙ own))

-- ---- clients that the entry doesn't name

asked_other : (t : State) (key : Key) (request : LastRequest) (o : Option ClientState) (client : ℕ)
    → (Some key.client ≡ Some client → ⊥)
    → client_at (with_last t key request o) client ≡ client_at t client
asked_other t key request None client other = refl
asked_other t key request (Some session) client other =
    get_other t.clients key.client
    (record {
      incarnation = session.incarnation;
      version = session.version;
      last = key.number;
      request = request;
    }) client (λ same. other (sym (ap Some same)))

cancelled_other : (s : State) (key : Key) (client : ℕ) (o : Option OpenPlace)
    → (Some key.client ≡ Some client → ⊥)
    → client_at (cancelled s key o).after client
    ≡ option_map (told_client (cancelled s key o).settles client) (client_at s client)
cancelled_other s key client None other =
    asked_other s key CancelledUnseen (client_at s key.client) client other
    ∙ get_tell_all [] s.clients client
cancelled_other s key client (Some there) other =
    get_tell_all (cancelled s key (Some there)).settles s.clients client

-- they are told by those that are settled, if by anything
pub others_told : (s : State) (moment : ℕ) (does : Act) (client : ℕ) → (client_of does ≡ Some client → ⊥)
    → client_at (acted s moment does).after client
    ≡ option_map (told_client (acted s moment does).settles client) (client_at s client)
others_told s moment (Hello c i v) client other =
    let settles = (acted s moment (Hello c i v)).settles in
    get_other (tell_all s.clients settles) c _ client (λ same. other (sym (ap Some same)))
    ∙ get_tell_all settles s.clients client
others_told s moment (Arrive key call) client other =
    asked_other _ key _ _ client other
    ∙ get_tell_all (acted s moment (Arrive key call)).settles s.clients client
others_told s moment (Cancel key) client other =
    cancelled_other s key client (client_waits s key.client) other
others_told s moment Tick client other = get_tell_all (acted s moment Tick).settles s.clients client
