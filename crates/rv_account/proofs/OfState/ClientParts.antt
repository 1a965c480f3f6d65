-- What a state says of a client: a session that is the account's, or that it said no hello.
use Rattle.rv_account.proofs.OfState.Words.{◌≡◌, ◌<◌, ◌≤◌, ◌∙◌, ℕ, Option, Some, None, refl, sym, subst}
use Rattle.rv_account.proofs.OfState.Words.{arith, Key}
use Rattle.rv_account.proofs.OfState.Words.{Account, Legal, HasIncarnation, LastNumber, SaidHello}
use Rattle.rv_account.proofs.OfState.Words.{one_incarnation}
use Rattle.rv_account.proofs.OfState.Words.{one_last_number, ClientState, State, client_at, InSession}
use Rattle.rv_account.proofs.OfState.Words.{IsClient}
use Rattle.rv_account.proofs.OfState.Words.{IsClientOrNew, IsStateOf}
use Rattle.rv_account.specs.rules.Sessions.{HasOnlyLower}
use Rattle.rv_account.proofs.OfRules.Histories.{hellos_at_most}
use Rattle.rv_account.proofs.OfRules.Versions.{opened_hello}
use Rattle.rv_account.specs.state.Follows.{IsNewIncarnation}

pub client_known : (a : Account) (s : State) (client : ℕ) (session : ClientState) → IsStateOf a s
    → client_at s client ≡ Some session → IsClient a client session
client_known a s client session state there = subst (IsClientOrNew a client) there (state.clients client)

pub client_new : (a : Account) (s : State) (client : ℕ) → IsStateOf a s → client_at s client ≡ None
    → SaidHello a.entries client → ⊥
client_new a s client state none = subst (IsClientOrNew a client) none (state.clients client)

-- who said a hello has a session
said_by : (a : Account) (s : State) (client : ℕ) (o : Option ClientState) → IsStateOf a s
    → client_at s client ≡ o → SaidHello a.entries client
    → (session : ClientState) × (client_at s client ≡ Some session)
said_by a s client None state is said = absurd (client_new a s client state is said)
said_by a s client (Some session) state is said = (session, is)

pub said_known : (a : Account) (s : State) (client : ℕ) → IsStateOf a s → SaidHello a.entries client
    → (session : ClientState) × (client_at s client ≡ Some session)
said_known a s client state said = said_by a s client (client_at s client) state refl said

abbrev pub has_said : (a : Account) (client incarnation : ℕ) → HasIncarnation a.entries client incarnation
    → SaidHello a.entries client
has_said a client incarnation has = (has.0, incarnation, has.1.version, has.1.hello)

-- the session's incarnation and last number are the account's
pub session_incarnation : (a : Account) (s : State) (client : ℕ) (session : ClientState) → IsStateOf a s
    → client_at s client ≡ Some session → HasIncarnation a.entries client session.incarnation
session_incarnation a s client session state there =
    let known = client_known a s client session state there in
    (known.opened.h, known.opened.last)

pub same_incarnation : (a : Account) (s : State) (client incarnation : ℕ) (session : ClientState)
    → IsStateOf a s → client_at s client ≡ Some session → HasIncarnation a.entries client incarnation
    → session.incarnation ≡ incarnation
same_incarnation a s client incarnation session state there has =
    one_incarnation a.entries client session.incarnation incarnation
    (session_incarnation a s client session state there) has

pub same_last : (a : Account) (s : State) (client last : ℕ) (session : ClientState) → IsStateOf a s
    → client_at s client ≡ Some session → LastNumber a.entries client last → session.last ≡ last
same_last a s client last session state there is =
    one_last_number a.entries client session.last last (client_known a s client session state there).last is

-- ---- only lower incarnations

pub above_to_lower : (a : Account) (s : State) (client incarnation : ℕ) → Legal a → IsStateOf a s
    → IsNewIncarnation s client incarnation → HasOnlyLower a.entries client incarnation
above_to_lower a s client incarnation legal state above r earlier version hello =
    let known = said_known a s client state (r, earlier, version, hello) in
    let most : earlier ≤ known.0.incarnation =
    hellos_at_most a client known.0.incarnation r earlier version legal
    (session_incarnation a s client known.0 state known.1) hello in
    let less : known.0.incarnation < incarnation = above known.0 known.1 in
    omega arith

pub lower_to_above : (a : Account) (s : State) (client incarnation : ℕ) → IsStateOf a s
    → HasOnlyLower a.entries client incarnation → IsNewIncarnation s client incarnation
lower_to_above a s client incarnation state lower session there =
    let known = client_known a s client session state there in
    lower known.opened.h session.incarnation session.version
    (opened_hello a.entries client session.incarnation session.version known.opened)

-- ---- a key's session

pub session_to_account : (a : Account) (s : State) (key : Key) (session : ClientState) → IsStateOf a s
    → InSession s key session → (key.epoch ≡ a.epoch) × HasIncarnation a.entries key.client key.incarnation
session_to_account a s key session state of = (
  of.epoch ∙ state.epoch,
  subst (HasIncarnation a.entries key.client) of.incarnation
      (session_incarnation a s key.client session state of.there),
)

pub account_to_session : (a : Account) (s : State) (key : Key) → IsStateOf a s → key.epoch ≡ a.epoch
    → HasIncarnation a.entries key.client key.incarnation → (session : ClientState) × InSession s key session
account_to_session a s key state epoch has =
    let known = said_known a s key.client state (has_said a key.client key.incarnation has) in (
      known.0,
      record {
        epoch = epoch ∙ sym state.epoch;
        there = known.1;
        incarnation = same_incarnation a s key.client key.incarnation known.0 state known.1 has;
      },
    )
