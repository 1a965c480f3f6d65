-- A client that a state finds is the account's, and it finds each that said a hello.
use Rattle.rv_account.proofs.OfState.Words.{◌≡◌, ℕ, Option, Some, None, refl, subst, Account, SaidHello}
use Rattle.rv_account.proofs.OfState.Words.{ClientState}
use Rattle.rv_account.proofs.OfState.Words.{IsClient, IsClientOrNew}

-- what is found is the client's
pub found_client : (a : Account) (client : ℕ) (found : Option ClientState) (session : ClientState)
    → IsClientOrNew a client found → found ≡ Some session → IsClient a client session
found_client a client found session is there = subst (IsClientOrNew a client) there is

-- who said a hello is there
pub has_client : (a : Account) (client : ℕ) (found : Option ClientState) → IsClientOrNew a client found
    → SaidHello a.entries client → (session : ClientState) × (found ≡ Some session)
has_client a client None is said = absurd (is said)
has_client a client (Some session) is said = (session, refl)
