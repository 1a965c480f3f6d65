-- What any other client's last request is told again stays with an entry.
use Rattle.rv_account.proofs.OfState.Words.{◌≡◌, ◌∙◌, inl, inr, ℕ, List, Some, refl, sym, ap, slice_get}
use Rattle.rv_account.proofs.OfState.Words.{ClientState, LastRequest, State, Settled, client_at, Fresh, Waits}
use Rattle.rv_account.proofs.OfState.Words.{RepliedTo}
use Rattle.rv_account.proofs.OfState.Words.{CancelledUnseen, following}
use Rattle.rv_account.specs.declared.entry.Entry.{Entry}
use Rattle.rv_account.specs.state.Moves.{told_again}
use Rattle.rv_account.proofs.OfState.Filtered.{mapped_there}
use Rattle.rv_account.proofs.OfState.ToldClients.{told_client, told_or_waits, told_request, told_still}
use Rattle.rv_book.specs.reply_cache.Keeping.{client_of}
use Rattle.rv_book.proofs.KeptReplies.RequestsAfter.{others_told}

-- none of the settled is of the client
abbrev pub SettlesNo : List Settled → ℕ → Type 0
SettlesNo settles client = (i : ℕ) (x : Settled) → slice_get settles i ≡ Some x → x.key.client ≡ client → ⊥

request_stays : (settles : List Settled) (client : ℕ) (request : LastRequest) → SettlesNo settles client
    → told_request settles client request ≡ request
request_stays settles client Fresh none = told_still Fresh (λ reply. refl) settles client
request_stays settles client (Waits place call) none = elim (told_or_waits settles client place call) [
  | inl untold ↦ untold.is
  | inr told ↦ absurd (none told.i told.settled told.there told.of_client)
]
request_stays settles client (RepliedTo call told) none =
    told_still (RepliedTo call told) (λ reply. refl) settles client
request_stays settles client CancelledUnseen none =
    told_still CancelledUnseen (λ reply. refl) settles client

pub other_kept : (s : State) (e : Entry) (client : ℕ) → (client_of e.act ≡ Some client → ⊥)
    → ((i : ℕ) (x : Settled) → slice_get (following s e.moment e.act).settles i ≡ Some x
    → x.key.client ≡ client → ⊥) → (session : ClientState)
    → client_at (following s e.moment e.act).after client ≡ Some session
    → (was : ClientState) × (client_at s client ≡ Some was)
    × (told_again session.request ≡ told_again was.request)
other_kept s e client other none session there =
    let settles : List Settled = (following s e.moment e.act).settles in
    let was = mapped_there (told_client settles client) (client_at s client) session
    (sym (others_told s e.moment e.act client other) ∙ there) in
    let is = sym (ap (λ (c : ClientState). c.request) was.2)
    ∙ request_stays settles client was.0.request none in
    (was.0, was.1, ap told_again is)
