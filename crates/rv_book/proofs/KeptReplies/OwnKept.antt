-- Of the client that an entry names, what is kept after it by where the text of its own reply stands is what
-- its last request is told again.
use Rattle.rv_account.proofs.OfState.Words.{◌≡◌, ◌++◌, ◌∷◌, ◌∙◌, [], ℕ, List, length, Option, Some, None}
use Rattle.rv_account.proofs.OfState.Words.{option_and_then, refl, sym, ap, subst, slice_get, none-some}
use Rattle.rv_account.proofs.OfState.Words.{same_Some}
use Rattle.rv_account.proofs.OfState.Words.{Version, Key, Call, Reply, Gives, side_of}
use Rattle.rv_account.proofs.OfState.Words.{Account, ClientState, LastRequest, OpenPlace}
use Rattle.rv_account.proofs.OfState.Words.{State, Settled}
use Rattle.rv_account.proofs.OfState.Words.{client_at, client_waits, line, open_at, place_list}
use Rattle.rv_account.proofs.OfState.Words.{place_waiting, Fresh}
use Rattle.rv_account.proofs.OfState.Words.{Waits, RepliedTo, CancelledUnseen, acted, cancelled, following}
use Rattle.rv_account.proofs.OfState.Words.{met_by}
use Rattle.rv_account.specs.declared.entry.Entry.{Entry}
use Rattle.rv_account.specs.declared.entry.Act.{Act}
use Rattle.rv_account.specs.declared.entry.Act.TheVariants.{Arrive, Cancel, Hello, Tick}
use Rattle.rv_account.specs.state.After.{closed, parked, request_after, tell_all, with_open}
use Rattle.rv_text.specs.declared.call.Side.TheVariants.{Looks}
use Rattle.rv_account.specs.state.Moves.{told_again}
use Rattle.rv_account.proofs.OfState.Coming.{Comes, more}
use Rattle.rv_account.proofs.OfState.Filtered.{chained_there, mapped_there}
use Rattle.rv_account.proofs.OfState.ToldClients.{get_own, get_tell_all, told_client, told_request}
use Rattle.rv_book.specs.reply_cache.Keeping.{IsKeptAs, client_of, front_of, kept_again, source_in, source_of}
use Rattle.rv_book.proofs.KeptReplies.FrontAfter.{front_after}
use Rattle.rv_book.proofs.KeptReplies.OwnTexts.{own_text}
use Rattle.rv_book.proofs.KeptReplies.RequestsAfter.{asked_request}
use Rattle.rv_book.proofs.KeptReplies.SettledTexts.{told_keeps}
use Rattle.rv_book.proofs.KeptReplies.TextsAt.{KeepsAt, had_again}

-- a request that waits somewhere
pub waits_there : (request : LastRequest) (place : ℕ) → place_waiting request ≡ Some place
    → (call : Call) × (request ≡ Waits place call)
waits_there Fresh place is = absurd (none-some place is)
waits_there (Waits at call) place is = (call, ap (λ p. Waits p call) (same_Some _ _ is))
waits_there (RepliedTo call reply) place is = absurd (none-some place is)
waits_there CancelledUnseen place is = absurd (none-some place is)

module _ (a : Account) (s : State) (e : Entry) (comes : Comes a s e) (client : ℕ) (session : ClientState)
  where
    abbrev es : List Entry
    es = more a e

    abbrev n : ℕ
    n = length a.entries

    -- of a session that asked nothing yet, nothing is kept
    pub hello_kept : (c i : ℕ) (v : Version) → Some c ≡ Some client
        → client_at (acted s e.moment (Hello c i v)).after client ≡ Some session → (place : ℕ)
        → KeepsAt es place session.request
    hello_kept c i v names there place =
        let settles : List Settled = (acted s e.moment (Hello c i v)).settles in
        let new : ClientState = record { incarnation = i; version = v; last = 0; request = Fresh } in
        let own = get_own (tell_all s.clients settles) c new client (sym (same_Some _ _ names)) in
        let is : Fresh ≡ session.request =
        ap (λ (x : ClientState). x.request) (same_Some _ _ (sym own ∙ there)) in
        subst (KeepsAt es place) is tt

    own_reply_kept : (key : Key) (its : Call) → e.act ≡ Arrive key its → (front : Option ℕ)
        → ((queue : ℕ) → side_of its ≡ Looks queue
        → front ≡ slice_get (place_list (line s (Gives queue))) 0)
        → (o : Option Reply) → (acted s e.moment (Arrive key its)).reply ≡ o
        → KeepsAt es (source_of n front e) (request_after s.length its o)
    own_reply_kept key its says front sees None is = tt
    own_reply_kept key its says front sees (Some told) is =
        had_again es (source_of n front e) told (own_text a s e key its comes says front sees told is)

    arrive_kept : (key : Key) (its : Call) → e.act ≡ Arrive key its → Some key.client ≡ Some client
        → client_at (acted s e.moment (Arrive key its)).after client ≡ Some session
        → KeepsAt es (source_of n (front_of (acted s e.moment (Arrive key its)).after (Arrive key its)) e)
        session.request
    arrive_kept key its says names there =
        let open_then : State =
        with_open (closed s (met_by s its) (acted s e.moment (Arrive key its)).settles)
        (parked s e.moment key its (met_by s its)) in
        let own : Option Reply = (acted s e.moment (Arrive key its)).reply in
        let here = ap (client_at (acted s e.moment (Arrive key its)).after) (same_Some _ _ names) ∙ there in
        let is : session.request ≡ request_after s.length its own =
        asked_request open_then key (request_after s.length its own) (client_at open_then key.client) refl
        session here in
        let front : Option ℕ = front_of (acted s e.moment (Arrive key its)).after (Arrive key its) in
        subst (KeepsAt es (source_of n front e)) (sym is)
        (own_reply_kept key its says front (λ queue looks. front_after s e.moment key its queue looks) own
        refl)

    -- of a cancel, that what waited is cancelled
    pub cancel_kept : (key : Key) → e.act ≡ Cancel key → Some key.client ≡ Some client
        → (o : Option OpenPlace) → client_waits s key.client ≡ o
        → client_at (cancelled s key o).after client ≡ Some session → KeepsAt es n session.request
    cancel_kept key says names None waits there =
        let here = ap (client_at (cancelled s key None).after) (same_Some _ _ names) ∙ there in
        let is : session.request ≡ CancelledUnseen =
        asked_request s key CancelledUnseen (client_at s key.client) refl session here in
        subst (KeepsAt es n) (sym is) refl
    cancel_kept key says names (Some open_there) waits there =
        let settles : List Settled = (cancelled s key (Some open_there)).settles in
        let c : ℕ = key.client in
        let here : client_at (cancelled s key (Some open_there)).after c ≡ Some session =
        ap (client_at (cancelled s key (Some open_there)).after) (same_Some _ _ names) ∙ there in
        let was = mapped_there (told_client settles c) (client_at s c) session
        (sym (get_tell_all settles s.clients c) ∙ here) in
        let waiting = λ (o : Option ClientState).
        option_and_then (λ (x : ClientState). place_waiting x.request) o in
        let at = chained_there (open_at s) (waiting (client_at s c)) open_there waits in
        let call = waits_there was.0.request at.0 (sym (ap waiting was.1) ∙ at.1) in
        let is : told_request settles c (Waits at.0 call.0) ≡ session.request =
        ap (told_request settles c) (sym call.1) ∙ ap (λ (x : ClientState). x.request) was.2 in
        let made = ap (λ does. (acted s e.moment does).settles) says
        ∙ ap (λ w. (cancelled s key w).settles) waits in
        subst (KeepsAt es n) is (told_keeps a s e comes settles made c at.0 call.0)

    by_act : (does : Act) → e.act ≡ does → client_of does ≡ Some client
        → client_at (acted s e.moment does).after client ≡ Some session
        → KeepsAt es (source_of n (front_of (acted s e.moment does).after does) e) session.request
    by_act (Hello c i v) says names there = hello_kept c i v names there _
    by_act (Arrive key its) says names there = arrive_kept key its says names there
    by_act (Cancel key) says names there =
        subst (λ place. KeepsAt es place session.request) (sym (ap (source_in n None e.partners) says))
        (cancel_kept key says names (client_waits s key.client) refl there)
    by_act Tick says names there = absurd (none-some client names)

-- `front_of` of the state after the entry is that of the state before, which an arrival that looks leaves
pub own_kept : (a : Account) (s : State) (e : Entry) → Comes a s e → (client : ℕ) (session : ClientState)
    → client_of e.act ≡ Some client → client_at (following s e.moment e.act).after client ≡ Some session
    → IsKeptAs (a.entries ++ e ∷ [])
    (kept_again (source_of (length a.entries) (front_of (following s e.moment e.act).after e.act) e)
    session.request) (told_again session.request)
own_kept a s e comes client session names there = by_act a s e comes client session e.act refl names there
