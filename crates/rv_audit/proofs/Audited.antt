-- The sessions of an audit after an entry are those of the state after it.
use Rattle.std.proofs.lemmas.Grind.{common_steps}
use Rattle.rv_audit.proofs.Words.{arith}
use Rattle.rv_audit.proofs.Words.{◌≡◌, ◌⊎◌, ◌∷◌, ◌∙◌, inl, inr, ℕ, List, [], Option, Some}
use Rattle.rv_audit.proofs.Words.{None, refl, sym, ap, subst, none-some, same_Some, same_or_not, Key, Call}
use Rattle.rv_audit.proofs.Words.{Act}
use Rattle.rv_audit.proofs.Words.{Arrive, Cancel, Hello, Tick, AuditSession}
use Rattle.std.proofs.Common.{option_map}
use Rattle.std.specs.FinMap.{get, insert}
use Rattle.rv_text.specs.declared.answer.Reply.{Reply}
use Rattle.rv_text.specs.declared.answer.Reply.TheVariants as reply
use Rattle.rv_account.proofs.OfState.Words.{CancelledUnseen, Fresh, LastRequest, RepliedTo, Waits}
use Rattle.rv_account.specs.state.State.{ClientState, OpenPlace, State, client_at, client_waits}
use Rattle.rv_account.specs.state.State.{place_waiting}
use Rattle.rv_account.specs.state.After.{Settled, acted, cancelled, closed, met_by, parked, request_after}
use Rattle.rv_account.specs.state.After.{settled_all, tell_all, told_own, told_partner, with_open}
use Rattle.rv_account.specs.state.After as after
use Rattle.rv_account.specs.state.Follows.{NumberFits, NumberIsNext, NumberWaits}
use Rattle.rv_account.proofs.OfState.ToldClients.{get_other, get_own, get_tell_all, told_client}
use Rattle.rv_account.proofs.OfState.ToldClients.{told_or_waits}
use Rattle.rv_account.proofs.OfState.ToldClients.{told_request}
use Rattle.rv_account.proofs.OfState.ToldClients.{told_still}
use Rattle.rv_audit.specs.Passed.{AreAudited, IsAudited, IsAuditedIf, session_after, with_number}
use Rattle.rv_audit.specs.Sessions.{EntersIf, EntersSession, session_in}
use Rattle.rv_audit.specs.declared.sessions.AuditSessions.{AuditSessions}

-- ---- those that are told

told_waits : (xs : List Settled) (c r : ℕ) (request : LastRequest)
    → place_waiting (told_request xs c request) ≡ Some r → place_waiting request ≡ Some r
told_waits xs c r Fresh waits =
    absurd (none-some r (sym (ap place_waiting (told_still Fresh (λ reply. refl) xs c)) ∙ waits))
told_waits xs c r (Waits place call) waits = elim (told_or_waits xs c place call) [
  | inl untold ↦ sym (ap place_waiting untold.is) ∙ waits
  | inr told ↦ absurd (none-some r (sym (ap place_waiting told.is) ∙ waits))
]
told_waits xs c r (RepliedTo call reply) waits =
    absurd (none-some r (sym (ap place_waiting (told_still (RepliedTo call reply) (λ reply. refl) xs c))
    ∙ waits))
told_waits xs c r CancelledUnseen waits =
    absurd (none-some r (sym (ap place_waiting (told_still CancelledUnseen (λ reply. refl) xs c)) ∙ waits))

told_if : (xs : List Settled) (c : ℕ) (o : Option ClientState) (t : Option AuditSession) → IsAuditedIf o t
    → IsAuditedIf (option_map (told_client xs c) o) t
told_if = grind (arith, told_waits)

module _ (s : State) (old : AuditSessions) (are : AreAudited s old) (xs : List Settled) where
  told : (c : ℕ) → IsAuditedIf (get (tell_all s.clients xs) c) (session_in old c)
  told = grind (arith, get_tell_all, told_if)

  -- one client has another session now
  entered : (new : AuditSessions) (client : ℕ) (d : ClientState) (t : AuditSession)
      → EntersSession old new client t → IsAudited d t
      → (c : ℕ) → IsAuditedIf (get (insert (tell_all s.clients xs) client d) c) (session_in new c)
  entered = grind (arith, get_other, get_own, same_or_not, told)

-- ---- one that asks

asked_by : (s t : State) (old new : AuditSessions) (xs : List Settled) (key : Key) (request : LastRequest)
    (session : AuditSession) (o : Option ClientState) → AreAudited s old → t.clients ≡ tell_all s.clients xs
    → client_at t key.client ≡ o → (d : ClientState) → o ≡ Some d → EntersSession old new key.client session
    → session.incarnation ≡ d.incarnation → session.last ≡ key.number
    → ((r : ℕ) → place_waiting request ≡ Some r → session.request ≡ Some r)
    → (c : ℕ) → IsAuditedIf (get (after.with_last t key request o).clients c) (session_in new c)
asked_by s t old new xs key request session None are clients there d is enters incarnation last alone c =
    absurd (none-some d is)
asked_by s t old new xs key request session (Some e) are clients there d is enters incarnation last alone c =
    let becomes : ClientState =
    record { incarnation = e.incarnation; version = e.version; last = key.number; request = request } in
    subst (λ m. IsAuditedIf (get (insert m key.client becomes) c) (session_in new c)) (sym clients)
    (entered s old are xs new key.client becomes session enters
    (record {
      incarnation = incarnation ∙ ap (λ (x : ClientState). x.incarnation) (sym (same_Some _ _ is));
      last = last;
      alone = alone;
    }) c)

-- ---- an act

asked_place : (n place r : ℕ) (call : Call) (own : Option Reply) → place ≡ n
    → place_waiting (request_after n call own) ≡ Some r → Some place ≡ Some r
asked_place = grind (arith, common_steps)

-- the session of the key that an act names
record HasSession (s : State) (key : Key) : Type 0 where
  session : ClientState
  there : client_at s key.client ≡ Some session
  waits_last : (o : OpenPlace) → client_waits s key.client ≡ Some o → session.last ≡ key.number

cancel_session : (s : State) (key : Key) → NumberWaits s key ⊎ NumberIsNext s key → HasSession s key
cancel_session = grind (arith, common_steps)

module _ (s : State) (old new : AuditSessions) (are : AreAudited s old) where
  -- a cancel gives the session its number, and its last request stays
  cancel_by : (key : Key) (o : Option OpenPlace) → client_waits s key.client ≡ o → HasSession s key
      → (u : Option AuditSession) → session_in old key.client ≡ u
      → EntersIf old new (with_number key.client key.number u)
      → (c : ℕ) → IsAuditedIf (get (cancelled s key o).after.clients c) (session_in new c)
  cancel_by key o waits has None none enters c =
      absurd (subst (λ (u : Option AuditSession). IsAuditedIf (Some has.session) u) none
      (subst (λ (d : Option ClientState). IsAuditedIf d (session_in old key.client)) has.there
      (are key.client)))
  cancel_by key None waits has (Some t) is enters c =
      let audited : IsAudited has.session t =
      subst (λ (u : Option AuditSession). IsAuditedIf (Some has.session) u) is
      (subst (λ (d : Option ClientState). IsAuditedIf d (session_in old key.client)) has.there
      (are key.client)) in
      asked_by s s old new [] key CancelledUnseen _ (client_at s key.client) are refl refl has.session
      has.there
      enters audited.incarnation refl (λ r waits. absurd (none-some r waits)) c
  cancel_by key (Some there) waits has (Some t) is enters c =
      let xs = (after.stopped s (there ∷ []) reply.Cancelled).settles in
      elim (same_or_not c key.client) [
        | inr other ↦
            subst (λ (o : Option AuditSession). IsAuditedIf (get (tell_all s.clients xs) c) o)
            (sym (enters.others c other)) (told s old are xs c)
        | inl same ↦
            let there_told = get_tell_all xs s.clients key.client
            ∙ ap (option_map (told_client xs key.client)) has.there in
            let now : IsAudited (told_client xs key.client has.session) t =
            subst (λ (u : Option AuditSession). IsAuditedIf (Some (told_client xs key.client has.session)) u)
            is
            (subst (λ (d : Option ClientState). IsAuditedIf d (session_in old key.client)) there_told
            (told s old are xs key.client)) in
            subst (λ n. IsAuditedIf (get (tell_all s.clients xs) n) (session_in new n)) (sym same)
            (subst (λ (d : Option ClientState). IsAuditedIf d (session_in new key.client)) (sym there_told)
            (subst (λ (u : Option AuditSession). IsAuditedIf (Some (told_client xs key.client has.session)) u)
            (sym enters.own)
            (record {
              incarnation = now.incarnation;
              last = sym (has.waits_last there waits);
              alone = now.alone;
            })))
      ]

  pub audited_after : (moment place : ℕ) (does : Act) → place ≡ s.length → NumberFits s does
      → EntersIf old new (session_after old does place) → AreAudited (acted s moment does).after new
  audited_after moment place (Hello client incarnation version) at number enters c =
      entered s old are (after.stopped s (after.just_open (client_waits s client)) reply.Cancelled).settles
      new
      client _ _ enters (record {
        incarnation = refl;
        last = refl;
        alone = λ r waits. absurd
            (none-some r waits);
      })
      c
  audited_after moment place (Arrive key call) at number enters c =
      let met = met_by s call in
      let settles = settled_all (told_partner s key call) met in
      let open_then = with_open (closed s met settles) (parked s moment key call met) in
      let own = told_own s key call met in
      asked_by s open_then old new settles key (request_after s.length call own) _
      (client_at open_then key.client) are refl refl (told_client settles key.client number.session)
      (get_tell_all settles s.clients key.client
      ∙ ap (option_map (told_client settles key.client)) number.of_session.there)
      enters (sym number.of_session.incarnation) refl
      (λ r waits. asked_place s.length place r call own at waits) c
  audited_after moment place (Cancel key) at number enters c =
      cancel_by key (client_waits s key.client) refl (cancel_session s key number) (session_in old key.client)
      refl enters c
  audited_after moment place Tick at number enters c =
      subst (λ (t : AuditSessions). IsAuditedIf (get (acted s moment Tick).after.clients c) (session_in t c))
      (sym enters) (told s old are (acted s moment Tick).settles c)
