-- A state whose client was asked its next number: all but its clients stays.
use Rattle.std.proofs.Common.{◌≡◌, ◌≢◌, ◌⊎◌, ◌∙◌, ℕ, List, Option}
use Rattle.std.proofs.Common.{Some, None, refl, sym, ap, inl, inr}
use Rattle.std.specs.Cmp.{nat_cmp_total}
use Rattle.std.specs.FinMap.{FinMap, get, nat_cmp-IsAntisymmetric, same_map}
use Rattle.std.specs.Ordering.{nat_cmp}
use Rattle.std.proofs.lemmas.Bool.{cases_eq}
use Rattle.rv_text.specs.declared.message.Key.{Key}
use Rattle.rv_text.specs.declared.call.Call.{Call}
use Rattle.rv_text.specs.declared.answer.Reply.{Reply}
use Rattle.rv_session.specs.declared.client.ClientState.{ClientState}
use Rattle.rv_session.specs.declared.client.LastRequest.{LastRequest}
use Rattle.rv_session.specs.declared.client.LastRequest.TheVariants.{RepliedTo, Waits}
use Rattle.rv_session.specs.Clients.{clients_asked, clients_told, insert_known, with_last_number}
use Rattle.rv_account.specs.state.State.{OpenPlace, State, client_at}
use Rattle.rv_account.specs.state.After.{Following, Settled, arrived, asked, closed, met_by, parked}
use Rattle.rv_account.specs.state.After.{request_after}
use Rattle.rv_account.specs.state.After.{settled_all, told_own, told_partner, with_last, with_open}
use Rattle.rv_machine.proofs.Told.{asked_other, asked_own, told_other, told_own as told_own_client}

-- the state with other clients
abbrev pub with_clients_of : State → FinMap nat_cmp ClientState → State
with_clients_of s clients =
    record {
      epoch = s.epoch;
      moment = s.moment;
      length = s.length;
      open_places = s.open_places;
      clients = clients;
    }

last_as : (s : State) (key : Key) (request : LastRequest) (o : Option ClientState)
    → with_last s key request o
    ≡ with_clients_of s (insert_known s.clients key.client (λ state. with_last_number state key.number
    request) o)
last_as s key request None = refl
last_as s key request (Some session) = refl

pub asked_as : (s : State) (key : Key) (request : LastRequest)
    → asked s key request ≡ with_clients_of s (clients_asked s.clients key request)
asked_as s key request = last_as s key request (client_at s key.client)

-- what an arrival that meets these makes of a state
abbrev pub arrived_with : State → ℕ → Key → Call → List OpenPlace → Following
arrived_with s moment key call met =
    let settles : List Settled = settled_all (told_partner s key call) met in
    let own : Option Reply = told_own s key call met in
    let open_then : State = with_open (closed s met settles) (parked s moment key call met) in
    record { after = asked open_then key (request_after s.length call own); settles = settles; reply = own }

pub arrived_by : (s : State) (moment : ℕ) (key : Key) (call : Call) (met : List OpenPlace)
    → met_by s call ≡ met
    → arrived s moment key call ≡ arrived_with s moment key call met
arrived_by s moment key call met is = ap (arrived_with s moment key call) is

-- a request that was told at once, or later
pub asked_then_told : (m : FinMap nat_cmp ClientState) (key : Key) (place : ℕ) (call : Call) (reply : Reply)
    (session : ClientState) → get m key.client ≡ Some session
    → clients_told (clients_asked m key (Waits place call)) key.client reply
    ≡ clients_asked m key (RepliedTo call reply)
asked_then_told m key place call reply session known =
    same_map nat_cmp_total nat_cmp-IsAntisymmetric _ _ (λ q. by_client q (cases_eq q key.client))
  where
    by_client : (q : ℕ) → (q ≡ key.client) ⊎ (q ≢ key.client)
        → get (clients_told (clients_asked m key (Waits place call)) key.client reply) q
        ≡ get (clients_asked m key (RepliedTo call reply)) q
    by_client q (inl own) =
        ap (get (clients_told (clients_asked m key (Waits place call)) key.client reply)) own
        ∙ told_own_client (clients_asked m key (Waits place call)) key.client reply
        (with_last_number session key.number (Waits place call)) (asked_own m key (Waits place call) session
        known)
        ∙ sym (asked_own m key (RepliedTo call reply) session known)
        ∙ ap (get (clients_asked m key (RepliedTo call reply))) (sym own)
    by_client q (inr apart) =
        told_other (clients_asked m key (Waits place call)) key.client q reply apart
        ∙ asked_other m key q (Waits place call) apart
        ∙ sym (asked_other m key q (RepliedTo call reply) apart)

-- a request that met one of another client, who was told before it
pub met_clients : (m : FinMap nat_cmp ClientState) (key : Key) (place : ℕ) (call : Call) (partner : ℕ)
    (its own : Reply) (session other : ClientState) → get m key.client ≡ Some session
    → get m partner ≡ Some other → partner ≢ key.client
    → clients_told (clients_told (clients_asked m key (Waits place call)) partner its) key.client own
    ≡ clients_asked (clients_told m partner its) key (RepliedTo call own)
met_clients m key place call partner its own session other known there apart =
    same_map nat_cmp_total nat_cmp-IsAntisymmetric _ _
    (λ q. by_client q (cases_eq q key.client) (cases_eq q partner))
  where
    asks : FinMap nat_cmp ClientState
    asks = clients_asked m key (Waits place call)

    tells : FinMap nat_cmp ClientState
    tells = clients_told m partner its

    by_client : (q : ℕ) → (q ≡ key.client) ⊎ (q ≢ key.client) → (q ≡ partner) ⊎ (q ≢ partner)
        → get (clients_told (clients_told (clients_asked m key (Waits place call)) partner its) key.client
        own) q
        ≡ get (clients_asked (clients_told m partner its) key (RepliedTo call own)) q
    by_client q (inl same) second =
        ap (get (clients_told (clients_told (clients_asked m key (Waits place call)) partner its) key.client
        own)) same
        ∙ told_own_client (clients_told (clients_asked m key (Waits place call)) partner its) key.client own
        (with_last_number session key.number (Waits place call))
        (told_other (clients_asked m key (Waits place call)) partner key.client its (λ e. apart (sym e))
        ∙ asked_own m key (Waits place call) session known)
        ∙ sym (asked_own (clients_told m partner its) key (RepliedTo call own) session
        (told_other m partner key.client its (λ e. apart (sym e)) ∙ known))
        ∙ ap (get (clients_asked (clients_told m partner its) key (RepliedTo call own))) (sym same)
    by_client q (inr differs) (inl same) =
        told_other (clients_told (clients_asked m key (Waits place call)) partner its) key.client q own
        differs
        ∙ ap (get (clients_told (clients_asked m key (Waits place call)) partner its)) same
        ∙ told_own_client (clients_asked m key (Waits place call)) partner its other
        (asked_other m key partner (Waits place call) apart ∙ there)
        ∙ sym (told_own_client m partner its other there)
        ∙ ap (get (clients_told m partner its)) (sym same)
        ∙ sym (asked_other (clients_told m partner its) key q (RepliedTo call own) differs)
    by_client q (inr differs) (inr alone) =
        told_other (clients_told (clients_asked m key (Waits place call)) partner its) key.client q own
        differs
        ∙ told_other (clients_asked m key (Waits place call)) partner q its alone
        ∙ asked_other m key q (Waits place call) differs
        ∙ sym (told_other m partner q its alone)
        ∙ sym (asked_other (clients_told m partner its) key q (RepliedTo call own) differs)
