-- The moves of hellos.
use Rattle.std.proofs.Common.{◌≡◌, ◌<◌, ◌≤◌, ◌+◌, ◌++◌, ◌∷◌, ◌∙◌, ℕ, [], Option, Some, None, inl, inr}
use Rattle.std.proofs.Common.{refl, sym, ap, subst}
use Rattle.std.proofs.lemmas.List.{append-nil}
use Rattle.std.specs.FinMap.{get, len}
use Rattle.rv_text.specs.declared.version.Version.{Version}
use Rattle.rv_text.specs.declared.message.Message.TheVariants.{Hello}
use Rattle.rv_text.specs.declared.answer.Answer.TheVariants.{Welcome}
use Rattle.rv_text.specs.declared.answer.Refusal.TheVariants.{ClientsFull, EpochFull, NoMemory}
use Rattle.rv_text.specs.declared.answer.Refusal.TheVariants.{OldIncarnation}
use Rattle.rv_text.specs.declared.answer.Refusal.TheVariants.{OtherVersion}
use Rattle.rv_text.specs.declared.answer.Reply.TheVariants.{Cancelled}
use Rattle.rv_account.specs.Account.{entry}
use Rattle.rv_account.specs.declared.entry.Entry.{Entry}
use Rattle.rv_account.specs.declared.entry.Act.TheVariants as act
use Rattle.rv_session.specs.ClientMeanings.{HasGreaterState, HasLowerState, HasOtherState, HasState}
use Rattle.rv_session.specs.Clients.{fresh_state}
use Rattle.rv_account.specs.state.State.{ClientState, OpenPlace, State, Waiter, client_waits}
use Rattle.rv_account.specs.rules.StepLimits.{StepLimits}
use Rattle.std.specs.Global.{Vec}
use Rattle.rv_text.specs.declared.message.Key.{Key}
use Rattle.rv_account.specs.declared.entry.Act.{Act}
use Rattle.rv_account.specs.state.After.{advanced, closed, following, greeted, just_open, stopped}
use Rattle.rv_account.specs.state.After.{with_client}
use Rattle.rv_account.specs.state.Moves.{entering}
use Rattle.rv_account.proofs.OfState.Words.{none-some, same_Some}
use Rattle.rv_machine.specs.declared.tables.Holdings.{Holdings}
use Rattle.rv_machine.specs.declared.machine.Said.TheVariants as said
use Rattle.rv_machine.specs.Ending.{EndsWaiting}
use Rattle.rv_machine.specs.Entering.{HasSpaceFor, WaitsForNothing, IsNewHello}
use Rattle.rv_machine.specs.Machines.{MovesBy, keys_settled, state_in}
use Rattle.rv_machine.specs.open_places.OpenMap.{count_waiting}
use Rattle.rv_machine.proofs.EndedLast.{idle_waits}
use Rattle.rv_machine.proofs.HelloLines.{hello_again, hello_enters, hello_no_client, hello_no_entry}
use Rattle.rv_machine.proofs.HelloLines.{hello_older, hello_other}
use Rattle.rv_machine.proofs.Staying.{moves_refused, moves_staying}
use Rattle.rv_machine.proofs.Stopping.{settled_one, stopped_none, stopped_one}

-- ---- where no entry is made

module _ (limits : StepLimits) (m : Holdings) (moment client incarnation : ℕ) (version : Version) where
  pub moves_again : HasState m.clients client incarnation version
      → MovesBy limits m m moment (Hello client incarnation version) []
      (said.Welcome m.clients.epoch client incarnation version)
  moves_again has =
      moves_staying limits m m moment _ refl refl (Welcome m.clients.epoch client incarnation version) _ refl
      (hello_again limits (state_in m) client incarnation version _ _ _ has.state has.there has.same
      has.version_is
      refl)

  pub moves_older : (current : ℕ) → HasGreaterState m.clients client incarnation current
      → MovesBy limits m m moment (Hello client incarnation version) []
      (said.Refused (OldIncarnation current))
  moves_older current has =
      subst (λ n. MovesBy limits m m moment (Hello client incarnation version) []
      (said.Refused (OldIncarnation n)))
      (sym has.current_is)
      (moves_refused limits m m moment _ refl refl (OldIncarnation has.state.incarnation)
      (hello_older limits (state_in m) client incarnation version _ _ _ has.state has.there
      (subst (λ n. incarnation < n) has.current_is has.greater) refl))

  pub moves_other : (current : Version) → HasOtherState m.clients client incarnation version current
      → MovesBy limits m m moment (Hello client incarnation version) [] (said.Refused (OtherVersion current))
  moves_other current has =
      subst (λ (v : Version). MovesBy limits m m moment (Hello client incarnation version) []
      (said.Refused (OtherVersion v))) has.opened.version_is
      (moves_refused limits m m moment _ refl refl (OtherVersion has.opened.state.version)
      (hello_other limits (state_in m) client incarnation version _ _ _ has.opened.state has.opened.there
      has.opened.same (λ same. has.other (sym same ∙ has.opened.version_is)) refl))

  pub moves_no_client : get m.clients.clients client ≡ None → limits.clients ≤ len m.clients.clients
      → MovesBy limits m m moment (Hello client incarnation version) [] (said.Refused ClientsFull)
  moves_no_client none full =
      moves_refused limits m m moment _ refl refl ClientsFull
      (hello_no_client limits (state_in m) client incarnation version _ _ _ none full refl)

  pub moves_no_entry : IsNewHello limits (state_in m) client incarnation
      → limits.entries < m.length + count_waiting m.table + 1
      → MovesBy limits m m moment (Hello client incarnation version) [] (said.Refused EpochFull)
  moves_no_entry fits full =
      moves_refused limits m m moment _ refl refl EpochFull
      (hello_no_entry limits (state_in m) client incarnation version _ _ _ fits full refl)

-- a client that isn't known is a new one
pub unknown_new : (limits : StepLimits) (m : Holdings) (client incarnation : ℕ)
    → get m.clients.clients client ≡ None → len m.clients.clients < limits.clients
    → IsNewHello limits (state_in m) client incarnation
unknown_new limits m client incarnation none less = record {
  is_new = λ x there. absurd (none-some x (sym none ∙ there));
  most = λ _. less;
}

-- a session of a lower incarnation is followed by that of a new one
pub lower_new : (limits : StepLimits) (m : Holdings) (client incarnation : ℕ) (waiting : Option ℕ)
    → HasLowerState m.clients client incarnation waiting → IsNewHello limits (state_in m) client incarnation
lower_new limits m client incarnation waiting has = record {
  is_new = λ x there. subst (λ (y : ClientState). y.incarnation < incarnation)
      (same_Some _ _ (sym has.there ∙ there)) has.lower;
  most = λ none. absurd (none-some has.state (sym none ∙ has.there));
}

-- ---- what a hello makes of a state

module _ (s : State) (client : ℕ) (session : ClientState) where
  pub greeted_idle : WaitsForNothing s client
      → (greeted s client session).after ≡ with_client s client session
  greeted_idle idle =
      ap (λ (o : Option OpenPlace). with_client (stopped s (just_open o) Cancelled).after client session)
      (idle_waits s client idle)
      ∙ ap (λ (t : State). with_client t client session) (stopped_none s Cancelled)

  none_settled : WaitsForNothing s client → (greeted s client session).settles ≡ []
  none_settled idle =
      ap (λ (o : Option OpenPlace). (stopped s (just_open o) Cancelled).settles) (idle_waits s client idle)

  greeted_waiting : (there : OpenPlace) (w : Waiter) → client_waits s client ≡ Some there
      → there.waiter ≡ Some w
      → (greeted s client session).after
      ≡ with_client (closed s (there ∷ []) (record { key = w.key; reply = Cancelled } ∷ [])) client session
  greeted_waiting there w found waits =
      ap (λ (o : Option OpenPlace). with_client (stopped s (just_open o) Cancelled).after client session)
      found
      ∙ ap (λ (t : State). with_client t client session) (stopped_one s Cancelled there w waits)

  one_settled : (there : OpenPlace) (w : Waiter) → client_waits s client ≡ Some there → there.waiter ≡ Some w
      → (greeted s client session).settles ≡ record { key = w.key; reply = Cancelled } ∷ []
  one_settled there w found waits =
      ap (λ (o : Option OpenPlace). (stopped s (just_open o) Cancelled).settles) found
      ∙ settled_one s Cancelled there w waits

-- ---- where it enters

module _ (limits : StepLimits) (old mid new : Holdings) (moment client incarnation : ℕ) (version :
    Version)
    (fits : IsNewHello limits (state_in old) client incarnation) (space : HasSpaceFor limits old 1) (made :
    Entry)
    (is : made ≡ entry moment (act.Hello client incarnation version) [])
    (after : state_in new ≡ advanced (with_client (state_in mid) client (fresh_state incarnation version))
    moment)
    (listed : new.settled ≡ mid.settled) where
  abbrev does : Act
  does = act.Hello client incarnation version

  abbrev s : State
  s = state_in old

  moves_hello : state_in new ≡ (following s moment does).after
      → new.settled.items ≡ old.settled.items ++ keys_settled (following s moment does).settles
      → MovesBy limits old new moment (Hello client incarnation version) (made ∷ [])
      (said.Welcome old.clients.epoch client incarnation version)
  moves_hello then settles = record {
    move = entering s moment does (Welcome old.clients.epoch client incarnation version);
    moves = hello_enters limits s client incarnation version _ _ _ fits space (inr refl);
    makes = ap (λ (e : Entry). e ∷ []) is;
    says = refl;
    settles = settles;
    after = then;
  }

  -- where nothing waited
  pub moves_idle : WaitsForNothing s client → state_in mid ≡ s → mid.settled ≡ old.settled
      → MovesBy limits old new moment (Hello client incarnation version) (made ∷ [])
      (said.Welcome old.clients.epoch client incarnation version)
  moves_idle idle same kept =
      moves_hello
      (after
      ∙ ap (λ (t : State). advanced (with_client t client (fresh_state incarnation version)) moment) same
      ∙ ap (λ (t : State). advanced t moment)
      (sym (greeted_idle s client (fresh_state incarnation version) idle)))
      (ap (λ (v : Vec Key). v.items) (listed ∙ kept)
      ∙ sym (append-nil _)
      ∙ ap (λ x. old.settled.items ++ keys_settled x)
      (sym (none_settled s client (fresh_state incarnation version) idle)))

  -- where the client's last request waited
  pub moves_waiting : (place : ℕ) (ends : EndsWaiting old mid place Cancelled)
      → client_waits s client ≡ Some ends.there
      → MovesBy limits old new moment (Hello client incarnation version) (made ∷ [])
      (said.Welcome old.clients.epoch client incarnation version)
  moves_waiting place ends found =
      moves_hello
      (after
      ∙ ap (λ (t : State). advanced (with_client t client (fresh_state incarnation version)) moment)
      ends.state
      ∙ ap (λ (t : State). advanced t moment)
      (sym (greeted_waiting s client (fresh_state incarnation version) ends.there ends.waiter found
      ends.waits)))
      (ap (λ (v : Vec Key). v.items) listed
      ∙ ends.listed
      ∙ ap (λ x. old.settled.items ++ keys_settled x)
      (sym (one_settled s client (fresh_state incarnation version) ends.there ends.waiter found ends.waits)))

-- where a growth was refused
pub moves_lacking : (limits : StepLimits) (old new : Holdings) (moment client incarnation : ℕ) (version :
    Version)
    → IsNewHello limits (state_in old) client incarnation → HasSpaceFor limits old 1
    → state_in new ≡ state_in old
    → new.settled.items ≡ old.settled.items
    → MovesBy limits old new moment (Hello client incarnation version) [] (said.Refused NoMemory)
moves_lacking limits old new moment client incarnation version fits space same kept =
    moves_refused limits old new moment _ same kept NoMemory
    (hello_enters limits (state_in old) client incarnation version _ _ _ fits space (inl refl))
