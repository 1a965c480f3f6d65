-- Which messages need no room for an entry: those that stay, and a cancel of what waits, whose entry takes
-- the place of that wait.
use Rattle.std.proofs.Common.{◌≡◌, ◌≢◌, ◌<◌, ◌≤◌, ◌+◌, ◌∙◌, ℕ, Option, Some}
use Rattle.std.proofs.Common.{refl, sym, ap, subst, arith}
use Rattle.std.specs.Prelude.{option_and_then}
use Rattle.std.specs.FinMap.{len}
use Rattle.rv_text.specs.declared.call.Call.{Call}
use Rattle.rv_text.specs.declared.message.Key.{Key}
use Rattle.rv_text.specs.declared.message.Message.{Message}
use Rattle.rv_text.specs.declared.message.Message.TheVariants.{Hello, Request, Cancel}
use Rattle.rv_text.specs.declared.version.Version.{Version}
use Rattle.rv_text.specs.declared.answer.Answer.{Answer}
use Rattle.rv_text.specs.declared.answer.Answer.TheVariants.{Refused, Replied, Welcome}
use Rattle.rv_text.specs.declared.answer.Refusal.{Refusal}
use Rattle.rv_text.specs.declared.answer.Refusal.TheVariants.{EpochFull}
use Rattle.rv_text.specs.declared.answer.Reply.TheVariants.{Cancelled}
use Rattle.rv_account.specs.Calls.{need_of}
use Rattle.rv_account.specs.declared.entry.Act.TheVariants as act
use Rattle.rv_account.specs.rules.StepLimits.{StepLimits}
use Rattle.rv_session.specs.declared.client.LastRequest.TheVariants.{CancelledUnseen, RepliedTo, Waits}
use Rattle.rv_session.specs.declared.standing.Greeting.{Greeting}
use Rattle.rv_session.specs.declared.standing.Greeting.TheVariants.{Again, Unknown, Full, Newer, Older}
use Rattle.rv_session.specs.declared.standing.Greeting.TheVariants.{OtherVersion}
use Rattle.rv_session.specs.declared.standing.KeyStanding.{KeyStanding}
use Rattle.rv_session.specs.declared.standing.KeyStanding.TheVariants as standing
use Rattle.rv_session.specs.ClientMeanings.{GreetingSays, StandingSays}
use Rattle.rv_session.specs.ClientStandings.{IsNext, IsRefused, Stands, WaitsThere, WasCancelled, WasReplied}
use Rattle.rv_session.specs.ClientStandings.{stands_as}
use Rattle.rv_session.specs.Clients.{place_waiting}
use Rattle.rv_account.specs.state.State.{ClientState, OpenPlace, State, client_waits, open_at, waiting_count}
use Rattle.rv_account.specs.state.After.{cancelled}
use Rattle.rv_account.specs.state.Follows.{NumberWaits}
use Rattle.rv_account.specs.state.Moves.{Move, RefusesMove, RepeatsMove, StateHelloLinesUnder, StateKeyLines}
use Rattle.rv_account.specs.state.Moves.{answer_told, entering, staying, told_again}
use Rattle.rv_machine.specs.declared.tables.Holdings.{Holdings}
use Rattle.rv_machine.specs.Limiting.{LacksPlaceFor}
use Rattle.rv_machine.specs.Machines.{AwaitsPlace, IsConsistent, IsWhole, state_in}
use Rattle.rv_machine.specs.Needing.{NeedsNoRoom, TakesNoRoom, message_need}
use Rattle.rv_machine.specs.Numbering.{AreNumbered}
use Rattle.rv_machine.proofs.Deciding.{NotFull, by_cancel, by_hello, by_request}
use Rattle.rv_machine.proofs.EndedLast.{waits_for}
use Rattle.rv_machine.proofs.EndingOne.{less_waits}
use Rattle.rv_machine.proofs.HelloLines.{hello_again, hello_no_client, hello_older, hello_other}
use Rattle.rv_machine.proofs.KeyLines.{key_last, key_refused}

-- ---- moves that take no room

module _ (s : State) (m : Message) (move : Move) where
  stays_none : (a : Answer) → move ≡ staying s a → TakesNoRoom s m move
  stays_none a is =
      let none : TakesNoRoom s m (staying s a) = record { room = omega arith; hello = λ _. refl } in
      subst (TakesNoRoom s m) (sym is) none

  refused_none : (r : Refusal) → RefusesMove s move r → TakesNoRoom s m move
  refused_none r is = stays_none (Refused r) is

  repeated_none : (key : Key) → RepeatsMove s key move → TakesNoRoom s m move
  repeated_none key is = stays_none (answer_told key (told_again is.session.request)) is.is

module _ (s : State) (is : IsConsistent s) (key : Key) (waits : NumberWaits s key) where
  abbrev its : AwaitsPlace s key.client waits.place
  its = waits_for s is key.client waits.place waits.session waits.of_session.there waits.waits

  found_waiting : client_waits s key.client ≡ Some its.there
  found_waiting =
      ap (λ (o : Option ClientState). option_and_then (open_at s)
      (option_and_then (λ c. place_waiting c.request) o)) waits.of_session.there
      ∙ ap (option_and_then (open_at s)) waits.waits
      ∙ its.found

  -- the wait of what is cancelled is over
  one_fewer : waiting_count (cancelled s key (client_waits s key.client)).after + 1 ≡ waiting_count s
  one_fewer =
      ap (λ (o : Option OpenPlace). waiting_count (cancelled s key o).after + 1) found_waiting
      ∙ less_waits s is waits.place its.there its.waiter Cancelled its.found its.waits

  ends_none : (moment : ℕ) (move : Move) (a : Answer) → move ≡ entering s moment (act.Cancel key) a
      → TakesNoRoom s (Cancel key) move
  ends_none moment move a enters =
      let none : TakesNoRoom s (Cancel key) (entering s moment (act.Cancel key) a) =
      record { room = omega (arith, one_fewer); hello = λ hello. absurd hello } in
      subst (TakesNoRoom s (Cancel key)) (sym enters) none

-- ---- where the epoch is full

module _ (limits : StepLimits) (s : State) (is : IsConsistent s) where
  full_not : (need : ℕ) → limits.entries < s.length + waiting_count s + need → NotFull limits s need → ⊥
  full_not need full not = not EpochFull (record { full = full; is = refl })

  -- no entry is made then but one that ends a wait
  pub full_none : (m : Message) → limits.entries < s.length + waiting_count s + message_need m
      → NeedsNoRoom limits s m
  full_none (Hello client incarnation version) full moment move moves =
      by_hello (TakesNoRoom s (Hello client incarnation version) move) limits s client incarnation version
      (RefusesMove s move) (RefusesMove s move) _ _ _ _ moves moves
      (refused_none s (Hello client incarnation version) move)
      (stays_none s (Hello client incarnation version) move (Welcome s.epoch client incarnation version))
      (λ not _ _. absurd (full_not 1 full not))
  full_none (Request key call) full moment move moves =
      by_request (TakesNoRoom s (Request key call) move) limits s key call
      (RefusesMove s move) (RefusesMove s move) _ _ _ _ moves moves
      (refused_none s (Request key call) move)
      (repeated_none s (Request key call) move key)
      (λ not _ _ _. absurd (full_not (need_of call) full not))
  full_none (Cancel key) full moment move moves =
      by_cancel (TakesNoRoom s (Cancel key) move) limits s key
      (RefusesMove s move) (RefusesMove s move) _ _ _ _ _ moves moves
      (refused_none s (Cancel key) move)
      (λ waits. ends_none s is key waits moment move (Replied key Cancelled))
      (repeated_none s (Cancel key) move key)
      (λ not _ _. absurd (full_not 1 full not))

  -- nor is one where the message would stay, and lacks a place
  pub crowded_none : (m : Message) → LacksPlaceFor limits.open_places s m → NeedsNoRoom limits s m
  crowded_none (Hello client incarnation version) lacks moment move moves = absurd lacks
  crowded_none (Request key call) lacks moment move moves =
      by_request (TakesNoRoom s (Request key call) move) limits s key call
      (RefusesMove s move) (RefusesMove s move) _ _ _ _ moves moves
      (refused_none s (Request key call) move)
      (repeated_none s (Request key call) move key)
      (λ _ has _ _. absurd (has lacks))
  crowded_none (Cancel key) lacks moment move moves = absurd lacks

-- ---- where no next number is asked

-- what isn't the next stands otherwise
pub not_next : (looked : KeyStanding) → looked ≢ standing.Next → stands_as looked ≢ IsNext
not_next (standing.Refused refusal) other = λ e. cc
not_next (standing.Waits place call) other = λ e. cc
not_next (standing.Replied call reply) other = λ e. cc
not_next standing.CancelledUnseen other = λ e. cc
not_next standing.Next other = absurd (other refl)

-- any refusal
abbrev Refuses : Refusal → Type 0
Refuses r = Unit {0}

module _ (limits : StepLimits) (m : Holdings) (ready : IsWhole m) (numbered : AreNumbered (state_in m))
    (key : Key) where
  -- the lines for the key don't come to their end
  never_next : (stands : Stands) → StandingSays m.clients key stands → stands ≢ IsNext
      → StateKeyLines (state_in m) key Refuses (Unit {0}) ⊥
  never_next (IsRefused refusal) says other = key_refused m key Refuses _ _ numbered refusal says tt
  never_next (WaitsThere place call) says other =
      key_last m key Refuses _ _ numbered (Waits place call) (λ e. cc) says tt
  never_next (WasReplied call reply) says other =
      key_last m key Refuses _ _ numbered (RepliedTo call reply) (λ e. cc) says tt
  never_next WasCancelled says other =
      key_last m key Refuses _ _ numbered CancelledUnseen (λ e. cc) says tt
  never_next IsNext says other = absurd (other refl)

  pub request_none : (call : Call) (stands : Stands) → StandingSays m.clients key stands → stands ≢ IsNext
      → NeedsNoRoom limits (state_in m) (Request key call)
  request_none call stands says other moment move moves =
      by_request (TakesNoRoom (state_in m) (Request key call) move) limits (state_in m) key call
      (RefusesMove (state_in m) move) Refuses _ _ _ _ moves (never_next stands says other)
      (refused_none (state_in m) (Request key call) move)
      (repeated_none (state_in m) (Request key call) move key)
      (λ _ _ _ never. absurd never)

  pub cancel_none : (stands : Stands) → StandingSays m.clients key stands → stands ≢ IsNext
      → NeedsNoRoom limits (state_in m) (Cancel key)
  cancel_none stands says other moment move moves =
      by_cancel (TakesNoRoom (state_in m) (Cancel key) move) limits (state_in m) key
      (RefusesMove (state_in m) move) Refuses _ _ _ _ _ moves (never_next stands says other)
      (refused_none (state_in m) (Cancel key) move)
      (λ waits. ends_none (state_in m) ready.consistent key waits moment move (Replied key Cancelled))
      (repeated_none (state_in m) (Cancel key) move key)
      (λ _ _ never. absurd never)

-- ---- where no session is opened

-- the greeting opens no session under the limits
abbrev pub OpensNone : StepLimits → Holdings → Greeting → Type 0
OpensNone limits m Unknown = limits.clients ≤ len m.clients.clients
OpensNone limits m Full = limits.clients ≤ len m.clients.clients
OpensNone limits m (Newer waiting) = ⊥
OpensNone limits m other = Unit {0}

pub opens_none : (limits : StepLimits) (m : Holdings) (greeting : Greeting) → greeting ≢ Unknown
    → greeting ≢ Full → ((waiting : Option ℕ) → greeting ≢ Newer waiting) → OpensNone limits m greeting
opens_none limits m Again unknown full newer = tt
opens_none limits m Unknown unknown full newer = absurd (unknown refl)
opens_none limits m Full unknown full newer = absurd (full refl)
opens_none limits m (Newer waiting) unknown full newer = absurd (newer waiting refl)
opens_none limits m (Older current) unknown full newer = tt
opens_none limits m (OtherVersion current) unknown full newer = tt

module _ (limits : StepLimits) (m : Holdings) (client incarnation : ℕ) (version : Version) where
  -- the lines for the hello don't come to their end
  never_opens : (greeting : Greeting) → GreetingSays m.clients client incarnation version greeting
      → OpensNone limits m greeting → StateHelloLinesUnder limits (state_in m) client incarnation version
      Refuses (Unit {0}) ⊥
  never_opens Again says none =
      hello_again limits (state_in m) client incarnation version Refuses _ _ says.state says.there says.same
      says.version_is tt
  never_opens Unknown says full =
      hello_no_client limits (state_in m) client incarnation version Refuses _ _ says.0 full tt
  never_opens Full says full =
      hello_no_client limits (state_in m) client incarnation version Refuses _ _ says.0 full tt
  never_opens (Newer waiting) says none = absurd none
  never_opens (Older current) says none =
      hello_older limits (state_in m) client incarnation version Refuses _ _ says.state says.there
      (subst (λ n. incarnation < n) says.current_is says.greater) tt
  never_opens (OtherVersion current) says none =
      hello_other limits (state_in m) client incarnation version Refuses _ _ says.opened.state
      says.opened.there
      says.opened.same (λ same. says.other (sym same ∙ says.opened.version_is)) tt

  pub hello_none : (greeting : Greeting) → GreetingSays m.clients client incarnation version greeting
      → OpensNone limits m greeting → NeedsNoRoom limits (state_in m) (Hello client incarnation version)
  hello_none greeting says none moment move moves =
      by_hello (TakesNoRoom (state_in m) (Hello client incarnation version) move) limits (state_in m) client
      incarnation version (RefusesMove (state_in m) move) Refuses _ _ _ _ moves
      (never_opens greeting says none)
      (refused_none (state_in m) (Hello client incarnation version) move)
      (stays_none (state_in m) (Hello client incarnation version) move
      (Welcome m.clients.epoch client incarnation version))
      (λ _ _ never. absurd never)
