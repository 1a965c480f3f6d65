-- Each effect of a hub is one of its server, or leaves that as it is.
use Rattle.std.proofs.Common.{inl, inr, ◌≡◌, ◌≤◌, ◌+◌, ◌∙◌, ◌++◌, ◌∷◌, ℕ, List, [], None, Some, refl, sym, ap}
use Rattle.std.proofs.Common.{append_assoc, arith, cond, length, nat_eq, slice_get, subst}
use Rattle.std.specs.Prelude.{flat_map}
use Rattle.std.specs.List.{Contains}
use Rattle.std.proofs.lemmas.Grind.{flat_map-append}
use Rattle.std.proofs.lemmas.List.{append-nil}
use Rattle.std.proofs.lemmas.List.Elements.{All-append, All-nil}
use Rattle.std.proofs.lemmas.Option.{none-some}
use Rattle.rv_text.specs.declared.message.Key.{Key}
use Rattle.rv_text.specs.declared.message.Message.{Message}
use Rattle.rv_text.specs.declared.message.Message.TheVariants.{Request}
use Rattle.rv_text.specs.declared.answer.Answer.{Answer}
use Rattle.rv_text.specs.declared.answer.Answer.TheVariants as answer
use Rattle.rv_text.specs.declared.answer.Refusal.TheVariants.{BadText, NoMemory}
use Rattle.rv_text.specs.Bodies.{IsMessageBody, answer_text}
use Rattle.rv_account.specs.declared.entry.Act.TheVariants.{Arrive}
use Rattle.rv_account.specs.declared.entry.Entry.{Entry}
use Rattle.rv_account.specs.Account.{Account, act_at}
use Rattle.rv_account.specs.Limits.{max_moment}
use Rattle.rv_account.specs.rules.Resting.{rests_on}
use Rattle.rv_account.specs.rules.StepLimits.{AreStepLimits, StepLimits}
use Rattle.rv_account.specs.rules.Steps.{NextUnder, Ticks}
use Rattle.rv_session.specs.declared.client.LastRequest.{LastRequest}
use Rattle.rv_session.specs.declared.client.LastRequest.TheVariants.{CancelledUnseen, Fresh, RepliedTo, Waits}
use Rattle.rv_account.specs.state.After.{state_of}
use Rattle.rv_account.specs.state.Moves.{StateNextUnder, Ticked, answer_told, ticked_at, told_again}
use Rattle.rv_account.specs.state.State.{State}
use Rattle.rv_account.proofs.OfState.StateLaws.{moves_step_under, ticks_step}
use Rattle.rv_server_connections.specs.connection.History.{Given}
use Rattle.rv_server_connections.specs.Connections.{HasWire, WiresState}
use Rattle.rv_hub.specs.dispatcher.View.{DispatcherState, DispatcherTerms, begun}
use Rattle.rv_hub.specs.dispatcher.Effects.{AnswersOrWaits, Effect, Does, DoesAll, DoesElapse, IsDueWith}
use Rattle.rv_hub.specs.dispatcher.Effects.{MakesStep, Stepped, entries_of_effect, Asked, Closed, Elapsed}
use Rattle.rv_hub.specs.dispatcher.Effects.{EndedInput, Lacked, Left, Lost, Opened, ReadNothing, Told, TookIn}
use Rattle.rv_hub.specs.dispatcher.Effects.{Wrote}
use Rattle.rv_hub.specs.dispatcher.Telling.{IsToldAgain}
use Rattle.rv_hub.specs.EventEffects.{all_effects}
use Rattle.rv_hub.specs.HubRuns.{AddsEntries, IsHubAccount}
use Rattle.rv_hub.specs.Pairing.{HasPairs}
use Rattle.rv_hub.specs.Pasts.{HasPast, Past, is_effect_of, no_past, past_after, past_by, with_answer}
use Rattle.rv_hub.specs.Pasts.{with_frame, with_said}
use Rattle.rv_hub.specs.Turns.{made_by}
use Rattle.rv_hub.proofs.Accounts.{effect_leads, effects_lead, effects_rise, events_rise, next_here}
use Rattle.rv_hub.proofs.Accounts.{own_before, same_account}
use Rattle.rv_hub.proofs.HandedOver.{entries_counted}
use Rattle.rv_hub.proofs.Histories.{by_own, past_on}
use Rattle.rv_hub.proofs.Longer.{answers_written, effect_counts, effects_count}
use Rattle.rv_hub.proofs.Paired.{effects_pairs, same_length}
use Rattle.rv_hub.proofs.Repeating.{account_is, as_a_repeat}
use Rattle.rv_world.proofs.OfParts.Words.{Contains-push}
use Rattle.rv_world.specs.declared.parts.packet.Packet.{Packet}
use Rattle.rv_world.specs.parts.Events.{sender}
use Rattle.rv_store.specs.servers.crashes.Crashes.{Server}
use Rattle.rv_store.specs.servers.crashes.Laws.{EffectsKeepServers}
use Rattle.rv_store.specs.servers.Laws.{HubsAreServers}
use Rattle.rv_store.specs.servers.Serving.{AreHeldAtServer, IsHeldAtServer, IsHubServer, IsOfHub}
use Rattle.rv_store.specs.servers.Serving.{LeadsServer, messages_by, messages_in, messages_of}
use Rattle.rv_store.proofs.OfServers.Pairs.{pair_answer, pair_both, pair_frame}
use Rattle.rv_store.proofs.OfServers.Room.{adds_after}
use Rattle.rv_store.proofs.OfServers.Servers.{Moves, MovesTelling, passes, runs_more, runs_on}
use Rattle.rv_store.proofs.OfServers.Servers.{server_more}
use Rattle.rv_store.proofs.OfServers.Servers.{stays, steps, stores}

-- ---- the account's own steps

step_next : (terms : DispatcherTerms) (a b : Account) (s t : DispatcherState) (step : Stepped) (said : Answer)
    → MakesStep terms s step said t → s.now ≤ max_moment → IsHubAccount a s → AddsEntries a step.entries b
    → NextUnder terms.limits a s.now step.message b said
step_next terms a b s t step said makes time is adds =
    let next = next_here terms.limits s.book s.now step.message makes.move is.later time is.none_due
    makes.moves in
    let own = subst (λ (x : State). StateNextUnder terms.limits x s.now step.message makes.move)
    (sym is.state) next in
    let moved = moves_step_under terms.limits a s.now step.message makes.move is.legal own in
    let one : moved.after ≡ b = account_is b moved.after (moved.is.epoch ∙ sym adds.epoch)
    (moved.is.opened ∙ sym adds.opened)
    (moved.is.entries ∙ ap (λ l. a.entries ++ l) (sym makes.entries_are) ∙ sym adds.entries) in
    subst (λ (c : Account). NextUnder terms.limits a s.now step.message c said) one
    (subst (λ x. NextUnder terms.limits a s.now step.message moved.after x) (sym makes.said_is) moved.next)

elapsed_ticks : (a b : Account) (s t : DispatcherState) (moment : ℕ) (entries : List Entry) (settled :
    List Key)
    → DoesElapse s moment entries settled t → IsHubAccount a s → AddsEntries a entries b → Ticks a moment b
elapsed_ticks a b s t moment entries settled does is adds =
    let ticks = ticks_step a moment is.legal (own_before a s moment is does.later) in
    let same : ticked_at (state_of a) moment ≡ ticked_at s.book moment =
    ap (λ (x : State). ticked_at x moment) is.state in
    subst (Ticks a moment) (account_is b ticks.after (ticks.is.epoch ∙ sym adds.epoch)
    (ticks.is.opened ∙ sym adds.opened)
    (ticks.is.entries ∙ ap (λ (k : Ticked). a.entries ++ k.entries) same
    ∙ ap (λ l. a.entries ++ l) (sym does.entries_are) ∙ sym adds.entries)) ticks.ticks

-- what whoever waited is told rests on all entries
told_rests : (key : Key) (request : LastRequest) (count : ℕ)
    → rests_on (answer_told key (told_again request)) count ≡ count
told_rests key Fresh count = refl
told_rests key (Waits place call) count = refl
told_rests key (RepliedTo call reply) count = refl
told_rests key CancelledUnseen count = refl

again_rests : (s : State) (key : Key) (said : Answer) (count : ℕ) → IsToldAgain s key said
    → rests_on said count ≡ count
again_rests s key said count told =
    elim told.told [
      | inl own ↦ ap (λ x. rests_on x count) own.2 ∙ told_rests key told.session.request count
      | inr old ↦ ap (λ x. rests_on x count) old.1
    ]

-- ---- what is held back

pub carried : (server later : Server) (frames : List (List ℕ)) (answers : List Given)
    → ((packet : Packet) (count : ℕ) → Contains server.withheld (packet, count)
    → Contains later.withheld (packet, count))
    → AreHeldAtServer server frames answers → AreHeldAtServer later frames answers
carried server later frames answers still held place body given there answered =
    one (held place body given there answered)
  where
    one : IsHeldAtServer server body given → IsHeldAtServer later body given
    one (inl none) = inl none
    one (inr (inl lacks)) = inr (inl lacks)
    one (inr (inr (message, is, by))) = inr (inr (
      message,
      is,
      record {
        packet = by.packet;
        client_is = by.client_is;
        body_is = by.body_is;
        held = still by.packet given.rests_on by.held;
      },
    ))

held_for : (server : Server) (body : List ℕ) (message : Message) (said : Answer) (count total : ℕ)
    → IsMessageBody body message
    → Contains server.withheld (record { client = sender message; answer = said }, total) → count ≡ total
    → IsHeldAtServer server body (record { body = answer_text said; rests_on = count })
held_for server body message said count total is held same = inr (inr (
  message,
  is,
  record {
    packet = record { client = sender message; answer = said };
    client_is = refl;
    body_is = refl;
    held = subst (λ k. Contains server.withheld (record { client = sender message; answer = said }, k))
        (sym same) held;
  },
))

-- ---- the past of one connection after an effect

abbrev HeldPast : Server → Past → Type 0
HeldPast server past = AreHeldAtServer server past.frames past.answers

module _ (server : Server) (s mid : DispatcherState) (wires : mid.open_wires ≡ s.open_wires) (n m : ℕ)
    (body : List ℕ) (past : Past) (has : HasPast s n past) (held : HeldPast server past)
    (frame : HasWire mid.open_wires m (λ wire. IsDueWith wire body)) where
  due_here : n ≡ m → length past.frames ≡ length past.answers
  due_here same =
      same_length s n m body past has
      (subst (λ (w : WiresState). HasWire w m (λ wire. IsDueWith wire body)) wires frame) same

  now_held : (count : ℕ) (said : Answer)
      → IsHeldAtServer server body (record { body = answer_text said; rests_on = count })
      → HeldPast server (cond (nat_eq n m) (with_answer (with_frame past body) count said) past)
  now_held count said is =
      by_own (HeldPast server) n m (with_answer (with_frame past body) count said) past
      (λ same. pair_both (IsHeldAtServer server) past.frames past.answers body
      (record { body = answer_text said; rests_on = count }) (due_here same) is held)
      (λ apart. held)

  waits_held : HeldPast server (cond (nat_eq n m) (with_frame past body) past)
  waits_held =
      by_own (HeldPast server) n m (with_frame past body) past
      (λ same. pair_frame (IsHeldAtServer server) past.frames past.answers body (due_here same) held)
      (λ apart. held)

  -- the answer to a step, which is held back
  said_held : (said : Answer) (message : Message) (count total : ℕ) → IsMessageBody body message
      → Contains server.withheld (record { client = sender message; answer = said }, rests_on said total)
      → count ≡ total
      → HeldPast server (cond (nat_eq n m) (with_said (with_frame past body) count said) past)
  said_held (answer.Waiting key) message count total is by same = waits_held
  said_held (answer.Replied key reply) message count total is by same =
      now_held count (answer.Replied key reply)
      (held_for server body message (answer.Replied key reply) count total is by same)
  said_held (answer.Welcome epoch client incarnation version) message count total is by same =
      now_held count (answer.Welcome epoch client incarnation version)
      (held_for server body message (answer.Welcome epoch client incarnation version) count total is by same)
  said_held (answer.Refused refusal) message count total is by same =
      now_held (rests_on (answer.Refused refusal) count) (answer.Refused refusal)
      (held_for server body message (answer.Refused refusal) (rests_on (answer.Refused refusal) count)
      (rests_on (answer.Refused refusal) total) is by
      (ap (λ k. rests_on (answer.Refused refusal) k) same))

kept_own : (server : Server) (n m : ℕ) (own past : Past) → HeldPast server own → HeldPast server past
    → HeldPast server (cond (nat_eq n m) own past)
kept_own server n m own past is held = by_own (HeldPast server) n m own past (λ _. is) (λ _. held)

none_held : (server : Server) → HeldPast server no_past
none_held server place body given there answered = absurd (none-some body there)

-- the frame that a step took
due_frame : (terms : DispatcherTerms) (s t : DispatcherState) (m : ℕ) (body : List ℕ) (said : Answer)
    → AnswersOrWaits terms s m body said t → HasWire s.open_wires m (λ wire. IsDueWith wire body)
due_frame terms s t m body (answer.Waiting key) does = does.frame
due_frame terms s t m body (answer.Replied key reply) does = does.frame
due_frame terms s t m body (answer.Welcome epoch client incarnation version) does = does.frame
due_frame terms s t m body (answer.Refused refusal) does = does.frame

-- ---- each effect

abbrev pasts_by : (ℕ → Past) → ℕ → Effect → ℕ → Past
pasts_by pasts entries effect n = cond (is_effect_of n effect) (past_by (pasts n) entries effect) (pasts n)

led : (limits : StepLimits) (messages : List Message) (server : Server) (b : Account) (t : DispatcherState)
    (pasts : ℕ → Past) (moves : Moves limits messages server b t.open_wires.written)
    → ((n : ℕ) → HeldPast moves.later (pasts n)) → LeadsServer limits messages server b t pasts
led limits messages server b t pasts moves held = record {
  effects = moves.effects;
  are = moves.are;
  later = moves.later;
  runs = moves.runs;
  is = record {
    server_is = moves.server_is;
    made_is = moves.made_is;
    stored_is = moves.stored_is;
    answers = held;
  };
}

none_added : (a b : Account) → AddsEntries a [] b → a ≡ b
none_added a b adds =
    sym (account_is a b adds.epoch adds.opened (adds.entries ∙ append-nil a.entries))

module _ (keep : EffectsKeepServers) (terms : DispatcherTerms) (s : DispatcherState) (a : Account) (messages :
    List Message)
    (server : Server) (pasts : ℕ → Past) (time : s.now ≤ max_moment) (is : IsHubAccount a s)
    (pairs : (n : ℕ) → HasPairs terms.limits a s n (pasts n))
    (serves : IsHubServer messages server a s pasts) where
  -- no effect of the server
  quiet : (t : DispatcherState) (b : Account) (more : List Message) → AddsEntries a [] b
      → t.open_wires.written ≡ s.open_wires.written
      → Moves terms.limits (messages ++ more) server b t.open_wires.written
  quiet t b more adds written =
      stays terms.limits (messages ++ more) server a b t.open_wires.written
      (server_more messages more server serves.server_is) serves.made_is (serves.stored_is ∙ sym written)
      (none_added a b adds)

  quiet_leads : (effect : Effect) (t : DispatcherState) (b : Account) (more : List Message)
      → AddsEntries a [] b
      → t.open_wires.written ≡ s.open_wires.written → (count : ℕ)
      → ((later : Server) (n : ℕ) → HeldPast later (pasts n) → HeldPast later (pasts_by pasts count effect n))
      → LeadsServer terms.limits (messages ++ more) server b t (pasts_by pasts count effect)
  quiet_leads effect t b more adds written count own =
      let moves = quiet t b more adds written in
      led terms.limits (messages ++ more) server b t (pasts_by pasts count effect) moves
      (λ n. own moves.later n (carried server moves.later (pasts n).frames (pasts n).answers moves.still
      (serves.answers n)))

  -- a step with a frame's message
  stepped : (t mid : DispatcherState) (b : Account) (step : Stepped) (said : Answer)
      → MakesStep terms s step said mid
      → AddsEntries a step.entries b → t.open_wires.written ≡ s.open_wires.written
      → MovesTelling terms.limits (messages ++ step.message ∷ []) server b t.open_wires.written step.message
      said
  stepped t mid b step said makes adds written =
      steps keep (messages ++ step.message ∷ []) server a b step.entries t.open_wires.written
      (server_more messages (step.message ∷ []) server serves.server_is) serves.made_is
      (serves.stored_is ∙ sym written) adds terms.limits s.now step.message said
      (Contains-push messages step.message) (step_next terms a b s mid step said makes time is adds)

  -- of which the answer found no memory, or went with its connection
  untold : (t mid : DispatcherState) (b : Account) (step : Stepped) (said : Answer) (effect : Effect) (count :
      ℕ)
      → MakesStep terms s step said mid → AddsEntries a step.entries b
      → t.open_wires.written ≡ s.open_wires.written
      → ((later : Server) (n : ℕ) → HeldPast later (pasts n) → HeldPast later (pasts_by pasts count effect n))
      → LeadsServer terms.limits (messages ++ step.message ∷ []) server b t (pasts_by pasts count effect)
  untold t mid b step said effect count makes adds written own =
      let moves = (stepped t mid b step said makes adds written).moves in
      led terms.limits (messages ++ step.message ∷ []) server b t (pasts_by pasts count effect) moves
      (λ n. own moves.later n (carried server moves.later (pasts n).frames (pasts n).answers moves.still
      (serves.answers n)))

  asked : (t : DispatcherState) (b : Account) (m : ℕ) (body : List ℕ) (step : Stepped) (said : Answer)
      → Does terms s (Asked m body step said) t → AddsEntries a step.entries b
      → LeadsServer terms.limits (messages ++ step.message ∷ []) server b t
      (pasts_by pasts (s.book.length + length step.entries) (Asked m body step said))
  asked t b m body step said does adds =
      let mid = does.between in
      let wires = ap (λ (u : DispatcherState). u.open_wires) does.steps.after in
      let written : t.open_wires.written ≡ s.open_wires.written =
      answers_written terms mid t m body said does.rest ∙ ap (λ (w : WiresState). w.written) wires in
      let telling = stepped t mid b step said does.steps adds written in
      let later = telling.moves.later in
      let counted : s.book.length + length step.entries ≡ length b.entries =
      entries_counted a s step.entries is ∙ ap length (sym adds.entries) in
      led terms.limits (messages ++ step.message ∷ []) server b t _ telling.moves
      (λ n. said_held later s mid wires n m body (pasts n) (pairs n).has
      (carried server later (pasts n).frames (pasts n).answers telling.moves.still (serves.answers n))
      (due_frame terms mid t m body said does.rest) said step.message
      (s.book.length + length step.entries) (length b.entries) does.is telling.held counted)

  -- whoever waited is told: a step with the request again
  told : (t : DispatcherState) (b : Account) (m : ℕ) (key : Key) (said : Answer)
      → Does terms s (Told m key said) t
      → AddsEntries a [] b
      → LeadsServer terms.limits (messages ++ []) server b t (pasts_by pasts (s.book.length + 0)
      (Told m key said))
  told t b m key said does adds =
      let waits = ((pairs m).pairs.waits does.subscription does.waited).1 in
      let request : Message = Request key waits.call in
      let own : request ≡ Request does.subscription.key waits.call =
      ap (λ (k : Key). Request k waits.call) (sym does.key_is) in
      let arrived : act_at a.entries waits.place ≡ Some (Arrive key waits.call) =
      waits.arrived ∙ ap (λ (k : Key). Some (Arrive k waits.call)) does.key_is in
      let next = as_a_repeat terms s t a m key said waits.call waits.place time is does arrived in
      let server_is = server_more messages [] server serves.server_is in
      let came : Contains (messages ++ []) request = server_is.arrivals waits.place key waits.call
      (subst (λ (c : Account). act_at c.entries waits.place ≡ Some (Arrive key waits.call))
      (sym serves.made_is) arrived) in
      let telling = steps keep (messages ++ []) server a b [] t.open_wires.written server_is serves.made_is
      (serves.stored_is ∙ sym does.answers.sets.written) adds terms.limits s.now request said came
      (subst (λ (c : Account). NextUnder terms.limits a s.now request c said) (none_added a b adds) next) in
      let later = telling.moves.later in
      let counted : s.book.length + 0 ≡ length b.entries =
      entries_counted a s [] is ∙ ap length (sym adds.entries) in
      let held : (n : ℕ) → HeldPast later (pasts n) = λ n.
      carried server later (pasts n).frames (pasts n).answers telling.moves.still (serves.answers n) in
      led terms.limits (messages ++ []) server b t _ telling.moves
      (λ n. by_own (HeldPast later) n m (with_answer (pasts n) (s.book.length + 0) said) (pasts n)
      (λ same. pair_answer (IsHeldAtServer later) (pasts n).frames (pasts n).answers waits.body
      (record { body = answer_text said; rests_on = s.book.length + 0 })
      (subst (λ k. slice_get (pasts k).frames (length (pasts k).answers) ≡ Some waits.body) (sym same)
      waits.frame)
      (held_for later waits.body request said (s.book.length + 0) (rests_on said (length b.entries))
      (subst (IsMessageBody waits.body) (sym own) waits.is) telling.held
      (counted ∙ sym (again_rests s.book key said (length b.entries) does.told))) (held n))
      (λ apart. held n))

  effect_serves : (effect : Effect) (t : DispatcherState) (b : Account) → Does terms s effect t
      → t.now ≤ max_moment
      → AddsEntries a (entries_of_effect effect) b
      → LeadsServer terms.limits (messages ++ messages_of effect) server b t
      (pasts_by pasts (s.book.length + length (entries_of_effect effect)) effect)
  effect_serves (Elapsed moment entries settled) t b does later adds =
      let now : t.now ≡ moment = ap (λ (u : DispatcherState). u.now) does.after in
      let moves = passes keep (messages ++ []) server a b entries t.open_wires.written
      (server_more messages [] server serves.server_is) serves.made_is
      (serves.stored_is ∙ sym (ap (λ (u : DispatcherState). u.open_wires.written) does.after)) adds
      terms.limits
      moment
      (own_before a s moment is does.later) (omega arith)
      (elapsed_ticks a b s t moment entries settled does is adds) in
      led terms.limits (messages ++ []) server b t _ moves
      (λ n. carried server moves.later (pasts n).frames (pasts n).answers moves.still (serves.answers n))
  effect_serves (Opened m) t b does later adds =
      quiet_leads (Opened m) t b [] adds does.opens.sets.written (s.book.length + 0)
      (λ later n held. kept_own later n m no_past (pasts n) (none_held later) held)
  effect_serves (TookIn m bytes) t b does later adds =
      quiet_leads (TookIn m bytes) t b [] adds does.changes.sets.written (s.book.length + 0)
      (λ later n held. kept_own later n m (record (pasts n) { came = (pasts n).came ++ bytes }) (pasts n) held
      held)
  effect_serves (EndedInput m) t b does later adds =
      quiet_leads (EndedInput m) t b [] adds does.changes.sets.written (s.book.length + 0)
      (λ later n held. kept_own later n m (pasts n) (pasts n) held held)
  effect_serves (Left m count) t b does later adds =
      quiet_leads (Left m count) t b [] adds does.changes.sets.written (s.book.length + 0)
      (λ later n held. kept_own later n m (record (pasts n) { sent = (pasts n).sent + count }) (pasts n) held
      held)
  effect_serves (Wrote entries) t b does later adds =
      let same = none_added a b adds in
      let counted : s.book.length + 0 ≡ length b.entries =
      entries_counted a s [] is ∙ ap length (sym adds.entries) in
      let few = does.within in
      let moves = stores keep terms.limits (messages ++ []) server b s.open_wires.written entries
      (server_more messages [] server serves.server_is) (serves.made_is ∙ same) serves.stored_is does.rises
      (omega arith) in
      let own = subst (Moves terms.limits (messages ++ []) server b) (sym does.releases.written_is) moves in
      led terms.limits (messages ++ []) server b t _ own
      (λ n. carried server own.later (pasts n).frames (pasts n).answers own.still (serves.answers n))
  effect_serves (Asked m body step said) t b does later adds = asked t b m body step said does adds
  effect_serves (ReadNothing m body) t b does later adds =
      quiet_leads (ReadNothing m body) t b [] adds does.answers.answers.changes.sets.written
      (s.book.length + 0)
      (λ later n held. now_held later s s refl n m body (pasts n) (pairs n).has held does.answers.frame 0
      (answer.Refused BadText) (inl (does.none, refl)))
  effect_serves (Lacked m body None) t b does later adds =
      quiet_leads (Lacked m body None) t b [] adds
      (does.answers.answers.changes.sets.written ∙ ap (λ (u : DispatcherState). u.open_wires.written)
      does.stepped)
      (s.book.length + 0)
      (λ later n held. now_held later s does.between (ap (λ (u : DispatcherState). u.open_wires) does.stepped)
      n m
      body (pasts n) (pairs n).has held does.answers.frame 0 (answer.Refused NoMemory) (inr (inl refl)))
  effect_serves (Lacked m body (Some step)) t b does later adds =
      let wires = ap (λ (u : DispatcherState). u.open_wires) does.stepped.steps.after in
      untold t does.between b step does.stepped.said (Lacked m body (Some step))
      (s.book.length + length step.entries) does.stepped.steps adds
      (does.answers.answers.changes.sets.written ∙ ap (λ (w : WiresState). w.written) wires)
      (λ later n held. now_held later s does.between wires n m body (pasts n) (pairs n).has held
      does.answers.frame 0 (answer.Refused NoMemory) (inr (inl refl)))
  effect_serves (Lost m body step) t b does later adds =
      untold t does.between b step does.stepped.said (Lost m body step)
      (s.book.length + length step.entries) does.stepped.steps adds
      (does.closes.sets.written ∙ ap (λ (u : DispatcherState). u.open_wires.written) does.stepped.steps.after)
      (λ later n held. kept_own later n m (pasts n) (pasts n) held held)
  effect_serves (Told m key said) t b does later adds = told t b m key said does adds
  effect_serves (Closed m) t b does later adds =
      quiet_leads (Closed m) t b [] adds does.sets.written (s.book.length + 0)
      (λ later n held. kept_own later n m (pasts n) (pasts n) held held)

-- ---- effects, one after another

leads_on : (limits : StepLimits) (messages more : List Message) (server : Server) (m b : Account)
    (mid t : DispatcherState) (pasts later : ℕ → Past) (first : LeadsServer limits messages server m mid
    pasts)
    → LeadsServer limits (messages ++ more) first.later b t later
    → LeadsServer limits (messages ++ more) server b t later
leads_on limits messages more server m b mid t pasts later first rest = record {
  effects = first.effects ++ rest.effects;
  are = All-append (IsOfHub limits) first.effects rest.effects first.are rest.are;
  later = rest.later;
  runs = runs_on (messages ++ more) server first.effects first.later rest.effects rest.later
      (runs_more messages more server first.effects first.later first.runs) rest.runs;
  is = rest.is;
}

pasts_are : (limits : StepLimits) (messages : List Message) (server : Server) (b : Account)
    (t : DispatcherState)
    (one other : ℕ → Past) → ((n : ℕ) → one n ≡ other n) → LeadsServer limits messages server b t one
    → LeadsServer limits messages server b t other
pasts_are limits messages server b t one other same leads = record {
  effects = leads.effects;
  are = leads.are;
  later = leads.later;
  runs = leads.runs;
  is = record {
    server_is = leads.is.server_is;
    made_is = leads.is.made_is;
    stored_is = leads.is.stored_is;
    answers = λ n. subst (HeldPast leads.later) (same n) (leads.is.answers n);
  };
}

pub effects_serve : (keep : EffectsKeepServers) (terms : DispatcherTerms) (effects : List Effect)
    (s t : DispatcherState)
    (a b : Account) (messages : List Message) (server : Server) (pasts : ℕ → Past)
    → AreStepLimits terms.limits → DoesAll terms s effects t → t.now ≤ max_moment → IsHubAccount a s
    → AddsEntries a (flat_map entries_of_effect effects) b
    → ((n : ℕ) → HasPairs terms.limits a s n (pasts n)) → IsHubServer messages server a s pasts
    → LeadsServer terms.limits (messages ++ messages_by effects) server b t
    (λ n. past_after n (pasts n) s.book.length effects)
effects_serve keep terms [] s t a b messages server pasts limits same time is adds pairs serves = record {
  effects = [];
  are = All-nil (IsOfHub terms.limits);
  later = server;
  runs = refl;
  is = record {
    server_is = server_more messages [] server serves.server_is;
    made_is = serves.made_is ∙ none_added a b adds;
    stored_is = serves.stored_is ∙ sym (ap (λ (u : DispatcherState). u.open_wires.written) same);
    answers = serves.answers;
  };
}
effects_serve keep terms (effect ∷ effects) s t a b messages server pasts limits (mid, does, more) time is
    adds
    pairs serves =
    let made = entries_of_effect effect in
    let later = effects_rise terms effects mid t more in
    let rises = effects_rise terms (effect ∷ []) s mid (mid, does, refl) in
    let first = effect_leads terms effect s mid a limits does (omega arith) (omega arith) is in
    let here = s.book.length + length made in
    let now = pasts_by pasts here effect in
    let one = effect_serves keep terms s a messages server pasts (omega arith) is pairs serves effect mid
    first.after does (omega arith) first.adds in
    let alone = subst (λ l. AddsEntries a l first.after) (sym (append-nil made)) first.adds in
    let pairs_now : (n : ℕ) → HasPairs terms.limits first.after mid n (now n) = λ n.
    effects_pairs terms (effect ∷ []) s mid a first.after limits (mid, does, refl) (omega arith) is alone n
    (pasts n) (pairs n) in
    let rest = effects_serve keep terms effects mid t first.after b (messages ++ messages_of effect) one.later
    now
    limits more time first.is (adds_after a first.after b made (flat_map entries_of_effect effects) first.adds
    adds) pairs_now one.is in
    let counted : mid.book.length ≡ here = effect_counts terms effect s mid does in
    let after_rest : ℕ → Past = λ n. past_after n (now n) mid.book.length effects in
    let after_all : ℕ → Past = λ n. past_after n (pasts n) s.book.length (effect ∷ effects) in
    let came : List Message = messages ++ messages_of effect in
    let more : List Message = messages_by effects in
    subst (λ (l : List Message). LeadsServer terms.limits l server b t after_all)
    (append_assoc messages (messages_of effect) more)
    (leads_on terms.limits came more server first.after b mid t now after_all one
    (pasts_are terms.limits (came ++ more) one.later b t after_rest after_all
    (λ n. ap (λ k. past_after n (now n) k effects) counted) rest))

-- ---- events

begun_pairs : (terms : DispatcherTerms) (a : Account) (s : DispatcherState) (n : ℕ) (past : Past)
    → HasPairs terms.limits a s n past → HasPairs terms.limits a (begun s) n past
begun_pairs terms a s n past is = record {
  has = is.has;
  pairs = record { paired = is.pairs.paired; waits = is.pairs.waits };
}

begun_serves : (messages : List Message) (server : Server) (a : Account) (s : DispatcherState) (pasts : ℕ
    → Past)
    → IsHubServer messages server a s pasts → IsHubServer messages server a (begun s) pasts
begun_serves messages server a s pasts is = record {
  server_is = is.server_is;
  made_is = is.made_is;
  stored_is = is.stored_is;
  answers = is.answers;
}

pub events_serve : EffectsKeepServers → HubsAreServers
events_serve keep terms [] s t a b messages server pasts limits same time is adds pairs serves =
    effects_serve keep terms [] s t a b messages server pasts limits same time is adds pairs serves
events_serve keep terms (effects ∷ events) s t a b messages server pasts limits (mid, does, more) time is adds
    pairs serves =
    let made = flat_map entries_of_effect effects in
    let count = s.book.length in
    let later = events_rise terms events mid t more in
    let is_begun = same_account a s (begun s) refl refl is in
    let first = effects_lead terms effects (begun s) mid a limits does (omega arith) is_begun in
    let now : ℕ → Past = λ n. past_after n (pasts n) count effects in
    let begun_now = λ (n : ℕ). begun_pairs terms a s n (pasts n) (pairs n) in
    let one = effects_serve keep terms effects (begun s) mid a first.after messages server pasts limits does
    (omega arith) is_begun first.adds begun_now (begun_serves messages server a s pasts serves) in
    let pairs_now : (n : ℕ) → HasPairs terms.limits first.after mid n (now n) = λ n.
    effects_pairs terms effects (begun s) mid a first.after limits does (omega arith) is_begun first.adds n
    (pasts n) (begun_now n) in
    let rest = events_serve keep terms events mid t first.after b (messages ++ messages_by effects) one.later
    now
    limits more time first.is (adds_after a first.after b made (made_by events) first.adds adds) pairs_now
    one.is in
    let counted : mid.book.length ≡ count + length made = effects_count terms effects (begun s) mid does in
    let after_rest : ℕ → Past = λ n. past_after n (now n) mid.book.length (all_effects events) in
    let after_all : ℕ → Past = λ n. past_after n (pasts n) count (all_effects (effects ∷ events)) in
    let came : List Message = messages ++ messages_by effects in
    let more : List Message = messages_in events in
    subst (λ (l : List Message). LeadsServer terms.limits l server b t after_all)
    (append_assoc messages (messages_by effects) more
    ∙ ap (λ l. messages ++ l) (sym (flat_map-append messages_of effects (all_effects events))))
    (leads_on terms.limits came more server first.after b mid t now after_all one
    (pasts_are terms.limits (came ++ more) one.later b t after_rest after_all
    (λ n. ap (λ k. past_after n (now n) k (all_effects events)) counted
    ∙ sym (past_on n (pasts n) count effects (all_effects events))) rest))
