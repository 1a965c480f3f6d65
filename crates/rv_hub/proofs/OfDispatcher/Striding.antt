-- A frame is answered, and then all that it settled are told.
use Rattle.std.proofs.Common.{inl, inr, ◌≡◌, ◌+◌, ◌<◌, ◌≤◌, ◌∙◌, ◌++◌, ◌∷◌, ◌⊎◌, ℕ, List, [], None, Some}
use Rattle.std.proofs.Common.{refl, sym, ap, subst, arith, Err, Ok, Result}
use Rattle.std.specs.Prelude.{flat_map, vec_capacity}
use Rattle.std.specs.Global.{Vec}
use Rattle.std.proofs.lemmas.Bool.{cases_eq}
use Rattle.std.proofs.lemmas.List.{append-nil}
use Rattle.rv_text.specs.declared.message.Key.{Key}
use Rattle.rv_text.specs.declared.message.Message.{Message}
use Rattle.rv_text.specs.declared.answer.Answer.{Answer}
use Rattle.rv_text.specs.declared.answer.Answer.TheVariants as answer
use Rattle.rv_text.specs.declared.answer.Refusal.TheVariants.{BadText, NoMemory}
use Rattle.rv_text.specs.Bodies.{Decodes, IsMessageBody, answer_text}
use Rattle.rv_json.specs.declared.fault.TextFault.{TextFault}
use Rattle.rv_json.specs.declared.fault.TextFault.TheVariants as fault
use Rattle.rv_account.specs.declared.entry.Entry.{Entry}
use Rattle.rv_account.specs.state.After.{due_at}
use Rattle.rv_account.specs.state.State.{State}
use Rattle.rv_machine.specs.declared.machine.Said.{Said}
use Rattle.rv_machine.specs.Machines.{Says, keys_settled, state_in}
use Rattle.rv_account.specs.state.waiting.Waiting.{WaitsOn}
use Rattle.rv_server_connections.specs.declared.subscribers.tables.Subscription.{Subscription}
use Rattle.rv_server_connections.specs.subscribers.Subscription.{SetsSubscription, WhoHears}
use Rattle.rv_hub.specs.declared.dispatcher.Dispatcher.{Dispatcher}
use Rattle.rv_hub.specs.dispatcher.View.{DispatcherState, DispatcherTerms}
use Rattle.rv_server_connections.specs.Connections.{HasWire}
use Rattle.rv_hub.specs.dispatcher.Effects.{AnswersNow, Effect, Does, DoesClose, IsDueWith, MakesStep}
use Rattle.rv_hub.specs.dispatcher.Effects.{Stepped, bytes_by, bytes_in, entries_of_effect, settled_by}
use Rattle.rv_hub.specs.dispatcher.Effects.{told_of_effect, told_in_effects, Asked, Closed, Lacked, Lost}
use Rattle.rv_hub.specs.dispatcher.Effects.{ReadNothing}
use Rattle.rv_hub.specs.dispatcher.Order.{IsOwnEffect, MayDo, TellsKeys}
use Rattle.rv_hub.specs.dispatcher.Rest.{SubscribersInTime, SubscribersWait}
use Rattle.rv_hub.specs.dispatcher.Fields.{IsDispatcherSound, IsSteady, dispatcher_state, dispatcher_terms}
use Rattle.rv_hub.specs.dispatcher.Going.{GoesTelling, SubscribersWaitOr, IsFrameDue, IsAmongKeys, MaySay}
use Rattle.rv_hub.specs.dispatcher.Going.{SaysOrLacks, SaysIt, StepsIt, StillGoes, Strides, TakesDueFrame}
use Rattle.rv_hub.specs.dispatcher.Going.{TellsThem, fault_answer, unread_at, work_left}
use Rattle.rv_hub.proofs.OfDispatcher.Answering.{some_is}
use Rattle.rv_hub.proofs.OfDispatcher.Done.{keys_done, keys_fewer}
use Rattle.rv_hub.proofs.OfDispatcher.KeyByKey.{no_keys}
use Rattle.rv_hub.proofs.OfDispatcher.Quiet.{keys_quiet, keys_unread}
use Rattle.rv_hub.proofs.OfDispatcher.Tellings.{goes_none}
use Rattle.rv_hub.proofs.OfDispatcher.ToldOne.{fewer_hear}

-- ---- who waits after an answer

-- each that waits afterwards waited before, or is the one, with this
abbrev AllHear : (ℕ → Subscription → Type 0) → WhoHears → Type 0
AllHear P who = (connection : ℕ) (subscription : Subscription) → who connection ≡ Some subscription
    → P connection subscription

hear_bytes : (P : ℕ → Subscription → Type 0) (s t : DispatcherState)
    → t ≡ record s { open_wires = t.open_wires; changed = t.changed }
    → AllHear P s.hears → AllHear P t.hears
hear_bytes P s t rest all connection subscription there =
    all connection subscription (ap (λ (u : DispatcherState). u.hears connection) (sym rest) ∙ there)

hear_less : (P : ℕ → Subscription → Type 0) (was now : WhoHears) (one : ℕ) → SetsSubscription was one None now
    → AllHear P was
    → AllHear P now
hear_less P was now one sets all connection subscription there =
    all connection subscription (fewer_hear was now one sets connection subscription there)

hear_more : (P : ℕ → Subscription → Type 0) (was now : WhoHears) (one : ℕ) (own : Subscription)
    → SetsSubscription was one (Some own) now → ((n : ℕ) → P n own) → AllHear P was → AllHear P now
hear_more P was now one own sets is all connection subscription there =
    elim (cases_eq connection one) [
      | inl same ↦
          let found : own ≡ subscription = some_is own subscription (sym sets.own ∙ ap now (sym same) ∙ there)
          in
          subst (λ h. P connection h) found (is connection)
      | inr apart ↦ all connection subscription (sym (sets.others connection apart) ∙ there)
    ]

-- after what is said of a step
said_hear : (P : ℕ → Subscription → Type 0) (terms : DispatcherTerms) (s t : DispatcherState) (connection : ℕ)
    (body : List ℕ)
    (a : Answer)
    → ((key : Key) → a ≡ answer.Waiting key → (n : ℕ)
    → P n (record { key = key; until = s.now + terms.patience }))
    → SaysOrLacks terms s connection body a t → AllHear P s.hears → AllHear P t.hears
said_hear P terms s t connection body (answer.Waiting key) own (inl waits) all =
    hear_more P s.hears t.hears connection (record { key = key; until = s.now + terms.patience }) waits.hears
    (own key refl) all
said_hear P terms s t connection body (answer.Replied key reply) own (inl now) all =
    hear_bytes P s t now.answers.rest all
said_hear P terms s t connection body (answer.Welcome epoch client incarnation version) own (inl now) all =
    hear_bytes P s t now.answers.rest all
said_hear P terms s t connection body (answer.Refused refusal) own (inl now) all = hear_bytes P s t
    now.answers.rest all
said_hear P terms s t connection body a own (inr (inl lacks)) all = hear_bytes P s t lacks.answers.rest all
said_hear P terms s t connection body a own (inr (inr closed)) all =
    hear_less P s.hears t.hears connection closed.hears all

-- ---- whom it settled is told

pub settled_told : (terms : DispatcherTerms) (s t : DispatcherState) (keys : List Key) (effects : List Effect)
    → t.book ≡ s.book
    → TellsKeys terms s keys effects t → SubscribersWaitOr keys s → SubscribersWait t
settled_told terms s t keys effects book tells waits connection subscription there =
    let was = keys_fewer terms s t keys effects tells connection subscription there in
    elim (waits connection subscription was) [
      | inl still ↦ subst (λ b. WaitsOn b subscription.key) (sym book) still
      | inr listed ↦ absurd (keys_done terms s t keys effects tells listed.0 subscription.key listed.1
          connection
          (record { subscription = subscription; there = there; same = refl }))
    ]

-- ---- dispatchers one after another

-- the wires and subscribers alone changed, or those that are freed too
behind_both : (d1 d2 d3 : Dispatcher) → d2 ≡ record d1 { wires = d2.wires; subscribers = d2.subscribers }
    → d3 ≡ record d2 { wires = d3.wires; subscribers = d3.subscribers; freed = d3.freed }
    → d3 ≡ record d1 { wires = d3.wires; subscribers = d3.subscribers; freed = d3.freed }
behind_both d1 d2 d3 r2 r3 =
    r3 ∙ ap (λ (d : Dispatcher). record d {
      wires = d3.wires;
      subscribers = d3.subscribers;
      freed =
          d3.freed;
    }) r2

-- whoever waits after what is said waits for a request that waits, or is listed
waiting_on : (d1 d2 : Dispatcher) (connection : ℕ) (body : List ℕ) (a : Answer)
    → d2 ≡ record d1 { wires = d2.wires; subscribers = d2.subscribers }
    → SaysOrLacks (dispatcher_terms d1) (dispatcher_state d1) connection body a (dispatcher_state d2)
    → MaySay d1 a
    → SubscribersWaitOr d1.machine.settled.items (dispatcher_state d1)
    → SubscribersWaitOr d1.machine.settled.items (dispatcher_state d2)
waiting_on d1 d2 connection body a r2 says may all other subscription there =
    let keys = d1.machine.settled.items in
    subst (λ (b : State). WaitsOn b subscription.key ⊎ IsAmongKeys keys subscription.key)
    (sym (ap (λ (d : Dispatcher). state_in d.machine) r2))
    (said_hear (λ n h. WaitsOn (state_in d1.machine) h.key ⊎ IsAmongKeys keys h.key) (dispatcher_terms d1)
    (dispatcher_state d1)
    (dispatcher_state d2) connection body a (λ key waits n. inl (may.waits key waits)) says all other
    subscription there)

-- and not longer than it may
in_time_on : (d1 d2 : Dispatcher) (connection : ℕ) (body : List ℕ) (a : Answer) → 0 < d1.patience
    → d2 ≡ record d1 { wires = d2.wires; subscribers = d2.subscribers }
    → SaysOrLacks (dispatcher_terms d1) (dispatcher_state d1) connection body a (dispatcher_state d2)
    → SubscribersInTime (dispatcher_state d1)
    → SubscribersInTime (dispatcher_state d2)
in_time_on d1 d2 connection body a patient r2 says all other subscription there =
    subst (λ n. n < subscription.until) (sym (ap (λ (d : Dispatcher). d.latest) r2))
    (said_hear (λ n h. d1.latest < h.until) (dispatcher_terms d1) (dispatcher_state d1) (dispatcher_state d2)
    connection body a
    (λ key waits n. omega arith) says all other subscription there)

-- ---- the effect of a frame

abbrev IsFrameAt : DispatcherState → ℕ → List ℕ → Type 0
IsFrameAt s connection body = HasWire s.open_wires connection (λ wire. IsDueWith wire body)

pub record OneEffect (terms : DispatcherTerms) (s t : DispatcherState) (connection : ℕ) (settled : List Key)
    (entries :
    List Entry) :
    Type 0
  where
    pub effect : Effect
    pub does : Does terms s effect t
    pub settled_is : settled_by effect ≡ settled
    pub entries_is : entries_of_effect effect ≡ entries
    pub nobody_told : told_of_effect effect ≡ []
    pub no_bytes : bytes_by effect ≡ []
    pub own : IsOwnEffect connection effect
    pub may : MayDo s [] effect

closing_effect : (terms : DispatcherTerms) (s t : DispatcherState) (connection : ℕ) (body : List ℕ)
    → IsFrameAt s connection body → DoesClose s connection t → OneEffect terms s t connection [] []
closing_effect terms s t connection body frame closed = record {
  effect = Closed connection;
  does = closed;
  settled_is = refl;
  entries_is = refl;
  nobody_told = refl;
  no_bytes = refl;
  own = refl;
  may = record { wire = frame.wire; there = frame.there; so = inr (inl frame.so.due) };
}

pub stepped_effect : (terms : DispatcherTerms) (s m t : DispatcherState) (connection : ℕ) (body : List ℕ)
    (step : Stepped)
    (a : Answer) → IsMessageBody body step.message → IsFrameAt m connection body → MakesStep terms s step a m
    → SaysOrLacks terms m connection body a t → OneEffect terms s t connection step.settled step.entries
stepped_effect terms s m t connection body step a is frame makes (inl now) = record {
  effect = Asked connection body step a;
  does = record { is = is; between = m; steps = makes; rest = now };
  settled_is = refl;
  entries_is = refl;
  nobody_told = refl;
  no_bytes = refl;
  own = refl;
  may = tt;
}
stepped_effect terms s m t connection body step a is frame makes (inr (inl lacks)) = record {
  effect = Lacked connection body (Some step);
  does = record { between = m; stepped = record { is = is; said = a; steps = makes }; answers = lacks };
  settled_is = refl;
  entries_is = refl;
  nobody_told = refl;
  no_bytes = refl;
  own = refl;
  may = tt;
}
stepped_effect terms s m t connection body step a is frame makes (inr (inr closed)) = record {
  effect = Lost connection body step;
  does = record {
    between = m;
    stepped = record { is = is; said = a; steps = makes };
    frame = frame;
    closes = closed;
  };
  settled_is = refl;
  entries_is = refl;
  nobody_told = refl;
  no_bytes = refl;
  own = refl;
  may = tt;
}

-- where no step was made
pub lacking_effect : (terms : DispatcherTerms) (s t : DispatcherState) (connection : ℕ) (body : List ℕ)
    → IsFrameAt s connection body
    → AnswersNow s connection body 0 (answer_text (answer.Refused NoMemory)) t ⊎ DoesClose s connection t
    → OneEffect terms s t connection [] []
lacking_effect terms s t connection body frame (inl now) = record {
  effect = Lacked connection body None;
  does = record { between = s; stepped = refl; answers = now };
  settled_is = refl;
  entries_is = refl;
  nobody_told = refl;
  no_bytes = refl;
  own = refl;
  may = tt;
}
lacking_effect terms s t connection body frame (inr closed) = closing_effect terms s t connection body frame
    closed

pub reading_effect : (terms : DispatcherTerms) (s t : DispatcherState) (connection : ℕ) (body : List ℕ)
    → IsFrameAt s connection body → ((message : Message) → ¬ IsMessageBody body message)
    → AnswersNow s connection body 0 (answer_text (answer.Refused BadText)) t ⊎ DoesClose s connection t
    → OneEffect terms s t connection [] []
reading_effect terms s t connection body frame none (inl now) = record {
  effect = ReadNothing connection body;
  does = record { none = none; answers = now };
  settled_is = refl;
  entries_is = refl;
  nobody_told = refl;
  no_bytes = refl;
  own = refl;
  may = tt;
}
reading_effect terms s t connection body frame none (inr closed) =
    closing_effect terms s t connection body frame closed

-- ---- and whom it settled

pub strides_by : (d0 d2 d3 : Dispatcher) (connection : ℕ) (settled : List Key) (entries : List Entry) (tells :
    List Effect)
    → OneEffect (dispatcher_terms d0) (dispatcher_state d0) (dispatcher_state d2) connection settled entries
    → TellsKeys (dispatcher_terms d0) (dispatcher_state d2) settled tells (dispatcher_state d3)
    → d2.entries.items ≡ d0.entries.items ++ entries → d2.freed.items ≡ d0.freed.items
    → dispatcher_terms d2 ≡ dispatcher_terms d0 → GoesTelling d2 tells d3 → work_left d2 + 2 ≤ work_left d0
    → 3 ≤ unread_at d0 connection → unread_at d2 connection ≡ 0 → Strides d0 connection d3
strides_by d0 d2 d3 connection settled entries tells one told made freed terms goes work had emptied =
    let quiet = keys_quiet (dispatcher_terms d0) (dispatcher_state d2) (dispatcher_state d3) settled tells
    told in
    let unread = keys_unread (dispatcher_terms d0) (dispatcher_state d2) (dispatcher_state d3) settled tells
    told connection in
    let lesser = goes.work in
    let all : entries_of_effect one.effect ++ flat_map entries_of_effect tells ≡ entries =
    ap (λ l. l ++ flat_map entries_of_effect tells) one.entries_is ∙ ap (λ l. entries ++ l) quiet.0
    ∙ append-nil entries in
    record {
      effect = one.effect;
      tells = tells;
      stride = record {
        between = dispatcher_state d2;
        does = one.does;
        told = subst (λ keys. TellsKeys (dispatcher_terms d0) (dispatcher_state d2) keys tells
            (dispatcher_state d3))
            (sym one.settled_is) told;
      };
      own = one.own;
      may = one.may;
      bytes = ap (λ l. l ++ bytes_in tells) one.no_bytes ∙ quiet.1;
      goes = record {
        made = ap (λ (d : Dispatcher). d.entries.items) goes.rest ∙ made ∙ ap (λ l. d0.entries.items ++ l)
            (sym all);
        freed = goes.freed ∙ ap (λ l. l ++ told_in_effects tells) freed
            ∙ ap (λ l. d0.freed.items ++ (l ++ told_in_effects tells)) (sym one.nobody_told);
        terms = ap dispatcher_terms goes.rest ∙ terms;
      };
      work = omega arith;
      had = had;
      emptied = omega arith;
    }

-- ---- a step

pub strided : (d0 d1 d2 d3 : Dispatcher) (connection : ℕ) (message : Message) (told : Said) (body : List ℕ)
    → IsSteady d0
    → IsFrameDue d0 connection body → IsMessageBody body message → StepsIt d0 message told d1
    → StillGoes d0 d1
    → ((a : Answer) → Says (state_in d1.machine) told a → SaysIt d1 connection a d2) → IsDispatcherSound d3
    → TellsThem d2 d2.machine.settled.items d3 → IsSteady d3 × Strides d0 connection d3
strided d0 d1 d2 d3 connection message told body steady asked is steps still says sound tells =
    let move = steps.move in
    let it = says move.answer steps.says in
    let r1 = steps.rest in
    let r2 = it.takes.rest in
    let r3 = tells.goes.rest in
    let terms1 : dispatcher_terms d1 ≡ dispatcher_terms d0 = ap dispatcher_terms r1 in
    let terms2 : dispatcher_terms d2 ≡ dispatcher_terms d0 = ap dispatcher_terms r2 ∙ terms1 in
    let state1 : dispatcher_state d1 ≡ record (dispatcher_state d0) { book = move.after } =
    ap dispatcher_state r1 ∙ ap (λ b. record (dispatcher_state d0) { book = b }) steps.after in
    let asked1 : IsFrameDue d1 connection body =
    subst (λ (d : Dispatcher). IsFrameDue d connection body) (sym r1) (record { frame = asked.frame }) in
    let step : Stepped = record {
      message = message;
      entries = move.entries;
      settled =
          keys_settled move.settles;
    } in
    let makes : MakesStep (dispatcher_terms d0) (dispatcher_state d0) step move.answer (dispatcher_state d1) =
    record {
      move = move;
      moves = steps.moves;
      entries_are = refl;
      said_is = refl;
      settled_are = refl;
      after = state1;
    } in
    let saying : SaysOrLacks (dispatcher_terms d0) (dispatcher_state d1) connection body move.answer
    (dispatcher_state d2) =
    subst (λ t. SaysOrLacks t (dispatcher_state d1) connection body move.answer (dispatcher_state d2)) terms1
    (it.did body asked1) in
    let one = stepped_effect (dispatcher_terms d0) (dispatcher_state d0) (dispatcher_state d1)
    (dispatcher_state d2) connection body
    step
    move.answer is asked1.frame makes saying in
    let keys : d2.machine.settled.items ≡ keys_settled move.settles =
    ap (λ (d : Dispatcher). d.machine.settled.items) r2 ∙ steps.settles in
    let telling : TellsKeys (dispatcher_terms d0) (dispatcher_state d2) (keys_settled move.settles)
    tells.effects
    (dispatcher_state d3) =
    subst (λ ks. TellsKeys (dispatcher_terms d0) (dispatcher_state d2) ks tells.effects (dispatcher_state d3))
    keys
    (subst (λ t. TellsKeys t (dispatcher_state d2) d2.machine.settled.items tells.effects
    (dispatcher_state d3)) terms2
    tells.tells) in
    let saying1 = it.did body asked1 in
    let waits2 : SubscribersWaitOr (keys_settled move.settles) (dispatcher_state d2) =
    subst (λ ks. SubscribersWaitOr ks (dispatcher_state d2)) steps.settles
    (waiting_on d1 d2 connection body move.answer r2 saying1 steps.may_say still.waits) in
    let patient : 0 < d1.patience = subst (λ (d : Dispatcher). 0 < d.patience) (sym r1) steady.sound.patient
    in
    let soon1 : SubscribersInTime (dispatcher_state d1) =
    subst (λ (d : Dispatcher). SubscribersInTime (dispatcher_state d)) (sym r1) steady.in_time in
    let soon2 = in_time_on d1 d2 connection body move.answer patient r2 saying1 soon1 in
    let r13 = behind_both d1 d2 d3 r2 r3 in
    let worked = it.takes.work in
    let same_work = ap work_left r1 in
    let more = still.room in
    let least = steady.room in
    let roomy : 1 ≤ vec_capacity d1.entries = omega arith in (
      record {
        sound = sound;
        waits = settled_told (dispatcher_terms d0) (dispatcher_state d2) (dispatcher_state d3)
            (keys_settled move.settles)
            tells.effects
            (ap (λ (d : Dispatcher). (dispatcher_state d).book) r3) telling waits2;
        room = subst (λ (d : Dispatcher). 1 ≤ vec_capacity d.entries) (sym r13) roomy;
        none_due = subst (λ (d : Dispatcher). due_at (state_in d.machine) d.latest ≡ []) (sym r13)
            still.none_due;
        in_time = λ other subscription there.
            subst (λ n. n < subscription.until) (sym (ap (λ (d : Dispatcher). d.latest) r3))
            (soon2 other subscription
            (keys_fewer (dispatcher_terms d0) (dispatcher_state d2) (dispatcher_state d3)
            (keys_settled move.settles)
            tells.effects telling
            other subscription there));
      },
      strides_by d0 d2 d3 connection (keys_settled move.settles) move.entries tells.effects one telling
          (ap (λ (d : Dispatcher). d.entries.items) r2 ∙ steps.entries)
          (ap (λ (d : Dispatcher). d.freed.items) r2 ∙ ap (λ (d : Dispatcher). d.freed.items) r1) terms2
          tells.goes
          (omega arith) (let before = it.takes.had in let same = ap (λ (d : Dispatcher). unread_at d
          connection)
          r1 in omega arith)
          it.takes.emptied,
    )

-- ---- no step

pub unstepped : (d new : Dispatcher) (connection entries : ℕ) (text body : List ℕ) → IsSteady d
    → IsDispatcherSound new
    → AnswersNow (dispatcher_state d) connection body entries text (dispatcher_state new)
    ⊎ DoesClose (dispatcher_state d) connection (dispatcher_state new)
    → TakesDueFrame d connection new
    → OneEffect (dispatcher_terms d) (dispatcher_state d) (dispatcher_state new) connection [] []
    → IsSteady new × Strides d connection new
unstepped d new connection entries text body steady sound did takes one =
    let rest = takes.rest in
    let back : (P : ℕ → Subscription → Type 0) → AllHear P (dispatcher_state d).hears
    → AllHear P (dispatcher_state new).hears =
    λ P all. elim did [
      | inl now ↦ hear_bytes P (dispatcher_state d) (dispatcher_state new) now.answers.rest all
      | inr closed ↦ hear_less P (dispatcher_state d).hears (dispatcher_state new).hears connection
          closed.hears all
    ] in (
      record {
        sound = sound;
        waits = λ other subscription there.
            subst (λ (b : State). WaitsOn b subscription.key)
            (sym (ap (λ (x : Dispatcher). state_in x.machine) rest))
            (back (λ n h. WaitsOn (state_in d.machine) h.key) steady.waits other subscription there);
        room = subst (λ (x : Dispatcher). 1 ≤ vec_capacity x.entries) (sym rest) steady.room;
        none_due = subst (λ (x : Dispatcher). due_at (state_in x.machine) x.latest ≡ []) (sym rest)
            steady.none_due;
        in_time = λ other subscription there.
            subst (λ n. n < subscription.until) (sym (ap (λ (x : Dispatcher). x.latest) rest))
            (back (λ n h. d.latest < h.until) steady.in_time other subscription there);
      },
      strides_by d new new connection [] [] [] one (no_keys (dispatcher_terms d) (dispatcher_state new))
          (ap (λ (x : Dispatcher). x.entries.items) rest ∙ sym (append-nil d.entries.items))
          (ap (λ (x : Dispatcher). x.freed.items) rest) (ap dispatcher_terms rest) (goes_none new) takes.work
          takes.had
          takes.emptied,
    )

-- a dispatcher with room for more entries
pub strides_from : (d new : Dispatcher) (entries : Vec Entry) (connection : ℕ)
    → entries.items ≡ d.entries.items
    → Strides (record d { entries = entries }) connection new → Strides d connection new
strides_from d new entries connection same strides = record {
  effect = strides.effect;
  tells = strides.tells;
  stride = strides.stride;
  own = strides.own;
  may = strides.may;
  bytes = strides.bytes;
  goes = record {
    made = strides.goes.made ∙ ap (λ l. l ++ flat_map entries_of_effect (strides.effect ∷ strides.tells))
        same;
    freed = strides.goes.freed;
    terms = strides.goes.terms;
  };
  work = strides.work;
  had = strides.had;
  emptied = strides.emptied;
}

pub steady_from : (d : Dispatcher) (entries : Vec Entry) → vec_capacity d.entries ≤ vec_capacity entries
    → IsSteady d
    → IsSteady (record d { entries = entries })
steady_from d entries more steady = record {
  sound = record {
    book = steady.sound.book;
    patient = steady.sound.patient;
    limits = steady.sound.limits;
    subscribers_owe = steady.sound.subscribers_owe;
    owers_hear = steady.sound.owers_hear;
    tellable = steady.sound.tellable;
  };
  waits = steady.waits;
  room = let least = steady.room in omega arith;
  none_due = steady.none_due;
  in_time = steady.in_time;
}

-- what isn't read as a message, for another cause than memory, is none
pub no_message : (body : List ℕ) (read : Result Message TextFault) (f : TextFault)
    → Decodes Message IsMessageBody body read → read ≡ Err f → (f ≡ fault.NoMemory → ⊥) → (message : Message)
    → ¬ IsMessageBody body message
no_message body read f reads is other message its =
    elim (reads.only message its) [
      | inl found ↦ absurd (let at : Err f ≡ Ok message = sym is ∙ found in cc)
      | inr none ↦ other (let at : Err f ≡ Err fault.NoMemory = sym is ∙ none in cc)
    ]

-- the effect of a frame of which no message was read
pub fault_effect : (terms : DispatcherTerms) (s t : DispatcherState) (connection : ℕ) (body : List ℕ) (read :
    Result Message
    TextFault)
    (f : TextFault) → IsFrameAt s connection body → Decodes Message IsMessageBody body read → read ≡ Err f
    → AnswersNow s connection body 0 (fault_answer f) t ⊎ DoesClose s connection t
    → OneEffect terms s t connection [] []
fault_effect terms s t connection body read fault.NoMemory frame reads is did =
    lacking_effect terms s t connection body frame did
fault_effect terms s t connection body read fault.NotJson frame reads is did =
    reading_effect terms s t connection body frame
    (no_message body read fault.NotJson reads is (λ same. let e = same in absurd (cc))) did
fault_effect terms s t connection body read fault.NotMessage frame reads is did =
    reading_effect terms s t connection body frame
    (no_message body read fault.NotMessage reads is (λ same. let e = same in absurd (cc))) did
