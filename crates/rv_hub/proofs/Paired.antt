-- Effects keep the answers of each connection beside its frames.
use Rattle.std.proofs.Common.{inl, inr, ◌≡◌, ◌≢◌, ◌≤◌, ◌+◌, ◌∙◌, ◌++◌, ◌∷◌, ℕ, List, [], None, Option}
use Rattle.std.proofs.Common.{Some, refl, sym, ap, subst, arith, append_assoc, cond, length, nat_eq}
use Rattle.std.proofs.Common.{slice_get}
use Rattle.std.specs.Prelude.{flat_map}
use Rattle.std.proofs.lemmas.List.{append-nil}
use Rattle.std.proofs.lemmas.Option.{none-some, same_Some}
use Rattle.rv_text.specs.declared.call.Call.{Call}
use Rattle.rv_text.specs.declared.message.Key.{Key}
use Rattle.rv_text.specs.declared.message.Message.{Message}
use Rattle.rv_text.specs.declared.message.Message.TheVariants.{Request}
use Rattle.rv_text.specs.declared.answer.Answer.{Answer}
use Rattle.rv_text.specs.declared.answer.Answer.TheVariants as answer
use Rattle.rv_text.specs.declared.answer.Refusal.{Refusal}
use Rattle.rv_text.specs.declared.answer.Refusal.TheVariants.{BadText, NoMemory}
use Rattle.rv_text.specs.Bodies.{IsMessageBody, answer_text}
use Rattle.rv_account.specs.declared.entry.Act.TheVariants.{Arrive}
use Rattle.rv_account.specs.declared.entry.Entry.{Entry}
use Rattle.rv_account.specs.Account.{Account, act_at, own_moment}
use Rattle.rv_account.specs.Limits.{max_moment}
use Rattle.rv_account.specs.rules.StepLimits.{AreStepLimits, StepLimits}
use Rattle.rv_account.specs.rules.Steps.{NextUnder}
use Rattle.rv_account.proofs.OfRules.Growing.{act_read, reads_on}
use Rattle.rv_account.proofs.OfRules.Places.{get-append_cases, get-append_end, within}
use Rattle.rv_server_connections.specs.connection.Traffic.{Traffic}
use Rattle.rv_server_connections.specs.connection.History.{Given, owed_count}
use Rattle.rv_server_connections.specs.declared.subscribers.tables.Subscription.{Subscription}
use Rattle.rv_server_connections.specs.subscribers.Subscription.{SetsSubscription, WhoHears}
use Rattle.rv_server_connections.specs.Connections.{ChangesWire, HasWire, ReleasesOpen, SetsWire, WiresState}
use Rattle.rv_hub.specs.dispatcher.View.{DispatcherState, DispatcherTerms, begun}
use Rattle.rv_hub.specs.dispatcher.Effects.{AnswersNow, AnswersOrWaits, Effect, Does, DoesAll, IsDueWith}
use Rattle.rv_hub.specs.dispatcher.Effects.{WaitsNow, entries_of_effect, rests_on, Asked, Closed, Elapsed}
use Rattle.rv_hub.specs.dispatcher.Effects.{EndedInput, Lacked, Left, Lost, Opened, ReadNothing, Stepped}
use Rattle.rv_hub.specs.dispatcher.Effects.{Told, TookIn, Wrote}
use Rattle.rv_hub.specs.EventEffects.{all_effects}
use Rattle.rv_hub.specs.HubRuns.{AddsEntries, IsHubAccount}
use Rattle.rv_hub.specs.Pairing.{ArePaired, BeginsPairs, FramesAreAnswered, HasPairs, InPairs, IsAnswerTo}
use Rattle.rv_hub.specs.Pairing.{WaitsFor}
use Rattle.rv_hub.specs.Pasts.{HasPast, Past, is_effect_of, no_past, past_after, past_by, with_answer}
use Rattle.rv_hub.specs.Pasts.{with_frame, with_said}
use Rattle.rv_hub.specs.Turns.{made_by}
use Rattle.rv_hub.proofs.Accounts.{adds_none, adds_on, by_rules, effect_leads, effects_lead, effects_rise}
use Rattle.rv_hub.proofs.Accounts.{events_rise, own_before, same_account}
use Rattle.rv_hub.proofs.ComesOf.{next_comes}
use Rattle.rv_hub.proofs.HandedOver.{entries_counted}
use Rattle.rv_hub.proofs.Histories.{by_own, past_on, pasts_kept}
use Rattle.rv_hub.proofs.Longer.{effect_counts, effects_count}
use Rattle.rv_hub.proofs.Repeating.{account_is, as_a_repeat}

-- ---- lists of frames and answers

module _ (limits : StepLimits) (a : Account) (time : ℕ) (frames : List (List ℕ)) (answers : List Given)
    (paired : ArePaired limits a time frames answers) where
  pair_frame : (body : List ℕ) → length frames ≡ length answers
      → ArePaired limits a time (frames ++ body ∷ []) answers
  pair_frame body same i other given there answered =
      elim (get-append_cases frames body other i there) [
        | inl old ↦ paired i other given old.1 answered
        | inr new ↦ (let less = within answers i given answered in
            let at = new.0 in absurd (let no : ⊥ = omega arith in no))
      ]

  pair_answer : (body : List ℕ) (given : Given) → slice_get frames (length answers) ≡ Some body
      → IsAnswerTo limits a time body given → ArePaired limits a time frames (answers ++ given ∷ [])
  pair_answer body given first is i other told there answered =
      elim (get-append_cases answers given told i answered) [
        | inl old ↦ paired i other told there old.1
        | inr new ↦
            (let one : body ≡ other =
            same_Some body other (sym first ∙ ap (slice_get frames) (sym new.0) ∙ there) in
            subst (λ b. IsAnswerTo limits a time b told) one
            (subst (IsAnswerTo limits a time body) new.1 is))
      ]

-- a frame, and its answer at once
pair_both : (limits : StepLimits) (a : Account) (time : ℕ) (frames : List (List ℕ)) (answers : List Given)
    (body : List ℕ) (given : Given) → ArePaired limits a time frames answers
    → length frames ≡ length answers → IsAnswerTo limits a time body given
    → ArePaired limits a time (frames ++ body ∷ []) (answers ++ given ∷ [])
pair_both limits a time frames answers body given paired same is =
    pair_answer limits a time (frames ++ body ∷ []) answers
    (pair_frame limits a time frames answers paired body same) body given
    (ap (slice_get (frames ++ body ∷ [])) (sym same) ∙ get-append_end frames body) is

none_waits : (a : Account) (frames : List (List ℕ)) (answers : List Given) (key : Key)
    → length frames ≡ length answers → WaitsFor a frames answers key → ⊥
none_waits a frames answers key same waits =
    let less = within frames (length answers) waits.body waits.frame in let no : ⊥ = omega arith in no

-- ---- a longer account

answer_on : (limits : StepLimits) (a b : Account) (made : List Entry) (time later : ℕ) (body : List ℕ)
    (given : Given) → AddsEntries a made b → time ≤ later → IsAnswerTo limits a time body given
    → IsAnswerTo limits b later body given
answer_on limits a b made time later body given adds rises (inl nothing) = inl nothing
answer_on limits a b made time later body given adds rises (inr (inl lacks)) = inr (inl lacks)
answer_on limits a b made time later body given adds rises (inr (inr (message, is, step))) = inr (inr (
  message,
  is,
  record {
    before = step.before;
    after = step.after;
    now = step.now;
    not_before = step.not_before;
    not_after = (let l = step.not_after in omega arith);
    said = step.said;
    steps = step.steps;
    body_is = step.body_is;
    rests = step.rests;
    later = step.later;
    front = (step.front.0 ++ made, adds_on step.after a b step.front.0 made step.front.1 adds);
  },
))

waits_on : (a b : Account) (made : List Entry) (frames : List (List ℕ)) (answers : List Given) (key : Key)
    → AddsEntries a made b → WaitsFor a frames answers key → WaitsFor b frames answers key
waits_on a b made frames answers key adds waits = record {
  body = waits.body;
  call = waits.call;
  place = waits.place;
  frame = waits.frame;
  is = waits.is;
  arrived = ap (λ es. act_at es waits.place) adds.entries
      ∙ reads_on act_read refl a.entries made waits.place (Arrive key waits.call) waits.arrived;
}

adds_rest : (a m b : Account) (made rest : List Entry) → AddsEntries a made m
    → AddsEntries a (made ++ rest) b → AddsEntries m rest b
adds_rest a m b made rest first whole = record {
  epoch = whole.epoch ∙ sym first.epoch;
  opened = whole.opened ∙ sym first.opened;
  entries = whole.entries ∙ sym (append_assoc a.entries made rest) ∙ ap (λ es. es ++ rest)
      (sym first.entries);
}

-- ---- who is open

abbrev IsOpen : DispatcherState → ℕ → Type 0
IsOpen s n = HasWire s.open_wires n (λ wire. Unit {0})

open_same : (s t : DispatcherState) (n : ℕ) → t.open_wires.wires n ≡ s.open_wires.wires n → IsOpen s n
    → IsOpen t n
open_same s t n same is = record { wire = is.wire; there = same ∙ is.there; so = tt }

changed_open : (s t : DispatcherState) (n m : ℕ) (so : Traffic → Traffic → Type 0)
    → ChangesWire s.open_wires m so t.open_wires → n ≡ m → IsOpen t n
changed_open s t n m so changes same =
    record { wire = changes.after; there = ap t.open_wires.wires same ∙ changes.sets.own; so = tt }

released_open : (written : ℕ) (o after : Option Traffic) (wire : Traffic) → ReleasesOpen written o after
    → o ≡ Some wire → (w : Traffic) × (after ≡ Some w)
released_open written None after wire releases is = absurd (none-some wire is)
released_open written (Some old) None wire releases is = absurd releases
released_open written (Some old) (Some w) wire releases is = (w, refl)

-- ---- one connection after an effect

module _ (limits : StepLimits) (a b : Account) (made : List Entry) (adds : AddsEntries a made b)
    (s t : DispatcherState) (n : ℕ) (past : Past) (is : InPairs limits a s n past.frames past.answers)
    (rises : s.now ≤ t.now) where
  paired_on : ArePaired limits b t.now past.frames past.answers
  paired_on i body given there answered =
      answer_on limits a b made s.now t.now body given adds rises (is.paired i body given there answered)

  -- it waits as it did
  unchanged : t.hears n ≡ s.hears n → (IsOpen s n → IsOpen t n)
      → InPairs limits b t n past.frames past.answers
  unchanged hears opens = record {
    paired = paired_on;
    waits = λ subscription there.
        let waits = is.waits subscription (sym hears ∙ there) in
        (opens waits.0, waits_on a b made past.frames past.answers subscription.key adds waits.1);
  }

  kept_own : (m : ℕ) (so : Traffic → Traffic → Type 0) → t.hears n ≡ s.hears n
      → ChangesWire s.open_wires m so t.open_wires → n ≡ m → InPairs limits b t n past.frames past.answers
  kept_own m so hears changes same = unchanged hears (λ _. changed_open s t n m so changes same)

  kept_other : (m : ℕ) (so : Traffic → Traffic → Type 0) → t.hears n ≡ s.hears n
      → ChangesWire s.open_wires m so t.open_wires → n ≢ m → InPairs limits b t n past.frames past.answers
  kept_other m so hears changes apart = unchanged hears (open_same s t n (changes.sets.others n apart))

  -- it is closed
  kept_closed : (mid : DispatcherState) (m : ℕ) → mid.open_wires ≡ s.open_wires → mid.hears ≡ s.hears
      → SetsWire mid.open_wires m None t.open_wires → SetsSubscription mid.hears m None t.hears
      → InPairs limits b t n (cond (nat_eq n m) past past).frames (cond (nat_eq n m) past past).answers
  kept_closed mid m wires heard sets hears =
      by_own (λ p. InPairs limits b t n p.frames p.answers) n m past past
      (λ same. record {
        paired = paired_on;
        waits = λ subscription there. absurd (none-some subscription (sym hears.own ∙ ap t.hears (sym same)
            ∙ there));
      })
      (λ apart. unchanged (hears.others n apart ∙ ap (λ (h : WhoHears). h n) heard)
      (open_same s t n (sets.others n apart ∙ ap (λ (w : WiresState). w.wires n) wires)))

-- each frame of a connection of which one is due has an answer
pub same_length : (s : DispatcherState) (n m : ℕ) (body : List ℕ) (past : Past) → HasPast s n past
    → HasWire s.open_wires m (λ wire. IsDueWith wire body) → n ≡ m
    → length past.frames ≡ length past.answers
same_length s n m body past has frame same =
    let is = has frame.wire (ap s.open_wires.wires same ∙ frame.there) in
    let answered : length past.frames ≡ length past.answers + owed_count frame.wire.owes =
    is.history.answered in
    let none : owed_count frame.wire.owes ≡ 0 = ap owed_count frame.so.due.none_owed in
    omega (arith, answered, none)

module _ (limits : StepLimits) (a b : Account) (made : List Entry) (adds : AddsEntries a made b)
    (s mid t : DispatcherState) (wires : mid.open_wires ≡ s.open_wires) (heard : mid.hears ≡ s.hears)
    (n m : ℕ)
    (body : List ℕ) (past : Past) (has : HasPast s n past)
    (is : InPairs limits a s n past.frames past.answers) (rises : s.now ≤ t.now) where
  due_here : HasWire mid.open_wires m (λ wire. IsDueWith wire body) → n ≡ m
      → length past.frames ≡ length past.answers
  due_here frame same =
      same_length s n m body past has
      (subst (λ (w : WiresState). HasWire w m (λ wire. IsDueWith wire body)) wires frame) same

  -- its frame was answered at once
  now_pairs : (rests entries : ℕ) (text : List ℕ) (said : Answer) → AnswersNow mid m body rests text t
      → IsAnswerTo limits b t.now body (record { body = answer_text said; rests_on = entries })
      → InPairs limits b t n
      (cond (nat_eq n m) (with_answer (with_frame past body) entries said) past).frames
      (cond (nat_eq n m) (with_answer (with_frame past body) entries said) past).answers
  now_pairs rests entries text said now answers =
      let hears : t.hears n ≡ s.hears n =
      ap (λ (u : DispatcherState). u.hears n) now.answers.rest ∙ ap (λ (h : WhoHears). h n) heard in
      by_own (λ p. InPairs limits b t n p.frames p.answers) n m
      (with_answer (with_frame past body) entries said) past
      (λ same. record {
        paired = pair_both limits b t.now past.frames past.answers body
            (record { body = answer_text said; rests_on = entries })
            (paired_on limits a b made adds s t n past is rises) (due_here now.frame same) answers;
        waits = λ subscription there.
            absurd (none_waits a past.frames past.answers subscription.key (due_here now.frame same)
            (is.waits subscription (sym hears ∙ there)).1);
      })
      (λ apart. unchanged limits a b made adds s t n past is rises hears
      (open_same s t n (now.answers.changes.sets.others n apart
      ∙ ap (λ (w : WiresState). w.wires n) wires)))

  -- its frame's request waits
  waits_pairs : (patience : ℕ) (key : Key) (call : Call) (place : ℕ) → WaitsNow patience mid m body key t
      → IsMessageBody body (Request key call) → act_at b.entries place ≡ Some (Arrive key call)
      → InPairs limits b t n (cond (nat_eq n m) (with_frame past body) past).frames
      (cond (nat_eq n m) (with_frame past body) past).answers
  waits_pairs patience key call place waits body_is arrived =
      by_own (λ p. InPairs limits b t n p.frames p.answers) n m (with_frame past body) past
      (λ same. record {
        paired = pair_frame limits b t.now past.frames past.answers
            (paired_on limits a b made adds s t n past is rises) body (due_here waits.frame same);
        waits = λ subscription there.
            let one = ap (λ (h : Subscription). h.key)
            (same_Some _ subscription (sym waits.hears.own ∙ ap t.hears (sym same) ∙ there)) in (
              changed_open mid t n m _ waits.takes same,
              subst (WaitsFor b (past.frames ++ body ∷ []) past.answers) one (record {
                body = body;
                call = call;
                place = place;
                frame = ap (slice_get (past.frames ++ body ∷ [])) (sym (due_here waits.frame same))
                    ∙ get-append_end past.frames body;
                is = body_is;
                arrived = arrived;
              }),
            );
      })
      (λ apart. unchanged limits a b made adds s t n past is rises
      (waits.hears.others n apart ∙ ap (λ (h : WhoHears). h n) heard)
      (open_same s t n (waits.takes.sets.others n apart ∙ ap (λ (w : WiresState). w.wires n) wires)))

-- ---- the answer to a step

of_step : (limits : StepLimits) (a b : Account) (made : List Entry) (now time : ℕ) (message : Message)
    (said : Answer) (count : ℕ) (body : List ℕ) → IsMessageBody body message → AddsEntries a made b
    → own_moment a ≤ now → now ≤ time → NextUnder limits a now message b said → count ≡ length b.entries
    → IsAnswerTo limits b time body (record { body = answer_text said; rests_on = count })
of_step limits a b made now time message said count body is adds later rises next same = inr (inr (
  message,
  is,
  record {
    before = a;
    after = b;
    now = now;
    not_before = later;
    not_after = rises;
    said = said;
    steps = next;
    body_is = refl;
    rests = same;
    later = (made, adds);
    front = ([], adds_none b);
  },
))

refused_answer : (refusal : Refusal) (limits : StepLimits) (a b : Account) (made : List Entry) (now time : ℕ)
    (message : Message) (count : ℕ) (body : List ℕ) → IsMessageBody body message → AddsEntries a made b
    → own_moment a ≤ now → now ≤ time → NextUnder limits a now message b (answer.Refused refusal)
    → count ≡ length b.entries → IsAnswerTo limits b time body
    (record {
      body = answer_text (answer.Refused refusal);
      rests_on = rests_on (answer.Refused refusal) count;
    })
refused_answer NoMemory limits a b made now time message count body is adds later rises next same =
    inr (inl refl)
refused_answer _ limits a b made now time message count body is adds later rises next same =
    of_step limits a b made now time message _ count body is adds later rises next same

module _ (terms : DispatcherTerms) (a b : Account) (step : Stepped) (adds : AddsEntries a step.entries b)
    (s mid t : DispatcherState) (wires : mid.open_wires ≡ s.open_wires) (heard : mid.hears ≡ s.hears)
    (n m : ℕ)
    (body : List ℕ) (past : Past) (has : HasPast s n past)
    (is : InPairs terms.limits a s n past.frames past.answers) (rises : s.now ≤ t.now)
    (later : own_moment a ≤ s.now) (message : IsMessageBody body step.message) (count : ℕ)
    (same : count ≡ length b.entries) where
  said_pairs : (said : Answer) → NextUnder terms.limits a s.now step.message b said
      → AnswersOrWaits terms mid m body said t
      → InPairs terms.limits b t n
      (cond (nat_eq n m) (with_said (with_frame past body) count said) past).frames
      (cond (nat_eq n m) (with_said (with_frame past body) count said) past).answers
  said_pairs (answer.Waiting key) next does =
      let comes = next_comes terms.limits a b s.now step.message key next in
      waits_pairs terms.limits a b step.entries adds s mid t wires heard n m body past has is rises
      terms.patience
      key comes.call comes.place does (subst (IsMessageBody body) comes.is message) comes.arrived
  said_pairs (answer.Replied key reply) next does =
      now_pairs terms.limits a b step.entries adds s mid t wires heard n m body past has is rises _ count _
      (answer.Replied key reply) does
      (of_step terms.limits a b step.entries s.now t.now step.message _ count body message adds later rises
      next same)
  said_pairs (answer.Welcome epoch client incarnation version) next does =
      now_pairs terms.limits a b step.entries adds s mid t wires heard n m body past has is rises _ count _
      (answer.Welcome epoch client incarnation version) does
      (of_step terms.limits a b step.entries s.now t.now step.message _ count body message adds later rises
      next same)
  said_pairs (answer.Refused refusal) next does =
      now_pairs terms.limits a b step.entries adds s mid t wires heard n m body past has is rises _
      (rests_on (answer.Refused refusal) count) _ (answer.Refused refusal) does
      (refused_answer refusal terms.limits a b step.entries s.now t.now step.message count body message adds
      later rises next same)

-- ---- whoever waited is told

told_pairs : (terms : DispatcherTerms) (s t : DispatcherState) (a b : Account) (n m : ℕ) (key : Key) (said :
    Answer)
    (past : Past) (count : ℕ) → (does : Does terms s (Told m key said) t) → s.now ≤ max_moment
    → s.now ≤ t.now → IsHubAccount a s → AddsEntries a [] b → count ≡ length a.entries
    → InPairs terms.limits a s n past.frames past.answers
    → InPairs terms.limits b t n (cond (nat_eq n m) (with_answer past count said) past).frames
    (cond (nat_eq n m) (with_answer past count said) past).answers
told_pairs terms s t a b n m key said past count does time rises is adds counted pairs =
    by_own (λ p. InPairs terms.limits b t n p.frames p.answers) n m (with_answer past count said) past
    (λ same.
    let waits = subst (WaitsFor a past.frames past.answers) does.key_is
    (pairs.waits does.subscription (ap s.hears same ∙ does.waited)).1 in
    let next = as_a_repeat terms s t a m key said waits.call waits.place time is does waits.arrived in
    record {
      paired = pair_answer terms.limits b t.now past.frames past.answers
          (paired_on terms.limits a b [] adds s t n past pairs rises) waits.body
          (record { body = answer_text said; rests_on = count }) waits.frame (inr (inr (
            Request key waits.call,
            waits.is,
            record {
              before = a;
              after = a;
              now = s.now;
              not_before = own_before a s s.now is (omega arith);
              not_after = rises;
              said = said;
              steps = next;
              body_is = refl;
              rests = counted;
              later = ([], adds_none a);
              front = ([], adds);
            },
          )));
      waits = λ subscription there.
          absurd (none-some subscription (sym does.hears.own ∙ ap t.hears (sym same) ∙ there));
    })
    (λ apart. unchanged terms.limits a b [] adds s t n past pairs rises (does.hears.others n apart)
    (open_same s t n (does.answers.sets.others n apart)))

-- ---- each effect

abbrev Behind : StepLimits → Account → DispatcherState → ℕ → Past → ℕ → Effect → Type 0
Behind limits b t n past count effect =
    InPairs limits b t n (cond (is_effect_of n effect) (past_by past count effect) past).frames
    (cond (is_effect_of n effect) (past_by past count effect) past).answers

effect_pairs : (terms : DispatcherTerms) (effect : Effect) (s t : DispatcherState) (a b : Account) (n : ℕ)
    (past : Past)
    → Does terms s effect t → s.now ≤ max_moment → s.now ≤ t.now → IsHubAccount a s
    → AddsEntries a (entries_of_effect effect) b
    → HasPast s n past → InPairs terms.limits a s n past.frames past.answers
    → Behind terms.limits b t n past (s.book.length + length (entries_of_effect effect)) effect
effect_pairs terms (Elapsed moment entries settled) s t a b n past does time rises is adds has pairs =
    unchanged terms.limits a b entries adds s t n past pairs rises (ap (λ (u : DispatcherState). u.hears n)
    does.after)
    (open_same s t n (ap (λ (u : DispatcherState). u.open_wires.wires n) does.after))
effect_pairs terms (Opened m) s t a b n past does time rises is adds has pairs =
    let hears : t.hears n ≡ s.hears n = ap (λ (u : DispatcherState). u.hears n) does.rest in
    by_own (λ p. InPairs terms.limits b t n p.frames p.answers) n m no_past past
    (λ same. record {
      paired = λ i body given there answered. absurd (none-some body there);
      waits = λ subscription there.
          let was = (pairs.waits subscription (sym hears ∙ there)).0 in
          absurd (none-some was.wire (sym does.opens.free ∙ ap s.open_wires.wires (sym same) ∙ was.there));
    })
    (λ apart. unchanged terms.limits a b [] adds s t n past pairs rises hears
    (open_same s t n (does.opens.sets.others n apart)))
effect_pairs terms (TookIn m bytes) s t a b n past does time rises is adds has pairs =
    let hears : t.hears n ≡ s.hears n = ap (λ (u : DispatcherState). u.hears n) does.rest in
    by_own (λ p. InPairs terms.limits b t n p.frames p.answers) n m
    (record past { came = past.came ++ bytes }) past
    (kept_own terms.limits a b [] adds s t n past pairs rises m _ hears does.changes)
    (kept_other terms.limits a b [] adds s t n past pairs rises m _ hears does.changes)
effect_pairs terms (EndedInput m) s t a b n past does time rises is adds has pairs =
    let hears : t.hears n ≡ s.hears n = ap (λ (u : DispatcherState). u.hears n) does.rest in
    by_own (λ p. InPairs terms.limits b t n p.frames p.answers) n m past past
    (kept_own terms.limits a b [] adds s t n past pairs rises m _ hears does.changes)
    (kept_other terms.limits a b [] adds s t n past pairs rises m _ hears does.changes)
effect_pairs terms (Left m count) s t a b n past does time rises is adds has pairs =
    let hears : t.hears n ≡ s.hears n = ap (λ (u : DispatcherState). u.hears n) does.rest in
    by_own (λ p. InPairs terms.limits b t n p.frames p.answers) n m
    (record past { sent = past.sent + count }) past
    (kept_own terms.limits a b [] adds s t n past pairs rises m _ hears does.changes)
    (kept_other terms.limits a b [] adds s t n past pairs rises m _ hears does.changes)
effect_pairs terms (Wrote entries) s t a b n past does time rises is adds has pairs =
    unchanged terms.limits a b [] adds s t n past pairs rises (ap (λ (u : DispatcherState). u.hears n)
    does.rest)
    (λ was. let still = released_open entries (s.open_wires.wires n) (t.open_wires.wires n) was.wire
    (does.releases.each n) was.there in record { wire = still.0; there = still.1; so = tt })
effect_pairs terms (Asked m body step said) s t a b n past does time rises is adds has pairs =
    let rules = by_rules terms s t a m body step said time is does in
    let one : rules.0 ≡ b =
    account_is b rules.0 (rules.2.epoch ∙ sym adds.epoch) (rules.2.opened ∙ sym adds.opened)
    (rules.2.entries ∙ sym adds.entries) in
    said_pairs terms a b step adds s does.between t
    (ap (λ (u : DispatcherState). u.open_wires) does.steps.after)
    (ap (λ (u : DispatcherState). u.hears) does.steps.after) n m body past has pairs rises
    (own_before a s s.now is
    (omega arith)) does.is
    (s.book.length + length step.entries)
    (entries_counted a s step.entries is ∙ ap length (sym adds.entries)) said
    (subst (λ (c : Account). NextUnder terms.limits a s.now step.message c said) one rules.1) does.rest
effect_pairs terms (ReadNothing m body) s t a b n past does time rises is adds has pairs =
    now_pairs terms.limits a b [] adds s s t refl refl n m body past has pairs rises 0 0 _
    (answer.Refused BadText)
    does.answers (inl (does.none, refl))
effect_pairs terms (Lacked m body None) s t a b n past does time rises is adds has pairs =
    now_pairs terms.limits a b [] adds s does.between t
    (ap (λ (u : DispatcherState). u.open_wires) does.stepped) (ap (λ (u : DispatcherState). u.hears)
    does.stepped) n m
    body past has pairs rises 0 0 _ (answer.Refused NoMemory) does.answers (inr (inl refl))
effect_pairs terms (Lacked m body (Some step)) s t a b n past does time rises is adds has pairs =
    now_pairs terms.limits a b step.entries adds s does.between t
    (ap (λ (u : DispatcherState). u.open_wires) does.stepped.steps.after)
    (ap (λ (u : DispatcherState). u.hears) does.stepped.steps.after) n m body past has pairs rises 0 0 _
    (answer.Refused NoMemory) does.answers (inr (inl refl))
effect_pairs terms (Lost m body step) s t a b n past does time rises is adds has pairs =
    kept_closed terms.limits a b step.entries adds s t n past pairs rises does.between m
    (ap (λ (u : DispatcherState). u.open_wires) does.stepped.steps.after)
    (ap (λ (u : DispatcherState). u.hears) does.stepped.steps.after) does.closes.sets does.closes.hears
effect_pairs terms (Told m key said) s t a b n past does time rises is adds has pairs =
    told_pairs terms s t a b n m key said past (s.book.length + 0) does time rises is adds
    (entries_counted a s [] is ∙ ap length (append-nil a.entries)) pairs
effect_pairs terms (Closed m) s t a b n past does time rises is adds has pairs =
    kept_closed terms.limits a b [] adds s t n past pairs rises s m refl refl does.sets does.hears

-- ---- effects, one after another

pub effects_pairs : (terms : DispatcherTerms) (effects : List Effect) (s t : DispatcherState) (a b : Account)
    → AreStepLimits terms.limits → DoesAll terms s effects t → t.now ≤ max_moment → IsHubAccount a s
    → AddsEntries a (flat_map entries_of_effect effects) b → (n : ℕ) (past : Past)
    → HasPairs terms.limits a s n past
    → HasPairs terms.limits b t n (past_after n past s.book.length effects)
effects_pairs terms [] s t a b limits same time is adds n past pairs = record {
  has = subst (λ (u : DispatcherState). HasPast u n past) (sym same) pairs.has;
  pairs = unchanged terms.limits a b [] adds s t n past pairs.pairs
      (let m : t.now ≡ s.now = ap (λ (u : DispatcherState). u.now) same in omega arith)
      (ap (λ (u : DispatcherState). u.hears n) same)
      (open_same s t n (ap (λ (u : DispatcherState). u.open_wires.wires n) same));
}
effects_pairs terms (effect ∷ effects) s t a b limits (mid, does, more) time is adds n past pairs =
    let made = entries_of_effect effect in
    let later = effects_rise terms effects mid t more in
    let rises = effects_rise terms (effect ∷ []) s mid (mid, does, refl) in
    let first = effect_leads terms effect s mid a limits does (omega arith) (omega arith) is in
    let now = cond (is_effect_of n effect) (past_by past (s.book.length + length made) effect) past in
    let one : HasPairs terms.limits first.after mid n now = record {
      has = pasts_kept terms (effect ∷ []) s mid (mid, does, refl) n past pairs.has;
      pairs = effect_pairs terms effect s mid a first.after n past does (omega arith) rises is first.adds
          pairs.has
          pairs.pairs;
    } in
    let counted : mid.book.length ≡ s.book.length + length made = effect_counts terms effect s mid does in
    subst (λ k. HasPairs terms.limits b t n (past_after n now k effects)) counted
    (effects_pairs terms effects mid t first.after b limits more time first.is
    (adds_rest a first.after b made (flat_map entries_of_effect effects) first.adds adds) n now one)

-- ---- events

begun_pairs : (limits : StepLimits) (a : Account) (s : DispatcherState) (n : ℕ) (past : Past)
    → HasPairs limits a s n past → HasPairs limits a (begun s) n past
begun_pairs limits a s n past is = record {
  has = is.has;
  pairs = record { paired = is.pairs.paired; waits = is.pairs.waits };
}

pub frames_answered : FramesAreAnswered
frames_answered terms [] s t a b limits same time is adds n past pairs =
    effects_pairs terms [] s t a b limits same time is adds n past pairs
frames_answered terms (effects ∷ events) s t a b limits (mid, does, more) time is adds n past pairs =
    let made = flat_map entries_of_effect effects in
    let count = s.book.length in
    let later = events_rise terms events mid t more in
    let is_begun = same_account a s (begun s) refl refl is in
    let first = effects_lead terms effects (begun s) mid a limits does (omega arith) is_begun in
    let now = past_after n past count effects in
    let one = effects_pairs terms effects (begun s) mid a first.after limits does (omega arith) is_begun
    first.adds n past (begun_pairs terms.limits a s n past pairs) in
    let counted : mid.book.length ≡ count + length made = effects_count terms effects (begun s) mid does in
    subst (λ (p : Past). HasPairs terms.limits b t n p)
    (sym (past_on n past count effects (all_effects events)))
    (subst (λ k. HasPairs terms.limits b t n (past_after n now k (all_effects events))) counted
    (frames_answered terms events mid t first.after b limits more time first.is
    (adds_rest a first.after b made (made_by events) first.adds adds) n now one))

-- ---- a connection that isn't open yet

pub pairs_begin : BeginsPairs
pairs_begin limits a s n nobody closed = record {
  has = λ wire there. absurd (closed (record { wire = wire; there = there; so = tt }));
  pairs = record {
    paired = λ i body given there answered. absurd (none-some body there);
    waits = λ subscription there. absurd (nobody subscription there);
  };
}
