-- What effects are of a legal account.
use Rattle.std.proofs.Common.{inl, inr, ◌≡◌, ◌≢◌, ◌≤◌, ◌<◌, ◌∙◌, ◌++◌, ◌∷◌, ℕ, List, [], None}
use Rattle.std.proofs.Common.{Some, refl, sym, ap, subst, arith}
use Rattle.std.proofs.Common.{append_assoc}
use Rattle.std.specs.Prelude.{flat_map}
use Rattle.std.proofs.lemmas.List.{append-nil}
use Rattle.rv_text.specs.declared.message.Key.{Key}
use Rattle.rv_text.specs.declared.message.Message.{Message}
use Rattle.rv_text.specs.declared.answer.Answer.{Answer}
use Rattle.rv_text.specs.declared.answer.Answer.TheVariants as answer
use Rattle.rv_text.specs.declared.answer.Refusal.{Refusal}
use Rattle.rv_text.specs.declared.answer.Refusal.TheVariants.{OldIncarnation}
use Rattle.rv_text.specs.declared.answer.Reply.TheVariants.{Cancelled}
use Rattle.rv_text.specs.Limits.{FitsKey, FitsMessage}
use Rattle.rv_account.specs.declared.entry.Entry.{Entry}
use Rattle.rv_account.specs.Account.{Account, own_moment}
use Rattle.rv_account.specs.Limits.{max_moment}
use Rattle.rv_session.specs.declared.client.LastRequest.{LastRequest}
use Rattle.rv_session.specs.declared.client.LastRequest.TheVariants.{CancelledUnseen, Fresh, RepliedTo, Waits}
use Rattle.rv_account.specs.rules.Legal.{Legal}
use Rattle.rv_account.specs.rules.StepLimits.{AreStepLimits, StepLimits}
use Rattle.rv_account.specs.rules.Steps.{Answers, NextUnder, OldIncarnationDue}
use Rattle.rv_account.specs.state.After.{due_at, state_of}
use Rattle.rv_account.specs.state.resume.Resuming.{CanResume}
use Rattle.rv_account.specs.state.Agreement.{BecameOf, IsClientOrNew}
use Rattle.rv_account.specs.state.Moves.{Move, StateNextAtUnder, StateNextUnder, Ticked, answer_told}
use Rattle.rv_account.specs.state.Moves.{state_moment}
use Rattle.rv_account.specs.state.Moves.{ticked_at, ticked_if, told_again}
use Rattle.rv_account.specs.state.Moves.{unticked}
use Rattle.rv_account.specs.state.State.{ClientState, State, client_at}
use Rattle.rv_account.proofs.OfState.StateLaws.{moves_step_under, states_agree, ticks_step}
use Rattle.rv_account.proofs.OfState.OfWaiting.OwnMoments.{none_due_now}
use Rattle.rv_account.proofs.OfState.OfWaiting.WaitingLaws.{moves_last, ticks_last}
use Rattle.rv_hub.specs.dispatcher.View.{DispatcherState, DispatcherTerms, begun}
use Rattle.rv_hub.specs.dispatcher.Effects.{AnswersOrWaits, Effect, Does, DoesAll, DoesElapse, MakesStep}
use Rattle.rv_hub.specs.dispatcher.Effects.{Stepped, entries_of_effect, Asked, Closed, Elapsed, EndedInput}
use Rattle.rv_hub.specs.dispatcher.Effects.{Lacked, Left, Lost, Opened, ReadNothing, Told, TookIn, Wrote}
use Rattle.rv_hub.specs.dispatcher.Runs.{Cause, Heard, RunsBook, Time}
use Rattle.rv_hub.specs.dispatcher.Telling.{IsToldAgain}
use Rattle.rv_hub.proofs.OfDispatcher.OneBook.{one_run}
use Rattle.rv_hub.specs.HubRuns.{AddsEntries, AnswersByRules, BeginsAccount, EffectsLeadOn, DoesEvents}
use Rattle.rv_hub.specs.HubRuns.{EventsLeadOn}
use Rattle.rv_hub.specs.HubRuns.{IsHubAccount, LeadsToAccount, TellsPublicReply}
use Rattle.rv_hub.specs.Turns.{made_by}

-- ---- time doesn't go back

run_rises : (limits : StepLimits) (now later : ℕ) (s t : State) (causes : List Cause) (entries : List Entry)
    → RunsBook limits now s causes entries later t → now ≤ later
run_rises limits now later s t [] entries (none, same, is) = let e : later ≡ now = same in omega arith
run_rises limits now later s t (Time moment ∷ causes) entries (rest, before, parts, run) =
    let first : now ≤ moment = before in
    let more = run_rises limits moment later (ticked_at s moment).after t causes rest run in
    omega arith
run_rises limits now later s t (Heard message ∷ causes) entries (move, rest, moves, parts, run) =
    run_rises limits now later move.after t causes rest run

pub effects_rise : (terms : DispatcherTerms) (effects : List Effect) (s t : DispatcherState)
    → DoesAll terms s effects t
    → s.now ≤ t.now
effects_rise terms effects s t does =
    let run = one_run terms effects s t does in
    run_rises terms.limits s.now t.now s.book t.book run.0 _ run.1

-- ---- one account

pub own_before : (a : Account) (s : DispatcherState) (moment : ℕ) → IsHubAccount a s → s.now ≤ moment
    → own_moment a ≤ moment
own_before a s moment is before =
    let agree = (states_agree a is.legal).moment in
    let same : (state_of a).moment ≡ s.book.moment = ap (λ (x : State). x.moment) is.state in
    let later = is.later in
    omega arith

pub adds_none : (a : Account) → AddsEntries a [] a
adds_none a = record { epoch = refl; opened = refl; entries = sym (append-nil a.entries) }

pub adds_on : (a b c : Account) (one two : List Entry) → AddsEntries a one b → AddsEntries b two c
    → AddsEntries a (one ++ two) c
adds_on a b c one two first second = record {
  epoch = second.epoch ∙ first.epoch;
  opened = second.opened ∙ first.opened;
  entries = second.entries ∙ ap (λ l. l ++ two) first.entries ∙ append_assoc a.entries one two;
}

leads_on : (a : Account) (one two : List Entry) (m t : DispatcherState) (first : LeadsToAccount a one m)
    → LeadsToAccount first.after two t → LeadsToAccount a (one ++ two) t
leads_on a one two m t first second = record {
  after = second.after;
  adds = adds_on a first.after second.after one two first.adds second.adds;
  is = second.is;
}

pub begins : BeginsAccount
begins a s legal same resumes now = record {
  legal = legal;
  state = same;
  resumes = resumes;
  later = omega arith;
  none_due = ap (λ n. due_at s.book n) now ∙ none_due_now s.book resumes;
}

-- the account, where neither it nor the moment changes
pub same_account : (a : Account) (s t : DispatcherState) → t.book ≡ s.book → t.now ≡ s.now → IsHubAccount a s
    → IsHubAccount a t
same_account a s t book now is = record {
  legal = is.legal;
  state = is.state ∙ sym book;
  resumes = subst CanResume (sym book) is.resumes;
  later = (let l = is.later in let m : t.book.moment ≡ s.book.moment = ap (λ (x : State). x.moment) book in
      omega arith);
  none_due = ap (λ (x : State). due_at x t.now) book ∙ ap (λ n. due_at s.book n) now ∙ is.none_due;
}

stays : (a : Account) (s t : DispatcherState) → t.book ≡ s.book → t.now ≡ s.now → IsHubAccount a s
    → LeadsToAccount a [] t
stays a s t book now is = record { after = a; adds = adds_none a; is = same_account a s t book now is }

-- with the entries of time-outs
elapsed_leads : (a : Account) (s t : DispatcherState) (moment : ℕ) (entries : List Entry) (settled : List Key)
    → DoesElapse s moment entries settled t → t.now ≤ max_moment → IsHubAccount a s
    → LeadsToAccount a entries t
elapsed_leads a s t moment entries settled does time is =
    let now : t.now ≡ moment = ap (λ (u : DispatcherState). u.now) does.after in
    let book : t.book ≡ (ticked_at s.book moment).after = ap (λ (u : DispatcherState). u.book) does.after in
    let later = does.later in
    let before = is.later in
    let ticks = ticks_step a moment is.legal (own_before a s moment is later) in
    let last = ticks_last s.book moment is.resumes (omega arith) (omega arith) in
    let same : ticked_at (state_of a) moment ≡ ticked_at s.book moment =
    ap (λ (x : State). ticked_at x moment) is.state in
    record {
      after = ticks.after;
      adds = record {
        epoch = ticks.is.epoch;
        opened = ticks.is.opened;
        entries = ticks.is.entries ∙ ap (λ (k : Ticked). a.entries ++ k.entries) same
            ∙ ap (λ l. a.entries ++ l) (sym does.entries_are);
      };
      is = record {
        legal = ticks.is.legal;
        state = ticks.is.state ∙ ap (λ (k : Ticked). k.after) same ∙ sym book;
        resumes = subst CanResume (sym book) last.resumes;
        later = (let l = last.in_time in
            let m : t.book.moment ≡ (ticked_at s.book moment).after.moment = ap (λ (x : State). x.moment) book
            in
            omega arith);
        none_due = ap (λ (x : State). due_at x t.now) book
            ∙ ap (λ n. due_at (ticked_at s.book moment).after n) now ∙ last.none_due;
      };
    }

-- with those of a step
at_moment : (limits : StepLimits) (s : State) (now : ℕ) (m : Message) (move : Move) (k : ℕ) → k ≡ now
    → due_at s now ≡ [] → StateNextAtUnder limits s now m move
    → (ticked_at s k ≡ unticked s) × StateNextAtUnder limits (ticked_at s k).after k m move
at_moment limits s now m move k same none moves =
    let ticked : ticked_at s k ≡ unticked s = ap (λ n. ticked_at s n) same ∙ ap (λ d. ticked_if s now d)
    none in (
      ticked,
      subst (λ (x : State). StateNextAtUnder limits x k m move) (sym (ap (λ (t : Ticked). t.after) ticked))
          (subst (λ n. StateNextAtUnder limits s n m move) (sym same) moves),
    )

pub next_here : (limits : StepLimits) (s : State) (now : ℕ) (m : Message) (move : Move) → s.moment ≤ now
    → now ≤ max_moment
    → due_at s now ≡ [] → StateNextAtUnder limits s now m move → StateNextUnder limits s now m move
next_here limits s now m move before time none moves =
    let same : state_moment s now ≡ now = omega arith in
    let both = at_moment limits s now m move (state_moment s now) same none moves in
    record {
      then = move;
      steps = both.1;
      entries = sym (ap (λ (t : Ticked). t.entries ++ move.entries) both.0);
      answer = refl;
      settles = sym (ap (λ (t : Ticked). t.settles ++ move.settles) both.0);
      after = refl;
    }

pub step_leads : (terms : DispatcherTerms) (a : Account) (s t : DispatcherState) (step : Stepped) (said :
    Answer)
    → AreStepLimits terms.limits → FitsMessage step.message → MakesStep terms s step said t
    → s.now ≤ max_moment
    → IsHubAccount a s → LeadsToAccount a step.entries t
step_leads terms a s t step said limits fits makes time is =
    let move = makes.move in
    let book : t.book ≡ move.after = ap (λ (u : DispatcherState). u.book) makes.after in
    let now : t.now ≡ s.now = ap (λ (u : DispatcherState). u.now) makes.after in
    let next = next_here terms.limits s.book s.now step.message move is.later time is.none_due makes.moves in
    let own = subst (λ (x : State). StateNextUnder terms.limits x s.now step.message move) (sym is.state) next
    in
    let steps = moves_step_under terms.limits a s.now step.message move is.legal own in
    let last = moves_last terms.limits s.book s.now step.message move limits is.resumes is.none_due is.later
    time fits
    makes.moves in
    record {
      after = steps.after;
      adds = record {
        epoch = steps.is.epoch;
        opened = steps.is.opened;
        entries = steps.is.entries ∙ ap (λ l. a.entries ++ l) (sym makes.entries_are);
      };
      is = record {
        legal = steps.is.legal;
        state = steps.is.state ∙ sym book;
        resumes = subst CanResume (sym book) last.resumes;
        later = (let l = last.in_time in
            let m : t.book.moment ≡ move.after.moment = ap (λ (x : State). x.moment) book in omega arith);
        none_due = ap (λ (x : State). due_at x t.now) book ∙ ap (λ n. due_at move.after n) now
            ∙ last.none_due;
      };
    }

pub by_rules : AnswersByRules
by_rules terms s t a connection body step said time is does =
    let makes = does.steps in
    let next = next_here terms.limits s.book s.now step.message makes.move is.later time is.none_due
    makes.moves in
    let own = subst (λ (x : State). StateNextUnder terms.limits x s.now step.message makes.move)
    (sym is.state) next in
    let steps = moves_step_under terms.limits a s.now step.message makes.move is.legal own in (
      steps.after,
      subst (λ x. NextUnder terms.limits a s.now step.message steps.after x) (sym makes.said_is) steps.next,
      record {
        epoch = steps.is.epoch;
        opened = steps.is.opened;
        entries = steps.is.entries ∙ ap (λ l. a.entries ++ l) (sym makes.entries_are);
      },
    )

-- ---- each effect

answered_account : (terms : DispatcherTerms) (a : Account) (s t : DispatcherState) (connection : ℕ) (body :
    List ℕ)
    (said : Answer)
    → AnswersOrWaits terms s connection body said t → IsHubAccount a s → IsHubAccount a t
answered_account terms a s t connection body (answer.Waiting key) does is =
    same_account a s t (ap (λ (u : DispatcherState). u.book) does.rest) (ap (λ (u : DispatcherState). u.now)
    does.rest) is
answered_account terms a s t connection body (answer.Replied key reply) does is =
    same_account a s t (ap (λ (u : DispatcherState). u.book) does.answers.rest)
    (ap (λ (u : DispatcherState). u.now) does.answers.rest) is
answered_account terms a s t connection body (answer.Welcome epoch client incarnation version) does is =
    same_account a s t (ap (λ (u : DispatcherState). u.book) does.answers.rest)
    (ap (λ (u : DispatcherState). u.now) does.answers.rest) is
answered_account terms a s t connection body (answer.Refused refusal) does is =
    same_account a s t (ap (λ (u : DispatcherState). u.book) does.answers.rest)
    (ap (λ (u : DispatcherState). u.now) does.answers.rest) is

-- the account is as it was after the step
behind : (a : Account) (made : List Entry) (m t : DispatcherState) → LeadsToAccount a made m
    → ((b : Account) → IsHubAccount b m → IsHubAccount b t) → LeadsToAccount a made t
behind a made m t leads goes = record {
  after = leads.after;
  adds = leads.adds;
  is = goes leads.after leads.is;
}

pub effect_leads : (terms : DispatcherTerms) (effect : Effect) (s t : DispatcherState) (a : Account)
    → AreStepLimits terms.limits
    → Does terms s effect t → s.now ≤ max_moment → t.now ≤ max_moment → IsHubAccount a s
    → LeadsToAccount a (entries_of_effect effect) t
effect_leads terms (Elapsed moment entries settled) s t a limits does before time is =
    elapsed_leads a s t moment entries settled does time is
effect_leads terms (Opened connection) s t a limits does before time is =
    stays a s t (ap (λ (u : DispatcherState). u.book) does.rest) (ap (λ (u : DispatcherState). u.now)
    does.rest) is
effect_leads terms (TookIn connection bytes) s t a limits does before time is =
    stays a s t (ap (λ (u : DispatcherState). u.book) does.rest) (ap (λ (u : DispatcherState). u.now)
    does.rest) is
effect_leads terms (EndedInput connection) s t a limits does before time is =
    stays a s t (ap (λ (u : DispatcherState). u.book) does.rest) (ap (λ (u : DispatcherState). u.now)
    does.rest) is
effect_leads terms (Left connection count) s t a limits does before time is =
    stays a s t (ap (λ (u : DispatcherState). u.book) does.rest) (ap (λ (u : DispatcherState). u.now)
    does.rest) is
effect_leads terms (Wrote entries) s t a limits does before time is =
    stays a s t (ap (λ (u : DispatcherState). u.book) does.rest) (ap (λ (u : DispatcherState). u.now)
    does.rest) is
effect_leads terms (Asked connection body step said) s t a limits does before time is =
    behind a step.entries does.between t
    (step_leads terms a s does.between step said limits does.is.2 does.steps before is)
    (λ b. answered_account terms b does.between t connection body said does.rest)
effect_leads terms (ReadNothing connection body) s t a limits does before time is =
    stays a s t (ap (λ (u : DispatcherState). u.book) does.answers.answers.rest)
    (ap (λ (u : DispatcherState). u.now) does.answers.answers.rest) is
effect_leads terms (Lacked connection body None) s t a limits does before time is =
    stays a s t (ap (λ (u : DispatcherState). u.book) does.answers.answers.rest
    ∙ ap (λ (u : DispatcherState). u.book)
    does.stepped)
    (ap (λ (u : DispatcherState). u.now) does.answers.answers.rest ∙ ap (λ (u : DispatcherState). u.now)
    does.stepped) is
effect_leads terms (Lacked connection body (Some step)) s t a limits does before time is =
    behind a step.entries does.between t
    (step_leads terms a s does.between step does.stepped.said limits does.stepped.is.2 does.stepped.steps
    before is)
    (λ b. same_account b does.between t (ap (λ (u : DispatcherState). u.book) does.answers.answers.rest)
    (ap (λ (u : DispatcherState). u.now) does.answers.answers.rest))
effect_leads terms (Lost connection body step) s t a limits does before time is =
    behind a step.entries does.between t
    (step_leads terms a s does.between step does.stepped.said limits does.stepped.is.2 does.stepped.steps
    before is)
    (λ b. same_account b does.between t (ap (λ (u : DispatcherState). u.book) does.closes.rest)
    (ap (λ (u : DispatcherState). u.now) does.closes.rest))
effect_leads terms (Told connection key said) s t a limits does before time is =
    stays a s t (ap (λ (u : DispatcherState). u.book) does.rest) (ap (λ (u : DispatcherState). u.now)
    does.rest) is
effect_leads terms (Closed connection) s t a limits does before time is =
    stays a s t (ap (λ (u : DispatcherState). u.book) does.rest) (ap (λ (u : DispatcherState). u.now)
    does.rest) is

pub effects_lead : EffectsLeadOn
effects_lead terms [] s t a limits same time is =
    stays a s t (ap (λ (u : DispatcherState). u.book) same) (ap (λ (u : DispatcherState). u.now) same) is
effects_lead terms (effect ∷ effects) s t a limits (mid, does, more) time is =
    let later = effects_rise terms effects mid t more in
    let one = effects_rise terms (effect ∷ []) s mid (mid, does, refl) in
    let first = effect_leads terms effect s mid a limits does (omega arith) (omega arith) is in
    leads_on a (entries_of_effect effect) (flat_map entries_of_effect effects) mid t first
    (effects_lead terms effects mid t first.after limits more time first.is)

pub events_rise : (terms : DispatcherTerms) (events : List (List Effect)) (s t : DispatcherState)
    → DoesEvents terms s events t
    → s.now ≤ t.now
events_rise terms [] s t same = let e : t.now ≡ s.now = ap (λ (u : DispatcherState). u.now) same in
    omega arith
events_rise terms (effects ∷ events) s t (mid, does, more) =
    let first = effects_rise terms effects (begun s) mid does in
    let rest = events_rise terms events mid t more in
    omega arith

pub events_lead : EventsLeadOn
events_lead terms [] s t a limits same time is =
    stays a s t (ap (λ (u : DispatcherState). u.book) same) (ap (λ (u : DispatcherState). u.now) same) is
events_lead terms (effects ∷ events) s t a limits (mid, does, more) time is =
    let rest = events_rise terms events mid t more in
    let first = effects_lead terms effects (begun s) mid a limits does (omega arith)
    (same_account a s (begun s)
    refl refl is) in
    leads_on a (flat_map entries_of_effect effects) (made_by events) mid t first
    (events_lead terms events mid t first.after limits more time first.is)

-- ---- what is told

became_told : (a : Account) (key : Key) (request : LastRequest) → key.number ≢ 0
    → BecameOf a.entries key request
    → Answers a key (answer_told key (told_again request))
became_told a key Fresh some zero = absurd (some zero)
became_told a key (Waits place call) some became =
    inr (record { place = place; call = call; arrived = became.arrived; waits = became.waits }, refl)
became_told a key (RepliedTo call reply) some became =
    inl (record { reply = reply; has = inl became.replies; is = refl })
became_told a key CancelledUnseen some became =
    inl (record { reply = Cancelled; has = inr (became, refl); is = refl })

-- the key of the session's last number
same_key : (key : Key) (epoch incarnation number : ℕ) → key.epoch ≡ epoch → incarnation ≡ key.incarnation
    → number ≡ key.number
    → ◌≡◌ {A = Key} (record {
      epoch = epoch;
      client = key.client;
      incarnation = incarnation;
      number =
          number;
    }) key
same_key key epoch incarnation number one two three =
    ap (λ e. record { epoch = e; client = key.client; incarnation = incarnation; number = number }) (sym one)
    ∙ ap (λ i. record { epoch = key.epoch; client = key.client; incarnation = i; number = number }) two
    ∙ ap (λ n. record { epoch = key.epoch; client = key.client; incarnation = key.incarnation; number = n })
    three

client_there : (a : Account) (s : State) (client : ℕ) (session : ClientState) → Legal a → state_of a ≡ s
    → client_at s client ≡ Some session → IsClientOrNew a client (Some session)
client_there a s client session legal same there =
    subst (IsClientOrNew a client) (ap (λ (x : State). client_at x client) same ∙ there)
    ((states_agree a legal).clients client)

-- what became of the request of whoever is told
pub told_became : (a : Account) (s : DispatcherState) (key : Key) (said : Answer) → IsHubAccount a s
    → (told : IsToldAgain s.book key said) → told.session.incarnation ≡ key.incarnation
    → told.session.last ≡ key.number → BecameOf a.entries key told.session.request
told_became a s key said is told incarnation last =
    let epoch : (state_of a).epoch ≡ a.epoch = (states_agree a is.legal).epoch in
    let own : key.epoch ≡ a.epoch = told.epoch ∙ sym (ap (λ (x : State). x.epoch) is.state) ∙ epoch in
    let client = client_there a s.book key.client told.session is.legal is.state told.there in
    subst (λ k. BecameOf a.entries k told.session.request)
    (same_key key a.epoch told.session.incarnation told.session.last own incarnation last) client.request

-- a key within its limits has no number 0
pub fitting_number : (key : Key) → FitsKey key → key.number ≢ 0
fitting_number key fits zero = let one = fits.3.0 in absurd (let no : ⊥ = omega (arith, one, zero) in no)

told_public : (a : Account) (s : DispatcherState) (key : Key) (said : Answer) → IsHubAccount a s
    → (told : IsToldAgain s.book key said) → (told.session.incarnation ≡ key.incarnation)
    × (told.session.last ≡ key.number) × (said ≡ answer_told key (told_again told.session.request))
    → Answers a key said
told_public a s key said is told (incarnation, last, same) =
    subst (λ x. Answers a key x) (sym same)
    (became_told a key told.session.request (fitting_number key told.fits) (told_became a s key said is told
    incarnation last))

-- whoever's session has a greater incarnation
old_refused : (a : Account) (s : DispatcherState) (key : Key) (said : Answer) → IsHubAccount a s
    → (told : IsToldAgain s.book key said) → (key.incarnation < told.session.incarnation)
    × (said ≡ answer.Refused (OldIncarnation told.session.incarnation))
    → (refusal : Refusal) × OldIncarnationDue a key.client key.incarnation refusal
    × (said ≡ answer.Refused refusal)
old_refused a s key said is told (lower, same) =
    let opened = (client_there a s.book key.client told.session is.legal is.state told.there).opened in (
      OldIncarnation told.session.incarnation,
      record {
        current = told.session.incarnation;
        has = (opened.h, opened.last);
        lower = lower;
        is = refl;
      },
      same,
    )

pub tells_public : TellsPublicReply
tells_public terms s t a connection key said is does =
    elim does.told.told [
      | inl own ↦ inl (told_public a s key said is does.told own)
      | inr old ↦ inr (old_refused a s key said is does.told old)
    ]
