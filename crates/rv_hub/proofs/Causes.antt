-- Each effect leads the account on by its own causes.
use Rattle.std.proofs.Common.{◌≡◌, ◌∙◌, ◌++◌, ◌∷◌, ℕ, List, [], None, Some, sym, ap, subst}
use Rattle.std.proofs.Common.{append_assoc}
use Rattle.std.specs.Prelude.{flat_map}
use Rattle.rv_text.specs.declared.answer.Answer.{Answer}
use Rattle.rv_text.specs.declared.answer.Answer.TheVariants as answer
use Rattle.rv_account.specs.declared.entry.Entry.{Entry}
use Rattle.rv_account.specs.rules.StepLimits.{StepLimits}
use Rattle.rv_account.specs.state.State.{State}
use Rattle.rv_hub.specs.dispatcher.View.{DispatcherState, DispatcherTerms}
use Rattle.rv_hub.specs.dispatcher.Effects.{AnswersOrWaits, Effect, Does, DoesAll, MakesStep, Stepped}
use Rattle.rv_hub.specs.dispatcher.Effects.{entries_of_effect, Asked, Closed, Elapsed, EndedInput, Lacked}
use Rattle.rv_hub.specs.dispatcher.Effects.{Left, Lost, Opened, ReadNothing, Told, TookIn, Wrote}
use Rattle.rv_hub.specs.dispatcher.Runs.{Cause, Heard, RunsBook}
use Rattle.rv_hub.specs.EventEffects.{causes_of}

-- a run that begins with equal moments and states
run_from : (limits : StepLimits) (now now' later : ℕ) (s s' t : State) (causes : List Cause) (made :
    List Entry)
    → now' ≡ now → s' ≡ s → RunsBook limits now' s' causes made later t
    → RunsBook limits now s causes made later t
run_from limits now now' later s s' t causes made times states run =
    subst (λ (n : ℕ). RunsBook limits n s causes made later t) times
    (subst (λ (x : State). RunsBook limits now' x causes made later t) states run)

-- what answers or waits leaves the book and the moment
answering_stays : (terms : DispatcherTerms) (s t : DispatcherState) (connection : ℕ) (body : List ℕ) (said :
    Answer)
    → AnswersOrWaits terms s connection body said t → (t.book ≡ s.book) × (t.now ≡ s.now)
answering_stays terms s t connection body (answer.Waiting key) does =
    (ap (λ (u : DispatcherState). u.book) does.rest, ap (λ (u : DispatcherState). u.now) does.rest)
answering_stays terms s t connection body (answer.Replied key reply) does = (
  ap (λ (u : DispatcherState). u.book) does.answers.rest,
  ap (λ (u : DispatcherState). u.now)
      does.answers.rest,
)
answering_stays terms s t connection body (answer.Welcome epoch client incarnation version) does = (
  ap (λ (u : DispatcherState). u.book) does.answers.rest,
  ap (λ (u : DispatcherState). u.now)
      does.answers.rest,
)
answering_stays terms s t connection body (answer.Refused refusal) does = (
  ap (λ (u : DispatcherState). u.book) does.answers.rest,
  ap (λ (u : DispatcherState). u.now)
      does.answers.rest,
)

-- a step, and what leaves its book, lead on by the step's message
step_follows : (terms : DispatcherTerms) (s between mid : DispatcherState) (step : Stepped) (said : Answer)
    (causes : List Cause) (made : List Entry) (later : ℕ) (t : State)
    → MakesStep terms s step said between → mid.book ≡ between.book → mid.now ≡ between.now
    → RunsBook terms.limits mid.now mid.book causes made later t
    → RunsBook terms.limits s.now s.book (Heard step.message ∷ causes) (step.entries ++ made) later t
step_follows terms s between mid step said causes made later t makes book now run =
    let at_book : mid.book ≡ makes.move.after = book ∙ ap (λ (u : DispatcherState). u.book) makes.after in
    let at_now : mid.now ≡ s.now = now ∙ ap (λ (u : DispatcherState). u.now) makes.after in (
      makes.move,
      made,
      makes.moves,
      ap (λ l. l ++ made) makes.entries_are,
      run_from terms.limits s.now mid.now later makes.move.after mid.book t causes made at_now at_book run,
    )

effect_follows : (terms : DispatcherTerms) (effect : Effect) (s mid : DispatcherState) (causes : List Cause)
    (made : List Entry)
    (later : ℕ) (t : State) → Does terms s effect mid
    → RunsBook terms.limits mid.now mid.book causes made later t
    → RunsBook terms.limits s.now s.book (causes_of effect ++ causes) (entries_of_effect effect ++ made) later
    t
effect_follows terms (Elapsed moment entries settled) s mid causes made later t does run = (
  made,
  does.later,
  ap (λ l. l ++ made) does.entries_are,
  run_from terms.limits moment mid.now later _ mid.book t causes made
      (ap (λ (u : DispatcherState). u.now) does.after) (ap (λ (u : DispatcherState). u.book) does.after) run,
)
effect_follows terms (Opened connection) s mid causes made later t does run =
    run_from terms.limits s.now mid.now later s.book mid.book t causes made
    (ap (λ (u : DispatcherState). u.now) does.rest)
    (ap (λ (u : DispatcherState). u.book) does.rest) run
effect_follows terms (TookIn connection bytes) s mid causes made later t does run =
    run_from terms.limits s.now mid.now later s.book mid.book t causes made
    (ap (λ (u : DispatcherState). u.now) does.rest)
    (ap (λ (u : DispatcherState). u.book) does.rest) run
effect_follows terms (EndedInput connection) s mid causes made later t does run =
    run_from terms.limits s.now mid.now later s.book mid.book t causes made
    (ap (λ (u : DispatcherState). u.now) does.rest)
    (ap (λ (u : DispatcherState). u.book) does.rest) run
effect_follows terms (Left connection count) s mid causes made later t does run =
    run_from terms.limits s.now mid.now later s.book mid.book t causes made
    (ap (λ (u : DispatcherState). u.now) does.rest)
    (ap (λ (u : DispatcherState). u.book) does.rest) run
effect_follows terms (Wrote count) s mid causes made later t does run =
    run_from terms.limits s.now mid.now later s.book mid.book t causes made
    (ap (λ (u : DispatcherState). u.now) does.rest)
    (ap (λ (u : DispatcherState). u.book) does.rest) run
effect_follows terms (Asked connection body step said) s mid causes made later t does run =
    let both = answering_stays terms does.between mid connection body said does.rest in
    step_follows terms s does.between mid step said causes made later t does.steps both.0 both.1 run
effect_follows terms (ReadNothing connection body) s mid causes made later t does run =
    run_from terms.limits s.now mid.now later s.book mid.book t causes made
    (ap (λ (u : DispatcherState). u.now) does.answers.answers.rest)
    (ap (λ (u : DispatcherState). u.book) does.answers.answers.rest) run
effect_follows terms (Lacked connection body None) s mid causes made later t does run =
    run_from terms.limits s.now mid.now later s.book mid.book t causes made
    (ap (λ (u : DispatcherState). u.now) does.answers.answers.rest ∙ ap (λ (u : DispatcherState). u.now)
    does.stepped)
    (ap (λ (u : DispatcherState). u.book) does.answers.answers.rest ∙ ap (λ (u : DispatcherState). u.book)
    does.stepped)
    run
effect_follows terms (Lacked connection body (Some step)) s mid causes made later t does run =
    step_follows terms s does.between mid step does.stepped.said causes made later t does.stepped.steps
    (ap (λ (u : DispatcherState). u.book) does.answers.answers.rest)
    (ap (λ (u : DispatcherState). u.now) does.answers.answers.rest) run
effect_follows terms (Lost connection body step) s mid causes made later t does run =
    step_follows terms s does.between mid step does.stepped.said causes made later t does.stepped.steps
    (ap (λ (u : DispatcherState). u.book) does.closes.rest)
    (ap (λ (u : DispatcherState). u.now) does.closes.rest) run
effect_follows terms (Told connection key said) s mid causes made later t does run =
    run_from terms.limits s.now mid.now later s.book mid.book t causes made
    (ap (λ (u : DispatcherState). u.now) does.rest)
    (ap (λ (u : DispatcherState). u.book) does.rest) run
effect_follows terms (Closed connection) s mid causes made later t does run =
    run_from terms.limits s.now mid.now later s.book mid.book t causes made
    (ap (λ (u : DispatcherState). u.now) does.rest)
    (ap (λ (u : DispatcherState). u.book) does.rest) run

-- so do effects, one after another
pub effects_follow : (terms : DispatcherTerms) (effects : List Effect) (s mid : DispatcherState) (causes :
    List Cause)
    (made : List Entry) (later : ℕ) (t : State) → DoesAll terms s effects mid
    → RunsBook terms.limits mid.now mid.book causes made later t
    → RunsBook terms.limits s.now s.book (flat_map causes_of effects ++ causes)
    (flat_map entries_of_effect effects ++ made) later t
effects_follow terms [] s mid causes made later t same run =
    run_from terms.limits s.now mid.now later s.book mid.book t causes made
    (ap (λ (u : DispatcherState). u.now) same) (ap (λ (u : DispatcherState). u.book) same) run
effects_follow terms (effect ∷ effects) s mid causes made later t (first, does, more) run =
    let rest = effects_follow terms effects first mid causes made later t more run in
    let whole = effect_follows terms effect s first (flat_map causes_of effects ++ causes)
    (flat_map entries_of_effect effects ++ made) later t does rest in
    subst (λ cs. RunsBook terms.limits s.now s.book cs (flat_map entries_of_effect (effect ∷ effects) ++ made)
    later
    t)
    (sym (append_assoc (causes_of effect) (flat_map causes_of effects) causes))
    (subst (λ es. RunsBook terms.limits s.now s.book
    (causes_of effect ++ (flat_map causes_of effects ++ causes)) es later t)
    (sym (append_assoc (entries_of_effect effect) (flat_map entries_of_effect effects) made)) whole)
