-- Each effect is a cause of the book's state, or leaves it.
use Rattle.std.proofs.Common.{◌≡◌, ◌∙◌, ◌++◌, ◌∷◌, [], ℕ, List, None, Some, ap, refl, subst, sym}
use Rattle.std.specs.Prelude.{flat_map}
use Rattle.rv_text.specs.declared.answer.Answer.{Answer}
use Rattle.rv_text.specs.declared.answer.Answer.TheVariants as answer
use Rattle.rv_account.specs.declared.entry.Entry.{Entry}
use Rattle.rv_account.specs.rules.StepLimits.{StepLimits}
use Rattle.rv_account.specs.state.State.{State}
use Rattle.rv_hub.specs.dispatcher.View.{DispatcherState, DispatcherTerms}
use Rattle.rv_hub.specs.dispatcher.Effects.{AnswersOrWaits, Effect, Does, MakesStep, Stepped}
use Rattle.rv_hub.specs.dispatcher.Effects.{entries_of_effect, Asked, Closed, Elapsed, EndedInput, Lacked}
use Rattle.rv_hub.specs.dispatcher.Effects.{Left, Lost, Opened, ReadNothing, Told, TookIn, Wrote}
use Rattle.rv_hub.specs.dispatcher.Runs.{Cause, Heard, EffectsAreOneRun, RunsBook, Time}

-- a run at equal ends
run_at : (limits : StepLimits) (now now' later : ℕ) (s s' t : State) (causes : List Cause) (entries :
    List Entry)
    → now ≡ now' → s ≡ s' → RunsBook limits now' s' causes entries later t
    → RunsBook limits now s causes entries later t
run_at limits now now' later s s' t causes entries times states run =
    subst (λ (n : ℕ). RunsBook limits n s causes entries later t) (sym times)
    (subst (λ (x : State). RunsBook limits now' x causes entries later t) (sym states) run)

-- what answers or waits leaves the book and the moment
stays_answering : (terms : DispatcherTerms) (old new : DispatcherState) (connection : ℕ) (body : List ℕ)
    (said : Answer)
    → AnswersOrWaits terms old connection body said new → (new.book ≡ old.book) × (new.now ≡ old.now)
stays_answering terms old new connection body (answer.Waiting key) does =
    (ap (λ (s : DispatcherState). s.book) does.rest, ap (λ (s : DispatcherState). s.now) does.rest)
stays_answering terms old new connection body (answer.Replied key reply) does = (
  ap (λ (s : DispatcherState). s.book) does.answers.rest,
  ap (λ (s : DispatcherState). s.now)
      does.answers.rest,
)
stays_answering terms old new connection body (answer.Welcome epoch client incarnation version) does = (
  ap (λ (s : DispatcherState). s.book) does.answers.rest,
  ap (λ (s : DispatcherState). s.now)
      does.answers.rest,
)
stays_answering terms old new connection body (answer.Refused refusal) does = (
  ap (λ (s : DispatcherState). s.book) does.answers.rest,
  ap (λ (s : DispatcherState). s.now)
      does.answers.rest,
)

-- the causes of an effect, and the run that goes on after it
Runs : DispatcherTerms → DispatcherState → DispatcherState → List Entry → Type 0
Runs terms old new entries =
    (causes : List Cause) × RunsBook terms.limits old.now old.book causes entries new.now new.book

stays : (terms : DispatcherTerms) (old between new : DispatcherState) (entries : List Entry)
    → between.book ≡ old.book
    → between.now ≡ old.now → Runs terms between new entries → Runs terms old new entries
unfolding Runs
stays terms old between new entries book now (causes, run) = (
  causes,
  run_at terms.limits old.now between.now new.now old.book between.book new.book causes entries (sym now)
      (sym book) run,
)

steps : (terms : DispatcherTerms) (old between after new : DispatcherState) (step : Stepped) (said : Answer)
    (entries : List Entry) → MakesStep terms old step said between
    → after.book ≡ between.book → after.now ≡ between.now → Runs terms after new entries
    → Runs terms old new (step.entries ++ entries)
unfolding Runs
steps terms old between after new step said entries makes book now (causes, run) =
    let at_book : after.book ≡ makes.move.after = book ∙ ap (λ (s : DispatcherState). s.book) makes.after in
    let at_now : after.now ≡ old.now = now ∙ ap (λ (s : DispatcherState). s.now) makes.after in (
      Heard step.message ∷ causes,
      (
        makes.move,
        entries,
        makes.moves,
        ap (λ l. l ++ entries) makes.entries_are,
        run_at terms.limits old.now after.now new.now makes.move.after after.book new.book causes entries
            (sym at_now)
            (sym at_book) run,
      ),
    )

goes_on : (terms : DispatcherTerms) (effect : Effect) (old between new : DispatcherState) (entries :
    List Entry)
    → Does terms old effect between → Runs terms between new entries
    → Runs terms old new (entries_of_effect effect ++ entries)
unfolding Runs
goes_on terms (Elapsed moment made settled) old between new entries does (causes, run) =
    let at_book = ap (λ (s : DispatcherState). s.book) does.after in
    let at_now = ap (λ (s : DispatcherState). s.now) does.after in (
      Time moment ∷ causes,
      (
        entries,
        does.later,
        ap (λ l. l ++ entries) does.entries_are,
        run_at terms.limits moment between.now new.now _ between.book new.book causes entries (sym at_now)
            (sym at_book) run,
      ),
    )
goes_on terms (Opened connection) old between new entries does run =
    stays terms old between new entries (ap (λ (s : DispatcherState). s.book) does.rest)
    (ap (λ (s : DispatcherState). s.now) does.rest) run
goes_on terms (TookIn connection bytes) old between new entries does run =
    stays terms old between new entries (ap (λ (s : DispatcherState). s.book) does.rest)
    (ap (λ (s : DispatcherState). s.now) does.rest) run
goes_on terms (EndedInput connection) old between new entries does run =
    stays terms old between new entries (ap (λ (s : DispatcherState). s.book) does.rest)
    (ap (λ (s : DispatcherState). s.now) does.rest) run
goes_on terms (Left connection count) old between new entries does run =
    stays terms old between new entries (ap (λ (s : DispatcherState). s.book) does.rest)
    (ap (λ (s : DispatcherState). s.now) does.rest) run
goes_on terms (Wrote count) old between new entries does run =
    stays terms old between new entries (ap (λ (s : DispatcherState). s.book) does.rest)
    (ap (λ (s : DispatcherState). s.now) does.rest) run
goes_on terms (Asked connection body step said) old between new entries does run =
    let both = stays_answering terms does.between between connection body said does.rest in
    steps terms old does.between between new step said entries does.steps both.0 both.1 run
goes_on terms (ReadNothing connection body) old between new entries does run =
    stays terms old between new entries (ap (λ (s : DispatcherState). s.book) does.answers.answers.rest)
    (ap (λ (s : DispatcherState). s.now) does.answers.answers.rest) run
goes_on terms (Lacked connection body None) old between new entries does run =
    stays terms old between new entries
    (ap (λ (s : DispatcherState). s.book) does.answers.answers.rest ∙ ap (λ (s : DispatcherState). s.book)
    does.stepped)
    (ap (λ (s : DispatcherState). s.now) does.answers.answers.rest ∙ ap (λ (s : DispatcherState). s.now)
    does.stepped) run
goes_on terms (Lacked connection body (Some step)) old between new entries does run =
    steps terms old does.between between new step does.stepped.said entries does.stepped.steps
    (ap (λ (s : DispatcherState). s.book) does.answers.answers.rest)
    (ap (λ (s : DispatcherState). s.now) does.answers.answers.rest) run
goes_on terms (Lost connection body step) old between new entries does run =
    steps terms old does.between between new step does.stepped.said entries does.stepped.steps
    (ap (λ (s : DispatcherState). s.book) does.closes.rest) (ap (λ (s : DispatcherState). s.now)
    does.closes.rest) run
goes_on terms (Told connection key said) old between new entries does run =
    stays terms old between new entries (ap (λ (s : DispatcherState). s.book) does.rest)
    (ap (λ (s : DispatcherState). s.now) does.rest) run
goes_on terms (Closed connection) old between new entries does run =
    stays terms old between new entries (ap (λ (s : DispatcherState). s.book) does.rest)
    (ap (λ (s : DispatcherState). s.now) does.rest) run

pub one_run : EffectsAreOneRun
unfolding Runs
one_run terms [] old new same = (
  [],
  (
    refl,
    ap (λ (s : DispatcherState). s.now) same,
    ap (λ (s : DispatcherState). s.book) same,
  ),
)
one_run terms (effect ∷ effects) old new (between, does, rest) =
    goes_on terms effect old between new (flat_map entries_of_effect effects) does (one_run terms effects
    between new
    rest)
