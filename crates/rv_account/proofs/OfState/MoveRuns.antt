-- What a move makes of a state is what its entries make of it, one after the other.
use Rattle.rv_account.proofs.OfState.Words.{◌≡◌, ◌++◌, ◌∷◌, ◌∙◌, inl, inr, ℕ, List, [], append-nil}
use Rattle.rv_account.proofs.OfState.Words.{append_assoc, refl}
use Rattle.rv_account.proofs.OfState.Words.{Option, None, Some, Call, sym, ap, subst, fold, Key, Message}
use Rattle.rv_account.proofs.OfState.Words.{Answer}
use Rattle.rv_account.proofs.OfState.Words.{Refusal, Act, Entry, OpenPlace, State, Settled, due_at, following}
use Rattle.rv_account.proofs.OfState.Words.{state_after, Move, Ticked, entering, staying, ticked_at}
use Rattle.std.proofs.lemmas.List.Sums.{fold-append}
use Rattle.rv_text.specs.declared.message.Message.TheVariants.{Hello, Request, Cancel}
use Rattle.rv_text.specs.declared.answer.Refusal.TheVariants.{NoMemory}
use Rattle.rv_account.specs.rules.StepLimits.{StepLimits}
use Rattle.rv_account.specs.rules.Steps.{RefuseOr, WhereElse}
use Rattle.rv_account.specs.state.Moves.{EntersMove, RefusesMove, RepeatsMove, StateKeyLines}
use Rattle.rv_account.specs.state.Moves.{StateNextAtUnder}
use Rattle.rv_account.specs.state.Moves.{StateNextUnder, StatePlaceLine, state_moment, ticked_if}

-- whom some entries settle, by the state before them
abbrev pub settles_by : State → List Entry → List Settled
settles_by s [] = []
settles_by s (e ∷ es) = (following s e.moment e.act).settles ++ settles_by (state_after s e) es

-- the state after some entries, and whom they settle, are these
pub record Runs (s : State) (entries : List Entry) (after : State) (settles : List Settled) : Type 0 where
  pub after_is : after ≡ fold state_after s entries
  pub settles_are : settles ≡ settles_by s entries

abbrev RunsMove : State → Move → Type 0
RunsMove s move = Runs s move.entries move.after move.settles

-- ---- the ends of a step's lines

refuse_end : (P : Type 0) (due refuses : Refusal → Type 0) (other : Type 0)
    → ((refusal : Refusal) → refuses refusal → P) → (other → P) → RefuseOr due refuses other → P
refuse_end P due refuses other refused goes_on (inl h) = refused h.refusal h.refuses_it
refuse_end P due refuses other refused goes_on (inr h) = goes_on h.1

where_end : (P condition this that : Type 0) → (this → P) → (that → P) → WhereElse condition this that → P
where_end P condition this that first second (inl h) = first h.1
where_end P condition this that first second (inr h) = second h.1

module _ (s : State) (move : Move) where
  stays_runs : (said : Answer) → move ≡ staying s said → RunsMove s move
  stays_runs said is = subst (RunsMove s) (sym is) (record { after_is = refl; settles_are = refl })

  enters_runs : (moment : ℕ) (does : Act) (said : Answer) → move ≡ entering s moment does said
      → RunsMove s move
  enters_runs moment does said is =
      subst (RunsMove s) (sym is)
      (record { after_is = refl; settles_are = sym (append-nil (following s moment does).settles) })

  refused_runs : (refusal : Refusal) → RefusesMove s move refusal → RunsMove s move
  refused_runs refusal is = stays_runs _ is

  repeats_runs : (key : Key) → RepeatsMove s key move → RunsMove s move
  repeats_runs key repeats = stays_runs _ repeats.is

  may_enter_runs : (moment : ℕ) (does : Act) (said : Answer) → EntersMove s moment does move said
      → RunsMove s move
  may_enter_runs moment does said (inl refused) = refused_runs NoMemory refused
  may_enter_runs moment does said (inr enters) = enters_runs moment does said enters

  key_end : (key : Key) (at_last above : Type 0) → (at_last → RunsMove s move) → (above → RunsMove s move)
      → StateKeyLines s key (RefusesMove s move) at_last above → RunsMove s move
  key_end key at_last above first second =
      refuse_end _ _ _ _ refused_runs
      (refuse_end _ _ _ _ refused_runs
      (refuse_end _ _ _ _ refused_runs
      (refuse_end _ _ _ _ refused_runs
      (where_end _ _ _ _ first
      (refuse_end _ _ _ _ refused_runs
      (refuse_end _ _ _ _ refused_runs second))))))

  place_end : (bound : Option ℕ) (call : Call) (enters : Type 0) → (enters → RunsMove s move)
      → StatePlaceLine bound s call (RefusesMove s move) enters → RunsMove s move
  place_end None call enters goes_on = goes_on
  place_end (Some most) call enters goes_on = refuse_end _ _ _ _ refused_runs goes_on

  next_at_runs : (limits : StepLimits) (moment : ℕ) (m : Message) → StateNextAtUnder limits s moment m move
      → RunsMove s move
  next_at_runs limits moment (Hello client incarnation version) =
      refuse_end _ _ _ _ refused_runs
      (refuse_end _ _ _ _ refused_runs
      (where_end _ _ _ _ (stays_runs _)
      (refuse_end _ _ _ _ refused_runs
      (refuse_end _ _ _ _ refused_runs (may_enter_runs moment _ _)))))
  next_at_runs limits moment (Request key call) =
      key_end key _ _ (refuse_end _ _ _ _ refused_runs (repeats_runs key))
      (refuse_end _ _ _ _ refused_runs
      (place_end limits.open_places call _ (may_enter_runs moment _ _)))
  next_at_runs limits moment (Cancel key) =
      key_end key _ _ (where_end _ _ _ _ (enters_runs moment _ _) (repeats_runs key))
      (refuse_end _ _ _ _ refused_runs (may_enter_runs moment _ _))

-- ---- both parts of a step

pub ticked_runs : (s : State) (moment : ℕ) (due : List OpenPlace)
    → Runs s (ticked_if s moment due).entries (ticked_if s moment due).after (ticked_if s moment due).settles
ticked_runs s moment [] = record { after_is = refl; settles_are = refl }
ticked_runs s moment (first ∷ others) =
    record { after_is = refl; settles_are = sym (append-nil _) }

settles_append : (s : State) (es more : List Entry)
    → settles_by s (es ++ more) ≡ settles_by s es ++ settles_by (fold state_after s es) more
settles_append s [] more = refl
settles_append s (e ∷ es) more =
    ap (λ rest. (following s e.moment e.act).settles ++ rest) (settles_append (state_after s e) es more)
    ∙ sym (append_assoc (following s e.moment e.act).settles (settles_by (state_after s e) es)
    (settles_by (fold state_after (state_after s e) es) more))

pub move_runs : (limits : StepLimits) (s : State) (now : ℕ) (m : Message) (move : Move)
    → StateNextUnder limits s now m move → Runs s move.entries move.after move.settles
move_runs limits s now m move next =
    let made : Ticked = ticked_at s (state_moment s now) in
    let first = ticked_runs s (state_moment s now) (due_at s (state_moment s now)) in
    let second = next_at_runs made.after next.then limits (state_moment s now) m next.steps in
    let es = made.entries in
    let more = next.then.entries in
    record {
      after_is = next.after ∙ second.after_is ∙ ap (λ t. fold state_after t more) first.after_is
          ∙ sym (fold-append state_after s es more) ∙ ap (fold state_after s) (sym next.entries);
      settles_are = next.settles
          ∙ ap (λ l. l ++ next.then.settles) first.settles_are
          ∙ ap (λ l. settles_by s es ++ l)
          (second.settles_are ∙ ap (λ t. settles_by t more) first.after_is)
          ∙ sym (settles_append s es more)
          ∙ ap (settles_by s) (sym next.entries);
    }
