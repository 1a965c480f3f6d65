-- No effect makes the account shorter, and no more is written than it has entries.
use Rattle.std.proofs.Common.{inl, inr, ◌≡◌, ◌≤◌, ◌+◌, ◌∙◌, ◌∷◌, ◌⊎◌, ℕ, List, [], None, Some}
use Rattle.std.proofs.Common.{refl, sym, ap, subst, arith}
use Rattle.std.proofs.Common.{length}
use Rattle.std.specs.Prelude.{flat_map}
use Rattle.std.proofs.lemmas.List.{append-nil, length-append}
use Rattle.rv_text.specs.declared.message.Message.{Message}
use Rattle.rv_text.specs.declared.answer.Answer.{Answer}
use Rattle.rv_text.specs.declared.answer.Answer.TheVariants as answer
use Rattle.rv_account.specs.declared.entry.Act.{Act}
use Rattle.rv_account.specs.declared.entry.Act.TheVariants as act
use Rattle.rv_account.specs.declared.entry.Entry.{Entry}
use Rattle.rv_account.specs.rules.StepLimits.{StepLimits}
use Rattle.rv_account.specs.state.After.{due_at, following}
use Rattle.rv_account.specs.state.Moves.{Move, StateNextAtUnder, ticked_at, ticked_if}
use Rattle.rv_account.specs.state.State.{OpenPlace, State}
use Rattle.rv_account.proofs.OfState.Resumed.Counts.{length_acted}
use Rattle.rv_machine.specs.Needing.{act_of}
use Rattle.rv_machine.proofs.RoomTaken.{StaysOrEnters, move_kinds}
use Rattle.rv_hub.specs.dispatcher.View.{DispatcherState, DispatcherTerms}
use Rattle.rv_hub.specs.dispatcher.Effects.{AnswersOrWaits, Effect, Does, DoesAll, entries_of_effect}
use Rattle.rv_hub.specs.dispatcher.Runs.{Cause, Heard, RunsBook, Time}
use Rattle.rv_hub.proofs.OfDispatcher.OneBook.{one_run}
use Rattle.rv_hub.specs.dispatcher.Effects.{Asked, Closed, Elapsed, EndedInput, Lacked, Left, Lost, Opened}
use Rattle.rv_hub.specs.dispatcher.Effects.{ReadNothing, Told, TookIn, Wrote}

-- ---- the account

counted_by : (s : State) (moment : ℕ) (does : Act) → (following s moment does).after.length ≡ s.length + 1
counted_by s moment does = ap (λ n. n + 1) (length_acted s moment does)

counted_tick : (s : State) (moment : ℕ) (due : List OpenPlace)
    → (ticked_if s moment due).after.length ≡ s.length + length (ticked_if s moment due).entries
counted_tick s moment [] = omega arith
counted_tick s moment (first ∷ others) = counted_by s moment act.Tick

by_kind : (s : State) (moment : ℕ) (m : Message) (move : Move) → StaysOrEnters s moment m move
    → move.after.length ≡ s.length + length move.entries
by_kind s moment m move (inl stays) =
    let after : move.after.length ≡ s.length = ap (λ (x : Move). x.after.length) stays in
    let none : length move.entries ≡ 0 = ap (λ (x : Move). length x.entries) stays in
    omega arith
by_kind s moment m move (inr enters) =
    let after : move.after.length ≡ (following s moment (act_of m)).after.length =
    ap (λ (x : Move). x.after.length) enters in
    let one : length move.entries ≡ 1 = ap (λ (x : Move). length x.entries) enters in
    let counted = counted_by s moment (act_of m) in
    omega arith

counted_move : (limits : StepLimits) (s : State) (moment : ℕ) (m : Message) (move : Move)
    → StateNextAtUnder limits s moment m move → move.after.length ≡ s.length + length move.entries
counted_move limits s moment m move moves = by_kind s moment m move (move_kinds limits s moment m move moves)

pub counted_run : (limits : StepLimits) (now later : ℕ) (s t : State) (causes : List Cause) (entries :
    List Entry)
    → RunsBook limits now s causes entries later t → t.length ≡ s.length + length entries
counted_run limits now later s t [] entries (none, same, is) =
    let empty = ap length none in
    let after : t.length ≡ s.length = ap (λ (x : State). x.length) is in
    omega arith
counted_run limits now later s t (Time moment ∷ causes) entries (rest, before, parts, run) =
    let more = counted_run limits moment later (ticked_at s moment).after t causes rest run in
    let first = counted_tick s moment (due_at s moment) in
    let sum = ap length parts ∙ length-append (ticked_at s moment).entries rest in
    omega arith
counted_run limits now later s t (Heard message ∷ causes) entries (move, rest, moves, parts, run) =
    let more = counted_run limits now later move.after t causes rest run in
    let first = counted_move limits s now message move moves in
    let sum = ap length parts ∙ length-append move.entries rest in
    omega arith

-- what effects add to the account are their entries
pub effects_count : (terms : DispatcherTerms) (effects : List Effect) (s t : DispatcherState)
    → DoesAll terms s effects t
    → t.book.length ≡ s.book.length + length (flat_map entries_of_effect effects)
effects_count terms effects s t does =
    let run = one_run terms effects s t does in
    counted_run terms.limits s.now t.now s.book t.book run.0 (flat_map entries_of_effect effects) run.1

pub effect_counts : (terms : DispatcherTerms) (effect : Effect) (s t : DispatcherState)
    → Does terms s effect t
    → t.book.length ≡ s.book.length + length (entries_of_effect effect)
effect_counts terms effect s t does =
    effects_count terms (effect ∷ []) s t (t, does, refl)
    ∙ ap (λ l. s.book.length + length l) (append-nil (entries_of_effect effect))

-- ---- what is written

abbrev pub IsWithin : DispatcherState → Type 0
IsWithin s = s.open_wires.written ≤ s.book.length

pub answers_written : (terms : DispatcherTerms) (s t : DispatcherState) (connection : ℕ) (body : List ℕ)
    (said : Answer)
    → AnswersOrWaits terms s connection body said t → t.open_wires.written ≡ s.open_wires.written
answers_written terms s t connection body (answer.Waiting key) does = does.takes.sets.written
answers_written terms s t connection body (answer.Replied key reply) does = does.answers.changes.sets.written
answers_written terms s t connection body (answer.Welcome epoch client incarnation version) does =
    does.answers.changes.sets.written
answers_written terms s t connection body (answer.Refused refusal) does = does.answers.changes.sets.written

-- what is written stays, or is within the account
pub effect_written : (terms : DispatcherTerms) (effect : Effect) (s t : DispatcherState)
    → Does terms s effect t
    → (t.open_wires.written ≡ s.open_wires.written) ⊎ IsWithin t
effect_written terms (Elapsed moment entries settled) s t does =
    inl (ap (λ (u : DispatcherState). u.open_wires.written) does.after)
effect_written terms (Opened connection) s t does = inl does.opens.sets.written
effect_written terms (TookIn connection bytes) s t does = inl does.changes.sets.written
effect_written terms (EndedInput connection) s t does = inl does.changes.sets.written
effect_written terms (Left connection count) s t does = inl does.changes.sets.written
effect_written terms (Wrote entries) s t does =
    let written = does.releases.written_is in
    let most = does.within in
    let same : t.book.length ≡ s.book.length = ap (λ (u : DispatcherState). u.book.length) does.rest in
    inr (let w = written in omega arith)
effect_written terms (Asked connection body step said) s t does =
    inl (answers_written terms does.between t connection body said does.rest
    ∙ ap (λ (u : DispatcherState). u.open_wires.written) does.steps.after)
effect_written terms (ReadNothing connection body) s t does = inl does.answers.answers.changes.sets.written
effect_written terms (Lacked connection body None) s t does =
    inl (does.answers.answers.changes.sets.written ∙ ap (λ (u : DispatcherState). u.open_wires.written)
    does.stepped)
effect_written terms (Lacked connection body (Some step)) s t does =
    inl (does.answers.answers.changes.sets.written
    ∙ ap (λ (u : DispatcherState). u.open_wires.written) does.stepped.steps.after)
effect_written terms (Lost connection body step) s t does =
    inl (does.closes.sets.written ∙ ap (λ (u : DispatcherState). u.open_wires.written)
    does.stepped.steps.after)
effect_written terms (Told connection key said) s t does = inl does.answers.sets.written
effect_written terms (Closed connection) s t does = inl does.sets.written

within_effect : (terms : DispatcherTerms) (effect : Effect) (s t : DispatcherState) → Does terms s effect t
    → IsWithin s
    → IsWithin t
within_effect terms effect s t does within =
    let counted = effect_counts terms effect s t does in
    elim (effect_written terms effect s t does) [
      | inl same ↦ (let w = same in omega arith)
      | inr own ↦ own
    ]

pub within_all : (terms : DispatcherTerms) (effects : List Effect) (s t : DispatcherState)
    → DoesAll terms s effects t
    → IsWithin s
    → IsWithin t
within_all terms [] s t same within = subst IsWithin (sym same) within
within_all terms (effect ∷ effects) s t (mid, does, more) within =
    within_all terms effects mid t more (within_effect terms effect s mid does within)
