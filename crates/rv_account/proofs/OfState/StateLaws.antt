-- The laws of states, from what an entry and a step say.
use Rattle.rv_account.proofs.OfState.Words.{◌≡◌, ◌++◌, ◌∷◌, ◌∙◌, List, [], append_assoc, length, refl, sym}
use Rattle.rv_account.proofs.OfState.Words.{ap}
use Rattle.rv_account.proofs.OfState.Words.{subst, fold, Entry, Account, with_entry, Legal, state_after}
use Rattle.rv_account.proofs.OfState.Words.{state_of, Move, Settled, State, due_at, own_moment, arith}
use Rattle.std.proofs.Math.Seq.{take-append_seam}
use Rattle.std.proofs.lemmas.List.Sums.{fold-append}
use Rattle.rv_account.specs.rules.StepLimits.{StepLimits, book_limits}
use Rattle.rv_account.specs.rules.Steps.{NextUnder}
use Rattle.rv_account.proofs.OfRules.Fronts.{Legal-before}
use Rattle.rv_account.proofs.OfRules.Legality.{follows_itself}
use Rattle.rv_account.specs.state.State.{opening}
use Rattle.rv_account.specs.state.Laws.{IsMoveTo, MovesExist, MovesExistUnder, MovesStep, MovesStepUnder}
use Rattle.rv_account.specs.state.Laws.{OneFuture}
use Rattle.rv_account.specs.state.Laws.{StatesAgree, StatesFollow, StatesKeepRules, StatesSettle}
use Rattle.rv_account.specs.state.Laws.{StatesTellWaiting}
use Rattle.rv_account.specs.state.Laws.{StepsAlike, StepsAlikeUnder, StepsMove, StepsMoveUnder, TicksMove}
use Rattle.rv_account.specs.state.Laws.{TicksStep}
use Rattle.rv_account.specs.state.Follows.{FollowsState}
use Rattle.rv_account.specs.state.Moves.{StateNextUnder, Ticked, ticked_at}
use Rattle.rv_account.specs.state.Settling.{SettlesEach}
use Rattle.rv_account.proofs.OfState.Agreed.{agreed, state_pushed}
use Rattle.rv_account.proofs.OfState.EntrySays.{says_of_entry}
use Rattle.rv_account.proofs.OfState.FollowsBoth.{account_to_state, state_to_account}
use Rattle.rv_account.proofs.OfState.MoveRuns.{Runs, move_runs, settles_by, ticked_runs}
use Rattle.rv_account.proofs.OfState.MovesBoth.{move_to_next, next_to_move}
use Rattle.rv_account.proofs.OfState.WhoWaits.{tells_waiting}
use Rattle.rv_account.proofs.OfState.MovesThere.{move_there}
use Rattle.rv_account.proofs.OfState.TicksBoth.{ticks_from, ticks_to}
use Rattle.rv_account.proofs.OfState.RulesKept.{rules_agree}

pub states_agree : StatesAgree
states_agree = agreed

pub states_tell_waiting : StatesTellWaiting
states_tell_waiting a legal = tells_waiting a (state_of a) legal (agreed a legal)

pub states_follow : StatesFollow
states_follow a e legal = (
  account_to_state a (state_of a) e legal (agreed a legal),
  state_to_account a (state_of a) e legal (agreed a legal),
)

pub states_keep_rules : StatesKeepRules
states_keep_rules a e legal = rules_agree a (state_of a) e legal (agreed a legal)

pub states_settle : StatesSettle
states_settle = says_of_entry

-- ---- a step

-- an account with some entries more
abbrev with_entries : Account → List Entry → Account
with_entries a es = record { epoch = a.epoch; opened = a.opened; entries = a.entries ++ es }

-- the accounts before its first and before its second entry are legal too
first_legal : (a : Account) (e : Entry) (es : List Entry) → Legal (with_entries a (e ∷ es))
    → Legal (with_entry a e)
first_legal a e es legal =
    let IsLegal : List Entry → Type 0 =
    λ entries. Legal (record { epoch = a.epoch; opened = a.opened; entries = entries }) in
    let longer : Legal (with_entries (with_entry a e) es) =
    subst IsLegal (sym (append_assoc a.entries (e ∷ []) es)) legal in
    subst IsLegal (take-append_seam (a.entries ++ e ∷ []) es)
    (Legal-before (with_entries (with_entry a e) es) (length (a.entries ++ e ∷ [])) longer)

before_legal : (a : Account) (e : Entry) → Legal (with_entry a e) → Legal a
before_legal a e legal =
    let IsLegal : List Entry → Type 0 =
    λ entries. Legal (record { epoch = a.epoch; opened = a.opened; entries = entries }) in
    subst IsLegal (take-append_seam a.entries (e ∷ []))
    (Legal-before (with_entry a e) (length a.entries) legal)

settles_all : (a : Account) (es : List Entry) → Legal (with_entries a es)
    → SettlesEach a.entries es (settles_by (state_of a) es)
settles_all a [] legal = refl
settles_all a (e ∷ es) legal =
    let pushed = first_legal a e es legal in
    let says = says_of_entry a e (before_legal a e pushed) (follows_itself a e pushed) in
    let IsLegal : List Entry → Type 0 =
    λ entries. Legal (record { epoch = a.epoch; opened = a.opened; entries = entries }) in
    let rest = settles_all (with_entry a e) es (subst IsLegal (sym (append_assoc a.entries (e ∷ []) es))
    legal) in
    let by_state : SettlesEach (a.entries ++ e ∷ []) es (settles_by (state_after (state_of a) e) es) =
    subst (λ t. SettlesEach (a.entries ++ e ∷ []) es (settles_by t es)) (state_pushed a e) rest in
    (_, _, says.settles, by_state, refl)

state_of_entries : (a b : Account) (es : List Entry) → b.epoch ≡ a.epoch → b.opened ≡ a.opened
    → b.entries ≡ a.entries ++ es → state_of b ≡ fold state_after (state_of a) es
state_of_entries a b es epoch opened entries =
    ap (λ n. fold state_after (opening n b.opened) b.entries) epoch
    ∙ ap (λ n. fold state_after (opening a.epoch n) b.entries) opened
    ∙ ap (fold state_after (opening a.epoch a.opened)) entries
    ∙ fold-append state_after (opening a.epoch a.opened) a.entries es

-- the second account is the first with some entries more, and legal; its state and whom they settle are these
record LeadsTo (a b : Account) (entries : List Entry) (after : State) (settles : List Settled) : Type 0 where
  state : state_of b ≡ after
  each : SettlesEach a.entries entries settles

leads_to : (a b : Account) (entries : List Entry) (after : State) (settles : List Settled)
    → Runs (state_of a) entries after settles → b.epoch ≡ a.epoch → b.opened ≡ a.opened
    → b.entries ≡ a.entries ++ entries → Legal b → LeadsTo a b entries after settles
leads_to a b entries after settles runs epoch opened are legal =
    let same : b ≡ with_entries a entries =
    λ i. record { epoch = epoch i; opened = opened i; entries = are i } in
    record {
      state = state_of_entries a b entries epoch opened are ∙ sym runs.after_is;
      each = subst (SettlesEach a.entries entries) (sym runs.settles_are)
          (settles_all a entries (subst Legal same legal));
    }

-- a move's entries lead to the account that has its state, and settle whom it says
is_move : (a b : Account) (move : Move) → Runs (state_of a) move.entries move.after move.settles
    → b.epoch ≡ a.epoch → b.opened ≡ a.opened → b.entries ≡ a.entries ++ move.entries → Legal b
    → IsMoveTo a b move
is_move a b move runs epoch opened entries legal =
    let leads = leads_to a b move.entries move.after move.settles runs epoch opened entries legal in
    record {
      epoch = epoch;
      opened = opened;
      entries = entries;
      legal = legal;
      state = leads.state;
      settles = leads.each;
    }

pub steps_move_under : (limits : StepLimits) → StepsMoveUnder limits
steps_move_under limits a b now m answer legal next =
    let moves = next_to_move limits a b (state_of a) now m answer legal (agreed a legal) next in
    let runs = move_runs limits (state_of a) now m moves.move moves.steps in
    record {
      move = moves.move;
      moves = moves.steps;
      answers = moves.is.answer;
      is = is_move a b moves.move runs moves.is.epoch moves.is.opened moves.is.entries moves.is.legal;
    }

pub moves_step_under : (limits : StepLimits) → MovesStepUnder limits
moves_step_under limits a now m move legal moves =
    let next = move_to_next limits a (state_of a) now m move legal (agreed a legal) moves in
    let runs = move_runs limits (state_of a) now m move moves in
    record {
      after = next.after;
      next = subst (NextUnder limits a now m next.after) next.is.answer next.next;
      is = is_move a next.after move runs next.is.epoch next.is.opened next.is.entries next.is.legal;
    }

pub one_future : OneFuture
one_future a b e legal other same =
    let first = states_follow a e legal in
    let second = states_follow b e other in (
      λ follows. second.1 (subst (λ s. FollowsState s e) same (first.0 follows)),
      λ follows. first.1 (subst (λ s. FollowsState s e) (sym same) (second.0 follows)),
    )

pub steps_alike_under : (limits : StepLimits) → StepsAlikeUnder limits
steps_alike_under limits a b after now m answer legal other same next =
    let moves = steps_move_under limits a after now m answer legal next in
    let there = subst (λ s. StateNextUnder limits s now m moves.move) same moves.moves in
    let steps = moves_step_under limits b now m moves.move other there in
    record {
      after_there = steps.after;
      next = subst (NextUnder limits b now m steps.after) (sym moves.answers) steps.next;
      more = moves.move.entries;
      adds = moves.is.entries;
      adds_there = steps.is.entries;
      told = moves.move.settles;
      settles = moves.is.settles;
      settles_there = steps.is.settles;
      same = steps.is.state ∙ sym moves.is.state;
    }

pub moves_exist_under : (limits : StepLimits) → MovesExistUnder limits
moves_exist_under limits s now m = move_there limits s now m

-- ---- under a book's limits

pub steps_move : StepsMove
steps_move = steps_move_under book_limits

pub moves_step : MovesStep
moves_step = moves_step_under book_limits

pub steps_alike : StepsAlike
steps_alike = steps_alike_under book_limits

pub moves_exist : MovesExist
moves_exist = moves_exist_under book_limits

-- ---- time-outs alone

pub ticks_move : TicksMove
ticks_move a b moment legal not_before ticks =
    let state = agreed a legal in
    let same : (state_of a).moment ≡ own_moment a = state.moment in
    let made : Ticked = ticked_at (state_of a) moment in
    let to = ticks_to a b (state_of a) moment legal state (omega arith) ticks in
    let leads = leads_to a b made.entries made.after made.settles
    (ticked_runs (state_of a) moment (due_at (state_of a) moment)) to.epoch to.opened to.entries to.legal in
    record {
      epoch = to.epoch;
      opened = to.opened;
      entries = to.entries;
      legal = to.legal;
      state = leads.state;
      settles = leads.each;
    }

pub ticks_step : TicksStep
ticks_step a moment legal not_before =
    let state = agreed a legal in
    let same : (state_of a).moment ≡ own_moment a = state.moment in
    let found = ticks_from a (state_of a) moment legal state (omega arith) in
    record {
      after = found.0;
      ticks = found.1;
      is = ticks_move a found.0 moment legal not_before found.1;
    }
