-- A step of a legal account is a step of its state, and one of its state is one of the account.
use Rattle.rv_account.proofs.OfState.Words.{◌≡◌, ◌++◌, ◌≤◌, ◌∙◌, ℕ, List, append_assoc, refl, sym, ap}
use Rattle.rv_account.proofs.OfState.Words.{subst, arith}
use Rattle.rv_account.proofs.OfState.Words.{Message, Answer, Entry, Account, Legal, State, Move, Ticked}
use Rattle.rv_account.proofs.OfState.Words.{ticked_at}
use Rattle.rv_account.proofs.OfState.Words.{IsStateOf}
use Rattle.std.specs.Prelude.{max}
use Rattle.rv_account.specs.rules.StepLimits.{StepLimits}
use Rattle.rv_account.specs.rules.Steps.{NextAtUnder, NextUnder, Ticks, capped_moment, step_moment}
use Rattle.rv_account.specs.state.Moves.{StateNextUnder, state_moment}
pub use Rattle.rv_account.proofs.OfState.Leading.{IsMoveTo}
use Rattle.rv_account.proofs.OfState.StepsBoth.{next_at_from, next_at_to}
use Rattle.rv_account.proofs.OfState.TicksBoth.{TicksTo, ticks_from, ticks_to}

-- ---- the step's moment

same_moment : (a : Account) (s : State) (now : ℕ) → IsStateOf a s → step_moment a now ≡ state_moment s now
same_moment a s now state = ap (λ n. max n (capped_moment now)) (sym state.moment)

not_before : (s : State) (now : ℕ) → s.moment ≤ state_moment s now
not_before s now = omega arith

-- ---- both parts of a step

-- the move of the message after the time-outs
joined : (a t b : Account) (moment : ℕ) (made : Ticked) (said : Answer) (then move : Move)
    → TicksTo a moment made t → IsMoveTo t b said then → move.entries ≡ made.entries ++ then.entries
    → move.answer ≡ then.answer → move.after ≡ then.after → IsMoveTo a b said move
joined a t b moment made said then move ticks is entries answer after = record {
  epoch = is.epoch ∙ ticks.epoch;
  opened = is.opened ∙ ticks.opened;
  entries = is.entries ∙ ap (λ (es : List Entry). es ++ then.entries) ticks.entries
      ∙ append_assoc a.entries made.entries then.entries
      ∙ ap (λ (es : List Entry). a.entries ++ es) (sym entries);
  answer = is.answer ∙ sym answer;
  legal = is.legal;
  state = subst (IsStateOf b) (sym after) is.state;
}

-- ---- from the account to its state

pub record MovesTo (limits : StepLimits) (a : Account) (s : State) (now : ℕ) (m : Message) (b : Account)
    (answer : Answer) : Type 0 where
  pub move : Move
  pub steps : StateNextUnder limits s now m move
  pub is : IsMoveTo a b answer move

pub next_to_move : (limits : StepLimits) (a b : Account) (s : State) (now : ℕ) (m : Message)
    (answer : Answer) → Legal a → IsStateOf a s → NextUnder limits a now m b answer
    → MovesTo limits a s now m b answer
next_to_move limits a b s now m answer legal state next =
    let moment : ℕ = state_moment s now in
    let same : step_moment a now ≡ moment = same_moment a s now state in
    let made : Ticked = ticked_at s moment in
    let t : Account = next.ticked in
    let ticks = ticks_to a t s moment legal state (not_before s now)
    (subst (λ n. Ticks a n t) same next.ticks) in
    let done = next_at_to limits t made.after moment ticks.legal ticks.state b answer m
    (subst (λ n. NextAtUnder limits t n m b answer) same next.steps) in
    let then : Move = done.what in
    let move : Move = record {
      entries = made.entries ++ then.entries;
      answer = then.answer;
      settles = made.settles ++ then.settles;
      after = then.after;
    } in
    record {
      move = move;
      steps = record {
        then = then;
        steps = done.how;
        entries = refl;
        answer = refl;
        settles = refl;
        after = refl;
      };
      is = joined a t b moment made answer then move ticks done.wanted refl refl refl;
    }

-- ---- from the state to its account

pub record NextBy (limits : StepLimits) (a : Account) (now : ℕ) (m : Message) (move : Move) : Type 0 where
  pub after : Account
  pub answer : Answer
  pub next : NextUnder limits a now m after answer
  pub is : IsMoveTo a after answer move

pub move_to_next : (limits : StepLimits) (a : Account) (s : State) (now : ℕ) (m : Message) (move : Move)
    → Legal a → IsStateOf a s → StateNextUnder limits s now m move → NextBy limits a now m move
move_to_next limits a s now m move legal state next =
    let moment : ℕ = state_moment s now in
    let same : moment ≡ step_moment a now = sym (same_moment a s now state) in
    let made : Ticked = ticked_at s moment in
    let found = ticks_from a s moment legal state (not_before s now) in
    let t : Account = found.0 in
    let ticks = ticks_to a t s moment legal state (not_before s now) found.1 in
    let done = next_at_from limits t made.after moment ticks.legal ticks.state ticks.not_before ticks.none
    next.then
    m next.steps in
    let b : Account = done.what.0 in
    let said : Answer = done.what.1 in
    record {
      after = b;
      answer = said;
      next = record {
        ticked = t;
        ticks = subst (λ n. Ticks a n t) same found.1;
        steps = subst (λ n. NextAtUnder limits t n m b said) same done.how;
      };
      is = joined a t b moment made said next.then move ticks done.wanted next.entries next.answer next.after;
    }
