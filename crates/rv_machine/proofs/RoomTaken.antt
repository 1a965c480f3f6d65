-- How much room a move takes among the entries: a move of a message stays or enters, and one that enters
-- needs no more than is counted for its message.
use Rattle.std.proofs.Common.{◌≡◌, ◌⊎◌, ◌≤◌, ◌+◌, ◌∙◌, ℕ, length}
use Rattle.std.proofs.Common.{inl, inr}
use Rattle.std.proofs.Common.{sym, ap, subst, arith}
use Rattle.rv_text.specs.declared.message.Key.{Key}
use Rattle.rv_text.specs.declared.message.Message.{Message}
use Rattle.rv_text.specs.declared.message.Message.TheVariants.{Hello, Request, Cancel}
use Rattle.rv_text.specs.declared.answer.Answer.{Answer}
use Rattle.rv_text.specs.declared.answer.Answer.TheVariants.{Refused, Replied, Welcome}
use Rattle.rv_text.specs.declared.answer.Refusal.{Refusal}
use Rattle.rv_text.specs.declared.answer.Refusal.TheVariants.{NoMemory}
use Rattle.rv_text.specs.declared.answer.Reply.TheVariants.{Cancelled}
use Rattle.rv_account.specs.declared.entry.Act.TheVariants as act
use Rattle.rv_account.specs.rules.StepLimits.{StepLimits}
use Rattle.rv_account.specs.state.State.{State, waiting_count}
use Rattle.rv_account.specs.state.After.{acted, met_by}
use Rattle.rv_account.specs.state.Moves.{EntersMove, Move, RefusesMove, RepeatsMove, StateNextAtUnder}
use Rattle.rv_account.specs.state.Moves.{answer_after}
use Rattle.rv_account.specs.state.Moves.{answer_told, entering, staying, told_again}
use Rattle.rv_account.proofs.OfState.OpensBy.{opens_by}
use Rattle.rv_account.proofs.OfState.Resumed.Counts.{parks_within, waiting_within}
use Rattle.rv_machine.specs.Needing.{act_of, message_need}
use Rattle.rv_machine.specs.open_places.OpenMap.{count_waiting}
use Rattle.rv_machine.proofs.Deciding.{by_cancel, by_hello, by_request}

-- ---- which moves there are

-- the move makes no entry, or the message's own
abbrev pub StaysOrEnters : State → ℕ → Message → Move → Type 0
StaysOrEnters s moment m move =
    (move ≡ staying s move.answer) ⊎ (move ≡ entering s moment (act_of m) move.answer)

module _ (s : State) (moment : ℕ) (m : Message) (move : Move) where
  it_stays : (a : Answer) → move ≡ staying s a → StaysOrEnters s moment m move
  it_stays a is = inl (is ∙ ap (staying s) (sym (ap (λ (x : Move). x.answer) is)))

  it_enters : (a : Answer) → move ≡ entering s moment (act_of m) a → StaysOrEnters s moment m move
  it_enters a is = inr (is ∙ ap (entering s moment (act_of m)) (sym (ap (λ (x : Move). x.answer) is)))

  may_enter : (a : Answer) → EntersMove s moment (act_of m) move a → StaysOrEnters s moment m move
  may_enter a (inl lacks) = it_stays (Refused NoMemory) lacks
  may_enter a (inr enters) = it_enters a enters

  refused : (r : Refusal) → RefusesMove s move r → StaysOrEnters s moment m move
  refused r is = it_stays (Refused r) is

  repeated : (key : Key) → RepeatsMove s key move → StaysOrEnters s moment m move
  repeated key is = it_stays (answer_told key (told_again is.session.request)) is.is

-- a move makes no entry, or its message's own
pub move_kinds : (limits : StepLimits) (s : State) (moment : ℕ) (m : Message) (move : Move)
    → StateNextAtUnder limits s moment m move
    → StaysOrEnters s moment m move
move_kinds limits s moment (Hello client incarnation version) move moves =
    by_hello (StaysOrEnters s moment (Hello client incarnation version) move) limits s client incarnation
    version
    (RefusesMove s move) (RefusesMove s move) _ _ _ _ moves moves
    (refused s moment (Hello client incarnation version) move)
    (it_stays s moment (Hello client incarnation version) move (Welcome s.epoch client incarnation version))
    (λ _ enters _. may_enter s moment (Hello client incarnation version) move
    (Welcome s.epoch client incarnation version) enters)
move_kinds limits s moment (Request key call) move moves =
    by_request (StaysOrEnters s moment (Request key call) move) limits s key call
    (RefusesMove s move) (RefusesMove s move) _ _ _ _ moves moves
    (refused s moment (Request key call) move)
    (repeated s moment (Request key call) move key)
    (λ _ _ enters _. may_enter s moment (Request key call) move
    (answer_after s moment key (act.Arrive key call)) enters)
move_kinds limits s moment (Cancel key) move moves =
    by_cancel (StaysOrEnters s moment (Cancel key) move) limits s key
    (RefusesMove s move) (RefusesMove s move) _ _ _ _ _ moves moves
    (refused s moment (Cancel key) move)
    (λ _. it_enters s moment (Cancel key) move (Replied key Cancelled))
    (repeated s moment (Cancel key) move key)
    (λ _ enters _. may_enter s moment (Cancel key) move (answer_after s moment key (act.Cancel key)) enters)

-- ---- how many wait

opens_within : (s : State) (moment : ℕ) (m : Message)
    → count_waiting (opens_by s moment (act_of m)) + 1 ≤ message_need m
opens_within s moment (Hello client incarnation version) = omega arith
opens_within s moment (Request key call) = parks_within s moment key call (met_by s call)
opens_within s moment (Cancel key) = omega arith

acts_within : (s : State) (moment : ℕ) (m : Message)
    → 1 + waiting_count (acted s moment (act_of m)).after ≤ waiting_count s + message_need m
acts_within s moment m =
    omega (arith, opens_within s moment m, waiting_within s moment (act_of m))

-- ---- moves

-- the room that a move takes, as far as it can be told from entries and those that wait
abbrev pub TakesWithin : State → Message → Move → Type 0
TakesWithin s m move = length move.entries + waiting_count move.after ≤ waiting_count s + message_need m

within_by : (s : State) (moment : ℕ) (m : Message) (move : Move) → StaysOrEnters s moment m move
    → TakesWithin s m move
within_by s moment m move (inl stays) =
    let none : TakesWithin s m (staying s move.answer) = omega arith in
    subst (TakesWithin s m) (sym stays) none
within_by s moment m move (inr enters) =
    subst (TakesWithin s m) (sym enters) (acts_within s moment m)

-- a move takes no more room than is counted for its message
pub moves_within : (limits : StepLimits) (s : State) (moment : ℕ) (m : Message) (move : Move)
    → StateNextAtUnder limits s moment m move
    → length move.entries + waiting_count move.after ≤ waiting_count s + message_need m
moves_within limits s moment m move moves = within_by s moment m move (move_kinds limits s moment m move
    moves)
