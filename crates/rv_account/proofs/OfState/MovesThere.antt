-- Whatever the state, there is a move for each moment and message.
use Rattle.rv_account.proofs.OfState.Words.{◌≡◌, ◌++◌, ◌⊎◌, ℕ, Option, Some, None, inl, inr, refl, Key}
use Rattle.rv_account.proofs.OfState.Words.{Version}
use Rattle.rv_account.proofs.OfState.Words.{Message, Answer, Refusal, Reply, Call, Act, State, following}
use Rattle.rv_account.proofs.OfState.Words.{Move, Ticked}
use Rattle.rv_account.proofs.OfState.Words.{entering, staying, ticked_at, Replied, Cancelled}
use Rattle.std.specs.Prelude.{◌≢◌}
use Rattle.rv_text.specs.declared.message.Message.TheVariants.{Hello, Request, Cancel}
use Rattle.rv_text.specs.declared.answer.Answer.TheVariants.{Welcome, Refused}
use Rattle.rv_text.specs.declared.answer.Refusal.TheVariants.{NoMemory}
use Rattle.rv_account.specs.Calls.{need_of}
use Rattle.rv_account.specs.declared.entry.Act.TheVariants as act
use Rattle.rv_account.specs.rules.StepLimits.{StepLimits}
use Rattle.rv_account.specs.rules.Steps.{RefuseOr, WhereElse}
use Rattle.rv_account.specs.state.Moves.{EntersMove, NumberIsLast, RefusesMove, RepeatsMove, StateKeyLines}
use Rattle.rv_account.specs.state.Moves.{StateNextAtUnder, StatePlaceLine, answer_after, answer_told}
use Rattle.rv_account.specs.state.Moves.{state_moment}
use Rattle.rv_account.specs.state.Moves.{told_again}
use Rattle.rv_account.specs.state.Laws.{HasMoveUnder}
use Rattle.rv_account.proofs.OfState.DueDecided.{DueOrNot, call_decided, last_decided, waits_decided}
use Rattle.rv_account.proofs.OfState.DueDecided.{above_decided, busy_decided, clients_decided, epoch_decided}
use Rattle.rv_account.proofs.OfState.DueDecided.{incarnation_decided, lack_decided, number_decided}
use Rattle.rv_account.proofs.OfState.DueDecided.{places_decided}
use Rattle.rv_account.proofs.OfState.DueDecided.{room_decided, session_decided, version_decided}

-- a move is so, and its answer is no want of memory
record Chosen (Is : Move → Type 0) : Type 0 where
  move : Move
  is : Is move
  in_memory : move.answer ≢ Refused NoMemory

-- ---- answers

same_refusal : (p q : Refusal) → Refused p ≡ Refused q → p ≡ q
same_refusal p q e = cc

told_in_memory : (key : Key) (told : Option Reply) → answer_told key told ≢ Refused NoMemory
told_in_memory key None e = cc
told_in_memory key (Some reply) e = cc

replied_in_memory : (key : Key) (reply : Reply) → Replied key reply ≢ Refused NoMemory
replied_in_memory key reply e = cc

welcome_in_memory : (epoch client incarnation : ℕ) (version : Version)
    → Welcome epoch client incarnation version ≢ Refused NoMemory
welcome_in_memory epoch client incarnation version e = cc

-- ---- lines

where_else : (C : Type 0) (This That : Move → Type 0) → C ⊎ (C → ⊥) → (C → Chosen This) → Chosen That
    → Chosen (λ move. WhereElse C (This move) (That move))
where_else C This That (inl holds) this that =
    let k = this holds in
    record { move = k.move; is = inl (holds, k.is); in_memory = k.in_memory }
where_else C This That (inr none) this that =
    record { move = that.move; is = inr (none, that.is); in_memory = that.in_memory }

module _ (s : State) where
  refuse_or : (due : Refusal → Type 0) (Is : Move → Type 0) → DueOrNot due → Chosen Is
      → Chosen (λ move. RefuseOr due (RefusesMove s move) (Is move))
  refuse_or due Is (inl is) goes_on = record {
    move = staying s (Refused is.refusal);
    is = inl (record { refusal = is.refusal; is_due = is.is_due; refuses_it = refl });
    in_memory = λ e. is.in_memory (same_refusal is.refusal NoMemory e);
  }
  refuse_or due Is (inr none) goes_on =
      record { move = goes_on.move; is = inr (none, goes_on.is); in_memory = goes_on.in_memory }

  stays : (said : Answer) → said ≢ Refused NoMemory → Chosen (λ move. move ≡ staying s said)
  stays said in_memory = record { move = staying s said; is = refl; in_memory = in_memory }

  enters : (moment : ℕ) (does : Act) (said : Answer) → said ≢ Refused NoMemory
      → Chosen (λ move. move ≡ entering s moment does said)
  enters moment does said in_memory =
      record { move = entering s moment does said; is = refl; in_memory = in_memory }

  may_enter : (moment : ℕ) (does : Act) (said : Answer) → said ≢ Refused NoMemory
      → Chosen (λ move. EntersMove s moment does move said)
  may_enter moment does said in_memory =
      let k = enters moment does said in_memory in
      record { move = k.move; is = inr k.is; in_memory = k.in_memory }

  repeats : (key : Key) → NumberIsLast s key → Chosen (λ move. RepeatsMove s key move)
  repeats key last = record {
    move = staying s (answer_told key (told_again last.session.request));
    is = record { session = last.session; there = last.there; is = refl };
    in_memory = told_in_memory key (told_again last.session.request);
  }

  key_lines : (key : Key) (Last Above : Move → Type 0) → (NumberIsLast s key → Chosen Last) → Chosen Above
      → Chosen (λ move. StateKeyLines s key (RefusesMove s move) (Last move) (Above move))
  key_lines key Last Above at_last above =
      refuse_or _ _ (epoch_decided s key)
      (refuse_or _ _ (lack_decided s key)
      (refuse_or _ _ (incarnation_decided s key.client key.incarnation)
      (refuse_or _ _ (number_decided s key)
      (where_else _ Last _ (last_decided s key) at_last
      (refuse_or _ _ (busy_decided s key)
      (refuse_or _ Above (above_decided s key) above))))))

  place_line : (bound : Option ℕ) (call : Call) (Enters : Move → Type 0) → Chosen Enters
      → Chosen (λ move. StatePlaceLine bound s call (RefusesMove s move) (Enters move))
  place_line None call Enters enters = enters
  place_line (Some most) call Enters enters = refuse_or _ Enters (places_decided s most call) enters

module _ (limits : StepLimits) (s : State) where
  -- ---- a move for each message

  next_at : (moment : ℕ) (m : Message) → Chosen (λ move. StateNextAtUnder limits s moment m move)
  next_at moment (Hello client incarnation version) =
      let welcome : Answer = Welcome s.epoch client incarnation version in
      let in_memory = welcome_in_memory s.epoch client incarnation version in
      let does : Act = act.Hello client incarnation version in
      refuse_or s _ _ (incarnation_decided s client incarnation)
      (refuse_or s _ _ (version_decided s client incarnation version)
      (where_else _ (λ move. move ≡ staying s welcome) _ (session_decided s client incarnation)
      (λ has. stays s welcome in_memory)
      (refuse_or s _ _ (clients_decided s limits client)
      (refuse_or s _ (λ move. EntersMove s moment does move welcome) (room_decided s limits 1)
      (may_enter s moment does welcome in_memory)))))
  next_at moment (Request key call) =
      let does : Act = act.Arrive key call in
      key_lines s key _ _
      (λ last. refuse_or s _ (λ move. RepeatsMove s key move) (call_decided s key call) (repeats s key last))
      (refuse_or s _ _ (room_decided s limits (need_of call))
      (place_line s limits.open_places call _
      (may_enter s moment does (answer_after s moment key does)
      (told_in_memory key (following s moment does).reply))))
  next_at moment (Cancel key) =
      let does : Act = act.Cancel key in
      key_lines s key _ _
      (λ last. where_else _ (λ move. move ≡ entering s moment does (Replied key Cancelled))
      (λ move. RepeatsMove s key move) (waits_decided s key)
      (λ waits. enters s moment does (Replied key Cancelled) (replied_in_memory key Cancelled))
      (repeats s key last))
      (refuse_or s _ (λ move. EntersMove s moment does move (answer_after s moment key does))
      (room_decided s limits 1)
      (may_enter s moment does (answer_after s moment key does)
      (told_in_memory key (following s moment does).reply)))

-- the time-outs of a step before its message's own
after_ticks : (limits : StepLimits) (s : State) (now : ℕ) (m : Message)
    → Chosen (StateNextAtUnder limits (ticked_at s (state_moment s now)).after (state_moment s now) m)
    → HasMoveUnder limits s now m
after_ticks limits s now m then =
    let made : Ticked = ticked_at s (state_moment s now) in
    record {
      move = record {
        entries = made.entries ++ then.move.entries;
        answer = then.move.answer;
        settles = made.settles ++ then.move.settles;
        after = then.move.after;
      };
      moves = record {
        then = then.move;
        steps = then.is;
        entries = refl;
        answer = refl;
        settles = refl;
        after = refl;
      };
      in_memory = then.in_memory;
    }

pub move_there : (limits : StepLimits) (s : State) (now : ℕ) (m : Message) → HasMoveUnder limits s now m
move_there limits s now m =
    let made : Ticked = ticked_at s (state_moment s now) in
    after_ticks limits s now m (next_at limits made.after (state_moment s now) m)
