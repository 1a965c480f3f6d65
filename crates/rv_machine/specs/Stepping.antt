-- What the two halves of a step make of a machine.
use Rattle.std.specs.Prelude.{◌≡◌, ◌≢◌, ◌+◌, ◌≤◌, ℕ, None, length, option_to_list}
use Rattle.rv_text.specs.declared.message.Message.{Message}
use Rattle.rv_text.specs.declared.message.Message.TheVariants.{Hello, Request, Cancel}
use Rattle.rv_text.specs.declared.answer.Refusal.TheVariants.{NoMemory}
use Rattle.rv_account.specs.rules.StepLimits.{StepLimits}
use Rattle.rv_account.specs.state.Moves.{Move, StateNextAtUnder, ticked_at}
use Rattle.rv_account.specs.state.State.{waiting_count}
use Rattle.rv_machine.specs.declared.tables.Holdings.{Holdings}
use Rattle.rv_machine.specs.declared.machine.Said.TheVariants.{Refused}
use Rattle.rv_machine.specs.declared.steps.Heard.{Heard}
use Rattle.rv_machine.specs.declared.steps.TickMade.{TickMade}
use Rattle.rv_machine.specs.Machines.{Says, keys_settled, state_in}

-- the tick of a step, whose moment it gives: it made this entry, exactly these keys are listed as settled,
-- and the entry takes the place of a wait that ended
pub record IsTick (old new : Holdings) (made : TickMade) : Type 0 where
  pub makes : option_to_list made.entry ≡ (ticked_at (state_in old) made.moment).entries
  pub settles : new.settled.items ≡ keys_settled (ticked_at (state_in old) made.moment).settles
  pub after : state_in new ≡ (ticked_at (state_in old) made.moment).after
  pub room : length (option_to_list made.entry) + waiting_count (state_in new) ≤ waiting_count (state_in old)

-- the message is no request
abbrev pub IsNoRequest : Message → Type 0
IsNoRequest (Hello client incarnation version) = Unit {0}
IsNoRequest (Request key call) = ⊥
IsNoRequest (Cancel key) = Unit {0}

-- a message made no entry, and not for want of memory: it is a repeat, or is refused
pub record MadeNothing (made : Heard) : Type 0 where
  pub none : made.entry ≡ None
  pub in_memory : made.said ≢ Refused NoMemory

-- one move of the state for a message at a moment, under limits: it made this entry, this is said, and
-- exactly these keys are listed as settled
pub record IsHearing (limits : StepLimits) (old new : Holdings) (moment : ℕ) (m : Message) (made :
    Heard) :
    Type 0
  where
    pub move : Move
    pub moves : StateNextAtUnder limits (state_in old) moment m move
    pub makes : option_to_list made.entry ≡ move.entries
    pub says : Says (state_in new) made.said move.answer
    pub settles : new.settled.items ≡ keys_settled move.settles
    pub after : state_in new ≡ move.after
