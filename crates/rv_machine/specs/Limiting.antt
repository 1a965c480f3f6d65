-- When an arrival lacks a place under the limits of a step.
use Rattle.std.specs.Prelude.{ℕ, Option, Some, None}
use Rattle.rv_text.specs.declared.call.Call.{Call}
use Rattle.rv_text.specs.declared.message.Message.{Message}
use Rattle.rv_text.specs.declared.message.Message.TheVariants.{Hello, Request, Cancel}
use Rattle.rv_text.specs.declared.answer.Refusal.TheVariants.{EpochFull}
use Rattle.rv_account.specs.state.Moves.{NoPlaceMore}
use Rattle.rv_account.specs.state.State.{State}

-- under a bound on open places, an arrival with this call would stay although there is no place for it
abbrev pub LacksPlace : Option ℕ → State → Call → Type 0
LacksPlace None s call = ⊥
LacksPlace (Some most) s call = NoPlaceMore most s call EpochFull

-- so it would if the message arrived
abbrev pub LacksPlaceFor : Option ℕ → State → Message → Type 0
LacksPlaceFor bound s (Hello client incarnation version) = ⊥
LacksPlaceFor bound s (Request key call) = LacksPlace bound s call
LacksPlaceFor bound s (Cancel key) = ⊥
