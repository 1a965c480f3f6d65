-- Which messages need room for an entry, and for how many.
use Rattle.std.specs.Prelude.{◌≡◌, ◌+◌, ◌≤◌, [], ℕ, length}
use Rattle.rv_text.specs.declared.message.Message.{Message}
use Rattle.rv_text.specs.declared.message.Message.TheVariants.{Hello, Request, Cancel}
use Rattle.rv_text.specs.declared.answer.Answer.TheVariants.{Refused}
use Rattle.rv_text.specs.declared.answer.Refusal.TheVariants.{NoMemory}
use Rattle.rv_account.specs.declared.entry.Act.{Act}
use Rattle.rv_account.specs.declared.entry.Act.TheVariants as act
use Rattle.rv_account.specs.Calls.{need_of}
use Rattle.rv_account.specs.rules.StepLimits.{StepLimits}
use Rattle.rv_account.specs.state.State.{State, waiting_count}
use Rattle.rv_account.specs.state.Moves.{Move, StateNextAtUnder, staying}
use Rattle.rv_machine.specs.Limiting.{LacksPlaceFor}

-- how many entries a message may come to need: its own, and one that ends its wait
abbrev pub message_need : Message → ℕ
message_need (Hello client incarnation version) = 1
message_need (Request key call) = need_of call
message_need (Cancel key) = 1

-- the act of a message that enters
abbrev pub act_of : Message → Act
act_of (Hello client incarnation version) = act.Hello client incarnation version
act_of (Request key call) = act.Arrive key call
act_of (Cancel key) = act.Cancel key

-- the message is a hello
abbrev pub IsHello : Message → Type 0
IsHello (Hello client incarnation version) = Unit {0}
IsHello (Request key call) = ⊥
IsHello (Cancel key) = ⊥

-- whenever it is heard, the message may be refused for want of memory
abbrev pub MayLackMemory : StepLimits → State → Message → Type 0
MayLackMemory limits s m = (moment : ℕ) → StateNextAtUnder limits s moment m (staying s (Refused NoMemory))

-- so may it where the limits leave space for what it needs
abbrev pub EntersWithSpace : StepLimits → State → Message → Type 0
EntersWithSpace limits s m =
    s.length + waiting_count s + message_need m ≤ limits.entries → ¬ LacksPlaceFor limits.open_places s m
    → MayLackMemory limits s m

-- a move for a message takes no room: its entry, if it makes one, takes the place of a wait that ends, and a
-- hello makes none
pub record TakesNoRoom (s : State) (m : Message) (move : Move) : Type 0 where
  pub room : length move.entries + waiting_count move.after ≤ waiting_count s
  pub hello : IsHello m → move.entries ≡ []

-- no move for the message takes room, whenever it is heard
abbrev pub NeedsNoRoom : StepLimits → State → Message → Type 0
NeedsNoRoom limits s m = (moment : ℕ) (move : Move) → StateNextAtUnder limits s moment m move
    → TakesNoRoom s m move
