-- What is got for one frame, by asking the desk for it once or more than once.
use Rattle.std.specs.Prelude.{ℕ, ◌≡◌, Bool, List, true}
use Rattle.std.specs.List.{All}
use Rattle.rv_text.specs.declared.answer.Answer.{Answer}
use Rattle.rv_server.specs.locked.Asking.{GetsStamps}
use Rattle.rv_server.specs.locked.Stamps.{Numbered}
use Rattle.rv_server.specs.locked.FrameStamps.{IsWaiting}
use Rattle.rv_server.specs.declared.locked.asking.FrameAnswer.{FrameAnswer}
use Rattle.rv_server.specs.declared.locked.asking.FrameAnswer.TheVariants.{Said}
use Rattle.rv_server.specs.declared.fault.WorkFault.{WorkFault}
use Rattle.rv_server.specs.declared.fault.WorkFault.TheVariants as fault

-- the answer says that the request waits
pub record Waits (told : FrameAnswer) : Type 0 where
  pub answer : Answer
  pub is : told ≡ Said answer
  pub waiting : IsWaiting answer

-- such stamps were got
pub record GetsSome (number : ℕ) (body : List ℕ) (share : ℕ) (old : List Numbered) (share' : ℕ)
    (new : List Numbered) : Type 0 where
  pub got : List Numbered
  pub gets : GetsStamps number body share old share' new got

-- all stamps that were got so far stand for an answer that waits
pub record OnlyWaited (number : ℕ) (body : List ℕ) (share : ℕ) (old : List Numbered) (share' : ℕ)
    (new : List Numbered) : Type 0 where
  pub got : List Numbered
  pub gets : GetsStamps number body share old share' new got
  pub waited : All (λ (stamp : Numbered). IsWaiting stamp.1.said) got

-- asking stopped: memory was refused; or the sink failed where a pause was to come, and all that was got
-- waits
abbrev pub StopsAsking : ℕ → List ℕ → ℕ → List Numbered → ℕ → List Numbered → Bool → WorkFault → Type 0
StopsAsking number body share old share' new failed fault.NoMemory = GetsSome number body share old share' new
StopsAsking number body share old share' new failed (fault.WriteFault sent) =
    (sent ≡ 0) × OnlyWaited number body share old share' new × (failed ≡ true)
StopsAsking number body share old share' new failed _ = ⊥
