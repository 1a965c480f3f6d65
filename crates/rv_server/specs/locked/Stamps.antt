-- What a stamp shows of the one message that a desk handled, and what stamps in a row show.
use Rattle.std.specs.Prelude.{◌≡◌, ◌-◌, ◌+◌, ◌≤◌, ◌∷◌, ◌++◌, ℕ, List, map}
use Rattle.std.specs.List.{sum_by}
use Rattle.rv_text.specs.declared.message.Message.{Message}
use Rattle.rv_text.specs.declared.answer.Answer.{Answer}

-- the message that was handled, the answer that the stamp stands for, and how many entries the desk had
-- before and after
pub record Stamped : Type 0 where
  pub asked : Message
  pub said : Answer
  pub before : ℕ
  pub length : ℕ

-- how many entries the message added
abbrev pub added_by : Stamped → ℕ
added_by stamp = stamp.length - stamp.before

-- a stamp beside the number of the frame for which it was got
abbrev pub Numbered : Type 0
Numbered = ℕ × Stamped

-- how many entries the messages added in all
abbrev pub added_entries : List Numbered → ℕ
added_entries = sum_by (λ (stamp : Numbered). added_by stamp.1)

-- at each stamp the desk had at least the entries that the seat's own messages had added by then: so many
-- before the first stamp, and those of the stamps up to this one
abbrev pub Covers : ℕ → List Numbered → Type 0
Covers own stamps = (front back : List Numbered) (stamp : Numbered) → stamps ≡ front ++ stamp ∷ back
    → own + added_entries front + added_by stamp.1 ≤ stamp.1.length

-- what the stamps show
abbrev pub shown_stamps : {S : Type 0} → (S → Stamped) → List (ℕ × S) → List Numbered
shown_stamps stamped stamps = map (λ stamp. (stamp.0, stamped stamp.1)) stamps
