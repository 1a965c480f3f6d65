-- How many entries the answer to a step rests on.
use Rattle.std.specs.Prelude.{ℕ}
use Rattle.rv_text.specs.declared.answer.Answer.{Answer}
use Rattle.rv_text.specs.declared.answer.Answer.TheVariants.{Refused}
use Rattle.rv_text.specs.declared.answer.Refusal.TheVariants.{NoMemory}

-- where there are so many after its step: all of them; a refusal for want of memory rests on none
abbrev pub rests_on : Answer → ℕ → ℕ
rests_on (Refused NoMemory) entries = 0
rests_on _ entries = entries
