-- For private clauses: what is noted when an entry passes, key by key.
use Rattle.std.specs.Prelude.{◌≡◌, ◌⊎◌, ℕ, List, Option, Some, option_map, slice_get}
use Rattle.rv_text.specs.declared.message.Key.{Key}
use Rattle.rv_text.specs.declared.answer.Reply.{Reply}
use Rattle.rv_account.specs.declared.entry.Act.{Act}
use Rattle.rv_account.specs.declared.entry.Act.TheVariants.{Arrive, Cancel, Hello, Tick}
use Rattle.rv_account.specs.state.State.{State}
use Rattle.rv_replies.specs.Ending.{buried, ended_by, own_fate, told_last_by}
use Rattle.rv_replies.specs.Known.{fate_in}
use Rattle.rv_replies.specs.declared.findings.fate.Fate.{Fate}
use Rattle.rv_replies.specs.declared.fates.Fates.{Fates}

-- what is known of this key changes so, and nothing else does
pub record Changes (old new : Fates) (key : Key) (change : Fate → Fate) : Type 0 where
  pub own : fate_in new key ≡ option_map change (fate_in old key)
  pub others : (other : Key) → (other ≡ key → ⊥) → fate_in new other ≡ fate_in old other

-- what is known of the key stays
abbrev pub StaysKnown : Fates → Fates → Key → Type 0
StaysKnown old new key = fate_in new key ≡ fate_in old key

-- what is known of the key changes so
abbrev pub Turns : Fates → Fates → Key → (Fate → Fate) → Type 0
Turns old new key change = fate_in new key ≡ option_map change (fate_in old key)

-- the requests of these keys get these replies, if they waited
pub record EndsEach (old new : Fates) (keys : List Key) (told : Key → Option Reply) : Type 0 where
  pub either : (key : Key) → StaysKnown old new key ⊎ Turns old new key (ended_by (told key))
  pub done : (i : ℕ) (key : Key) → slice_get keys i ≡ Some key → Turns old new key (ended_by (told key))
  pub rest : (key : Key) → ((i : ℕ) → slice_get keys i ≡ Some key → ⊥) → StaysKnown old new key

-- the own key of an act is noted
abbrev pub NotesOwn : Fates → Fates → State → Act → Type 0
NotesOwn old new s (Hello client incarnation version) = (key : Key) → StaysKnown old new key
NotesOwn old new s (Arrive key call) = Changes old new key (λ fate. own_fate call (told_last_by s key))
NotesOwn old new s (Cancel key) = Changes old new key buried
NotesOwn old new s Tick = (key : Key) → StaysKnown old new key
