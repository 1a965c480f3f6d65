-- What the effects of a run were to one connection, since it was opened.
use Rattle.std.specs.Prelude.{ℕ, ◌≡◌, ◌+◌, List, [], ◌∷◌, ◌++◌, Some, cond, false, length, nat_eq}
use Rattle.std.specs.Prelude.{Bool}
use Rattle.rv_text.specs.declared.answer.Answer.{Answer}
use Rattle.rv_text.specs.declared.answer.Answer.TheVariants as answer
use Rattle.rv_text.specs.declared.answer.Refusal.TheVariants.{BadText, NoMemory}
use Rattle.rv_text.specs.Bodies.{answer_text}
use Rattle.rv_server_connections.specs.connection.Traffic.{Traffic}
use Rattle.rv_server_connections.specs.connection.History.{Given, History, IsHistory}
use Rattle.rv_hub.specs.dispatcher.View.{DispatcherState, DispatcherTerms}
use Rattle.rv_hub.specs.dispatcher.Effects.{Effect, DoesAll, entries_of_effect, rests_on}
use Rattle.rv_hub.specs.dispatcher.Effects.{Asked, Closed, Elapsed, EndedInput, Lacked, Left, Lost, Opened}
use Rattle.rv_hub.specs.dispatcher.Effects.{ReadNothing, Told, TookIn, Wrote}

pub record Past : Type 0 where
  -- all bytes that were taken of its input
  pub came : List ℕ
  -- the bodies of the frames taken from these, and the answers to them, with what they rest on
  pub frames : List (List ℕ)
  pub answers : List Given
  -- how many bytes left
  pub sent : ℕ

abbrev pub no_past : Past
no_past = record { came = []; frames = []; answers = []; sent = 0 }

-- one frame more was taken
abbrev pub with_frame : Past → List ℕ → Past
with_frame past body = record past { frames = past.frames ++ body ∷ [] }

-- one answer more was given, which rests on so many entries
abbrev pub with_answer : Past → ℕ → Answer → Past
with_answer past entries said = record past {
  answers = past.answers ++ (record { body = answer_text said; rests_on = entries }) ∷ [];
}

-- the answer to a step, unless its request waits; after it the account has so many entries
abbrev pub with_said : Past → ℕ → Answer → Past
with_said past entries (answer.Waiting key) = past
with_said past entries (answer.Replied key reply) = with_answer past entries (answer.Replied key reply)
with_said past entries (answer.Welcome epoch client incarnation version) =
    with_answer past entries (answer.Welcome epoch client incarnation version)
with_said past entries (answer.Refused refusal) =
    with_answer past (rests_on (answer.Refused refusal) entries) (answer.Refused refusal)

-- whether an effect is one of the connection's own
abbrev pub is_effect_of : ℕ → Effect → Bool
is_effect_of n (Elapsed moment entries settled) = false
is_effect_of n (Opened connection) = nat_eq n connection
is_effect_of n (TookIn connection bytes) = nat_eq n connection
is_effect_of n (EndedInput connection) = nat_eq n connection
is_effect_of n (Left connection count) = nat_eq n connection
is_effect_of n (Wrote entries) = false
is_effect_of n (Asked connection body step said) = nat_eq n connection
is_effect_of n (ReadNothing connection body) = nat_eq n connection
is_effect_of n (Lacked connection body step) = nat_eq n connection
is_effect_of n (Lost connection body step) = nat_eq n connection
is_effect_of n (Told connection key said) = nat_eq n connection
is_effect_of n (Closed connection) = nat_eq n connection

-- what such an effect adds; after it the account has so many entries
abbrev pub past_by : Past → ℕ → Effect → Past
past_by past entries (Elapsed moment made settled) = past
past_by past entries (Opened connection) = no_past
past_by past entries (TookIn connection bytes) = record past { came = past.came ++ bytes }
past_by past entries (EndedInput connection) = past
past_by past entries (Left connection count) = record past { sent = past.sent + count }
past_by past entries (Wrote count) = past
past_by past entries (Asked connection body step said) = with_said (with_frame past body) entries said
past_by past entries (ReadNothing connection body) = with_answer (with_frame past body) 0
    (answer.Refused BadText)
past_by past entries (Lacked connection body step) = with_answer (with_frame past body) 0
    (answer.Refused NoMemory)
past_by past entries (Lost connection body step) = past
past_by past entries (Told connection key said) = with_answer past entries said
past_by past entries (Closed connection) = past

-- what all effects add, beginning with an account of so many entries
abbrev pub past_after : ℕ → Past → ℕ → List Effect → Past
past_after n past entries [] = past
past_after n past entries (effect ∷ effects) =
    past_after n
    (cond (is_effect_of n effect) (past_by past (entries + length (entries_of_effect effect)) effect) past)
    (entries + length (entries_of_effect effect)) effects

-- the history in a past, if these bytes left
abbrev pub history_of : Past → List ℕ → History
history_of past left = record { came = past.came; frames = past.frames; answers = past.answers; left = left }

-- the connection's bytes are those of this past: the bytes taken of its input are the frames and the unread
-- ones; the frames have these answers, one each, in order; what left, and then what may leave, are exactly
-- the frames of the answers before the first that rests on more entries than are written
pub record IsPast (written : ℕ) (past : Past) (wire : Traffic) : Type 0 where
  pub left : List ℕ
  pub sent : length left ≡ past.sent
  pub history : IsHistory written (history_of past left) wire

-- the connection has this past, if it is open
abbrev pub HasPast : DispatcherState → ℕ → Past → Type 0
HasPast s n past = (wire : Traffic) → s.open_wires.wires n ≡ Some wire → IsPast s.open_wires.written past wire

-- effects lead each connection's past on to one that it has after them
abbrev pub EffectsKeepPasts : Type 0
EffectsKeepPasts = (terms : DispatcherTerms) (effects : List Effect) (s t : DispatcherState)
    → DoesAll terms s effects t
    → (n : ℕ) (past : Past) → HasPast s n past → HasPast t n (past_after n past s.book.length effects)
