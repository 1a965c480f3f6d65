-- How each call changes a connection.
use Rattle.std.specs.Prelude.{ℕ, ◌≡◌, ◌<◌, ◌≤◌, ◌⊎◌, false, true, List, [], ◌∷◌, ◌++◌, length, take, drop}
use Rattle.std.specs.List.{All}
use Rattle.rv_frame.specs.Cut.{frame_bytes}
use Rattle.rv_server_connections.specs.declared.connection.AnswerTo.{AnswerTo}
use Rattle.rv_server_connections.specs.declared.connection.AnswerTo.TheVariants as to
use Rattle.rv_server_connections.specs.connection.Traffic.{AnswerByte, IsBad, IsDue, IsOneAtMost}
use Rattle.rv_server_connections.specs.connection.Traffic.{IsWholeFrame}
use Rattle.rv_server_connections.specs.connection.Traffic.{Traffic, bytes_of, resting}

-- nothing came, and nothing is owed
abbrev pub fresh_traffic : Traffic
fresh_traffic = record { unread = []; owes = false; ready = []; behind = []; ended = false }

-- so many bytes of a piece are taken: all, or as many as end a frame or a bad length
pub record TakesIn (old : Traffic) (piece : List ℕ) (count : ℕ) (new : Traffic) : Type 0 where
  pub within : count ≤ length piece
  pub unread : new ≡ record old { unread = old.unread ++ take count piece }
  pub one : IsOneAtMost new.unread
  pub stops : count < length piece → IsWholeFrame new.unread ⊎ IsBad new.unread

-- the first byte that may not leave rests on more entries than are written
abbrev pub HoldsBack : ℕ → List AnswerByte → Type 0
HoldsBack written [] = Unit {0}
HoldsBack written (b ∷ behind) = written < b.rests_on

-- of bytes in order, those before the first that rests on more entries than are written leave
pub record Frees (written : ℕ) (held front rest : List AnswerByte) : Type 0 where
  pub parts : held ≡ front ++ rest
  pub free : All (λ b. b.rests_on ≤ written) front
  pub held_back : HoldsBack written rest

-- so many entries are written, and what may leave by that is ready
pub record Releases (written : ℕ) (old new : Traffic) : Type 0 where
  pub front : List AnswerByte
  pub frees : Frees written old.behind front new.behind
  pub goes : new ≡ record old { ready = old.ready ++ bytes_of front; behind = new.behind }

-- the owed answer is this body's frame, which rests on so many entries; it comes after all that is held
pub record AnswersBy (written : ℕ) (old : Traffic) (entries : ℕ) (body : List ℕ) (new : Traffic) :
    Type 0 where
  pub front : List AnswerByte
  pub frees : Frees written (old.behind ++ resting entries (frame_bytes body)) front new.behind
  pub goes : new ≡ record old { owes = false; ready = old.ready ++ bytes_of front; behind = new.behind }

-- the unread frame is taken, and its answer is owed
abbrev pub taken : Traffic → Traffic
taken old = record old { unread = []; owes = true }

-- the answer may be given: to the unread frame if that is due, and to the one taken before if it is owed
abbrev pub CanAnswer : AnswerTo → Traffic → Type 0
CanAnswer to.Unread t = IsDue t
CanAnswer to.Taken t = t.owes ≡ true

-- the connection while that answer is owed: an unread frame is taken first
abbrev pub owing : AnswerTo → Traffic → Traffic
owing to.Unread t = taken t
owing to.Taken t = t

-- so many of the bytes that may leave have left
abbrev pub left_by : Traffic → ℕ → Traffic
left_by old count = record old { ready = drop count old.ready }

-- the input has ended
abbrev pub input_ended : Traffic → Traffic
input_ended old = record old { ended = true }
