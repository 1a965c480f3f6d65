-- How the lines of an input are read one by one: for private clauses and proofs.
use Rattle.std.specs.Prelude.{◌≡◌, ◌≢◌, ◌≤◌, ◌+◌, ◌∷◌, ◌++◌, [], ℕ, List, Option, None, Some}
use Rattle.std.specs.Prelude.{length}
use Rattle.std.specs.List.{All}
use Rattle.rv_account.specs.declared.entry.Entry.{Entry}
use Rattle.rv_account.specs.Account.{Account, with_entry}
use Rattle.rv_replies.specs.Known.{HasPassedBy}
use Rattle.rv_replies.specs.Standing.{HasNoted}
use Rattle.rv_replies.specs.declared.records.Records.{Records}
use Rattle.rv_machine.specs.declared.machine.Machine.{Machine}
use Rattle.rv_verify.specs.follow.Outcomes.{HasBroken, HasFollowed, PassesRoom}
use Rattle.rv_verify.specs.follow.state_rules.Ruling.{IsFirstBroken, NamesClosed}
use Rattle.rv_verify.specs.Verdicts.{FirstBadLong, ReadsLongEntry}
use Rattle.rv_verify.specs.declared.parts.NextPart.{NextPart}
use Rattle.rv_verify.specs.declared.parts.NextPart.TheVariants as next
use Rattle.rv_verify.specs.declared.verifier.StopReason.{StopReason}
use Rattle.rv_verify.specs.declared.verifier.StopReason.TheVariants as stop
use Rattle.rv_verify.specs.declared.verifier.Verifier.{Verifier}

-- a last piece, which lacks LF (10)
pub record IsPiece (piece : List ℕ) : Type 0 where
  pub some : piece ≢ []
  pub no_lf : All (λ byte. byte ≢ 10) piece

-- the bytes are this line, which has no LF, LF (10), and the rest; or they are a last piece; or none
abbrev pub IsNext : List ℕ → List ℕ → List ℕ → NextPart → Type 0
IsNext bytes rest line next.Line = (bytes ≡ line ++ 10 ∷ rest) × All (λ byte. byte ≢ 10) line
IsNext bytes rest line next.Piece = (bytes ≡ line) × IsPiece line × (rest ≡ [])
IsNext bytes rest line next.End = (bytes ≡ []) × (line ≡ []) × (rest ≡ [])

-- so much is left, and the bytes were this part and what is left
pub record HasNextPart (bytes : List ℕ) (left : Option (List ℕ)) (line : List ℕ) (next : NextPart) :
    Type 0 where
  pub rest : List ℕ
  pub is_left : left ≡ Some rest
  pub is_next : IsNext bytes rest line next

-- the machine followed the entry, or it didn't for this reason, and nothing changed
abbrev pub IsStopped : Machine → Machine → Entry → Option StopReason → Type 0
IsStopped old new e None = HasFollowed old new e
IsStopped old new e (Some (stop.Breaks rule)) = HasBroken old new e (λ s x. IsFirstBroken s x rule)
IsStopped old new e (Some (stop.NotOpen entry)) = HasBroken old new e NamesClosed × (entry ≡ e)
IsStopped old new e (Some stop.BeyondLimits) = HasBroken old new e PassesRoom

-- once the verifier has stopped, nothing is followed; otherwise the entry is
abbrev pub FollowsUnlessStopped : Option StopReason → Verifier → Verifier → Entry → Type 0
FollowsUnlessStopped None old new e = IsStopped old.machine new.machine e new.stop
FollowsUnlessStopped (Some reason) old new e = (new.machine ≡ old.machine) × (new.stop ≡ Some reason)

-- the verifier read the line as one more entry
pub record ReadsOneMore (old new : Verifier) (line : List ℕ) : Type 0 where
  pub entry : Entry
  pub read : ReadsLongEntry line entry
  pub counted : new.entries ≡ old.entries + 1
  pub went : FollowsUnlessStopped old.stop old new entry

-- the record has noted the entry after which the machine stands, and nothing of one that stopped it
abbrev pub NotesUnlessStopped : Machine → Records → Records → Entry → Option StopReason → Type 0
NotesUnlessStopped m old new e None = (a : Account) → HasPassedBy m a e → HasNoted old a
    → HasNoted new (with_entry a e)
NotesUnlessStopped m old new e (Some reason) = new ≡ old

-- the verifier read the line as one more entry, and the record has noted it, if it passed
pub record NotesOneMore (old new : Verifier) (before after : Records) (line : List ℕ) : Type 0 where
  pub reads : ReadsOneMore old new line
  pub notes : NotesUnlessStopped new.machine before after reads.entry new.stop

-- the line of this number is the first bad one of these, and stands among them
pub record IsBadAt (lines : List (List ℕ)) (n : ℕ) : Type 0 where
  pub among : n ≤ length lines
  pub bad : FirstBadLong lines n
