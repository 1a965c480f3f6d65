-- Torn ends: findings on the bytes of an account that a server may still have been writing.
use Rattle.std.specs.Prelude.{◌≡◌, ◌≢◌, ◌⊎◌, ◌∷◌, ◌++◌, [], true, false, Bool, ℕ, List}
use Rattle.std.specs.List.{All}
use Rattle.rv_account.specs.declared.entry.Entry.{Entry}
use Rattle.rv_book.specs.lines.Lines.{lines}
use Rattle.rv_verify.specs.Verdicts.{IsVerdictOn, ReadsLongEntry}
use Rattle.rv_replies.specs.declared.findings.verdict.AccountFinding.{AccountFinding}

-- no bytes, or bytes that end in LF (10)
abbrev pub AreWholeLines : List ℕ → Type 0
AreWholeLines bytes = (bytes ≡ []) ⊎ ((front : List ℕ) × (bytes ≡ front ++ 10 ∷ []))

-- the bytes are whole lines and this last piece, which has no LF
pub record EndsWithPiece (bytes whole piece : List ℕ) : Type 0 where
  pub parts : bytes ≡ whole ++ piece
  pub are_whole : AreWholeLines whole
  pub no_lf : All (λ byte. byte ≢ 10) piece

-- after these lines a last piece, which lacks its LF, is torn: it would be the first line, or is read as no
-- entry
pub record IsTornBehind (before : List (List ℕ)) (piece : List ℕ) : Type 0 where
  pub some : piece ≢ []
  pub torn : (before ≡ []) ⊎ ((e : Entry) → ¬ ReadsLongEntry piece e)

-- the bytes end in a torn piece, and this holds of all lines before it
pub record IsTornWith (bytes : List ℕ) (Holds : List (List ℕ) → Type 0) : Type 0 where
  pub whole : List ℕ
  pub piece : List ℕ
  pub ends : EndsWithPiece bytes whole piece
  pub torn : IsTornBehind (lines whole) piece
  pub holds : Holds (lines whole)

-- they don't, and this holds of all lines
pub record IsWholeWith (bytes : List ℕ) (Holds : List (List ℕ) → Type 0) : Type 0 where
  pub whole : List ℕ
  pub piece : List ℕ
  pub ends : EndsWithPiece bytes whole piece
  pub untorn : ¬ IsTornBehind (lines whole) piece
  pub holds : Holds (lines bytes)

-- the flag says whether the end of the bytes is torn, and this holds of the lines that count
abbrev pub HoldsOfLines : Bool → List ℕ → (List (List ℕ) → Type 0) → Type 0
HoldsOfLines true bytes Holds = IsTornWith bytes Holds
HoldsOfLines false bytes Holds = IsWholeWith bytes Holds

-- the finding is true of the bytes of an account
abbrev pub IsToldOfBytes : List ℕ → AccountFinding → Type 0
IsToldOfBytes bytes told = HoldsOfLines told.torn bytes (λ ls. IsVerdictOn ls told.verdict)
