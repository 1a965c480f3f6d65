-- A request for a server's status, and its answer, over HTTP.
use Rattle.std.specs.Prelude.{ℕ, ◌≡◌, ◌<◌, ◌==◌, ◌&&◌, ◌++◌, ◌∷◌, [], Bool, codes, drop, false, IfSome}
use Rattle.std.specs.Prelude.{length}
use Rattle.std.specs.Prelude.{List, None, Option, Result, Some, Ok, Err, if◌then◌else◌, true}
use Rattle.std.specs.List.{All, starts_with}
use Rattle.std.specs.declared.alloc.Global.{Global}
use Rattle.std.specs.declared.vec.Vec.{Vec}
use Rattle.rv_frame.specs.Sink.{SinkTakes, sink_failed}
use Rattle.rv_frame.specs.Source.{source_failed, source_remaining}
use Rattle.rv_frame.specs.declared.sink.Sink.{Sink}
use Rattle.rv_frame.specs.declared.source.Source.{Source}
use Rattle.rv_end.specs.Told.{IsKeyed, IsStatusText}
use Rattle.rv_end.specs.declared.fault.StatusFault.{StatusFault}
use Rattle.rv_end.specs.declared.fault.StatusFault.TheVariants.{NoMemory, NotUnderstood, ReadFault, TooLong}
use Rattle.rv_end.specs.declared.fault.StatusFault.TheVariants.{WriteFault}
use Rattle.rv_end.specs.declared.told.StatusTold.{StatusTold}

-- the end of a line: CR and LF
abbrev pub line_end : List ℕ
line_end = 13 ∷ 10 ∷ []

-- the request for the status of a server at this address
abbrev pub request_text : List ℕ → List ℕ
request_text host =
    codes "GET /status.json HTTP/1.1" ++ (line_end ++ (codes "Host: " ++ (host ++ (line_end
    ++ (codes "Connection: close" ++ (line_end ++ line_end))))))

-- the bytes begin with the end of a line and an empty line
abbrev pub begins_gap : List ℕ → Bool
begins_gap (first ∷ second ∷ third ∷ fourth ∷ rest) =
    (first == 13) && (second == 10) && (third == 13) && (fourth == 10)
begins_gap _ = false

-- what follows the first empty line
abbrev pub after_gap : List ℕ → Option (List ℕ)
after_gap [] = None
after_gap (byte ∷ bytes) = if begins_gap (byte ∷ bytes) then Some (drop 3 bytes) else after_gap bytes

-- the body of an answer whose first line says 200
abbrev pub body_in : List ℕ → Option (List ℕ)
body_in answer =
    if starts_with (λ a b. a == b) answer (codes "HTTP/1.1 200 ") then after_gap answer else None

-- the answer's body is a status that says this
pub record IsStatusAnswer (answer : List ℕ) (told : StatusTold) : Type 0 where
  pub body : List ℕ
  pub is_body : body_in answer ≡ Some body
  pub status : IsStatusText body told

-- the most bytes of an answer: 4 MiB
abbrev pub max_answer : ℕ
max_answer = 4194304

module _ {R : Type 0} (remaining : R → Option (List ℕ)) where
  -- the answer is all that the source had left, or why it isn't
  abbrev pub GathersAnswer : Source R → Source R → Result (Vec ℕ Global) StatusFault → Type 0
  GathersAnswer old new (Ok answer) =
      IfSome (source_remaining remaining old) (λ bytes. answer.items ≡ bytes)
  GathersAnswer old new (Err ReadFault) = source_failed new ≡ true
  GathersAnswer old new (Err TooLong) =
      IfSome (source_remaining remaining old) (λ bytes. max_answer < length bytes)
  GathersAnswer old new (Err NoMemory) = Unit {0}
  GathersAnswer old new (Err WriteFault) = ⊥
  GathersAnswer old new (Err NotUnderstood) = ⊥

module _ {R W : Type 0} (remaining : R → Option (List ℕ)) (contents : W → Option (List ℕ)) where
  -- the whole request for the status went out, and the bytes that came in answer have this property
  pub record HasAsked (host : List ℕ) (to to' : Sink W) (from : Source R) (Is : List ℕ → Type 0) : Type 0
    where
      pub sent : SinkTakes contents to to' (request_text host)
      pub came : IfSome (source_remaining remaining from) Is

  -- what came of a request, and of its answer
  abbrev pub AsksStatus : List ℕ → Source R → Source R → Sink W → Sink W → Result StatusTold StatusFault
      → Type 0
  AsksStatus host from from' to to' (Ok told) =
      HasAsked host to to' from (λ bytes. IsStatusAnswer bytes told) × All IsKeyed told.unheard.items
  AsksStatus host from from' to to' (Err NotUnderstood) =
      HasAsked host to to' from (λ bytes. (told : StatusTold) → ¬ IsStatusAnswer bytes told)
  AsksStatus host from from' to to' (Err TooLong) =
      HasAsked host to to' from (λ bytes. max_answer < length bytes)
  AsksStatus host from from' to to' (Err ReadFault) = source_failed from' ≡ true
  AsksStatus host from from' to to' (Err WriteFault) = (sink_failed to' ≡ true) × (from' ≡ from)
  AsksStatus host from from' to to' (Err NoMemory) = Unit {0}
