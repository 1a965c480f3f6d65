-- What is told of a status, in other words.
use Rattle.std.proofs.Common.{◌≡◌, ◌∙◌, IfSome, List, Option, Result, Ok, Err, Some, ℕ, refl, subst, sym}
use Rattle.std.proofs.lemmas.Option.{same_Some}
use Rattle.rv_run.proofs.Printing.{read_bytes}
use Rattle.rv_frame.specs.Sink.{SinkTakes}
use Rattle.rv_frame.specs.Source.{source_remaining}
use Rattle.rv_frame.specs.declared.sink.Sink.{Sink}
use Rattle.rv_frame.specs.declared.source.Source.{Source}
use Rattle.rv_end.specs.Asking.{AsksStatus, IsStatusAnswer, body_in, request_text}
use Rattle.rv_end.specs.Told.{GivesStatus, IsStatusText}
use Rattle.rv_end.specs.declared.fault.StatusFault.{StatusFault}
use Rattle.rv_end.specs.declared.fault.StatusFault.TheVariants.{NoMemory, NotUnderstood, ReadFault, TooLong}
use Rattle.rv_end.specs.declared.fault.StatusFault.TheVariants.{WriteFault}
use Rattle.rv_end.specs.declared.told.StatusTold.{StatusTold}

-- a fault of a part is one of the whole
pub fault_told : (Is : StatusTold → Type 0) (fault : StatusFault)
    → (fault ≡ NotUnderstood → (told : StatusTold) → ¬ Is told)
    → (¬ (fault ≡ NotUnderstood) → fault ≡ NoMemory) → GivesStatus Is (Err fault)
fault_told Is NotUnderstood none sure = none refl
fault_told Is NoMemory none sure = tt
fault_told Is ReadFault none sure = let same = sure (λ other. cc other) in absurd (cc same)
fault_told Is WriteFault none sure = let same = sure (λ other. cc other) in absurd (cc same)
fault_told Is TooLong none sure = let same = sure (λ other. cc other) in absurd (cc same)

-- what a body tells its answer tells
pub told_by_body : (answer body : List ℕ) (r : Result StatusTold StatusFault) → body_in answer ≡ Some body
    → GivesStatus (IsStatusText body) r → GivesStatus (IsStatusAnswer answer) r
told_by_body answer body (Ok told) is gives = record { body = body; is_body = is; status = gives }
told_by_body answer body (Err NotUnderstood) is none = λ told tells. none told
    (subst (λ (b : List ℕ). IsStatusText b told) (same_Some _ _ (sym tells.is_body ∙ is)) tells.status)
told_by_body answer body (Err NoMemory) is gives = tt
told_by_body answer body (Err ReadFault) is gives = absurd gives
told_by_body answer body (Err WriteFault) is gives = absurd gives
told_by_body answer body (Err TooLong) is gives = absurd gives

module _ {R W : Type 0} (remaining : R → Option (List ℕ)) (contents : W → Option (List ℕ)) where
  -- what the gathered answer tells is told of all that came
  pub asked : (host answer : List ℕ) (from from' : Source R) (to to' : Sink W)
      (r : Result StatusTold StatusFault) → SinkTakes contents to to' (request_text host)
      → IfSome (source_remaining remaining from) (λ bytes. answer ≡ bytes)
      → GivesStatus (IsStatusAnswer answer) r → AsksStatus remaining contents host from from' to to' r
  asked host answer from from' to to' (Ok told) sent came gives = (
    record {
      sent = sent;
      came = read_bytes (source_remaining remaining from) answer (λ bytes. IsStatusAnswer bytes told) came
          gives;
    },
    gives.status.tells.keyed,
  )
  asked host answer from from' to to' (Err NotUnderstood) sent came none = record {
    sent = sent;
    came = read_bytes (source_remaining remaining from) answer
        (λ bytes. (told : StatusTold) → ¬ IsStatusAnswer bytes told) came none;
  }
  asked host answer from from' to to' (Err NoMemory) sent came gives = tt
  asked host answer from from' to to' (Err ReadFault) sent came gives = absurd gives
  asked host answer from from' to to' (Err WriteFault) sent came gives = absurd gives
  asked host answer from from' to to' (Err TooLong) sent came gives = absurd gives
