-- Which bytes are the body of which value, and the one text that is written for a value: RFC 8259, as
-- `serde_json` reads and writes its `Value`.
use Rattle.std.specs.Prelude.{◌≡◌, ◌⊎◌, ℕ, List, IfOk, Result, Ok, Err}
use Rattle.serde_json.specs.Written.{compact_text}
pub use Rattle.rv_json.specs.Bodies.{HasBodyLength, Reads, IsNotJson}
use Rattle.rv_json.specs.declared.fault.TextFault.{TextFault}
use Rattle.rv_json.specs.declared.fault.TextFault.TheVariants as fault
use Rattle.rv_text.specs.declared.message.Message.{Message}
use Rattle.rv_text.specs.declared.call.Call.{Call}
use Rattle.rv_text.specs.declared.answer.Answer.{Answer}
use Rattle.rv_text.specs.declared.answer.Answer.TheVariants as answer
use Rattle.rv_text.specs.declared.answer.Refusal.{Refusal}
use Rattle.rv_text.specs.Members.{Member, object_of}
use Rattle.rv_text.specs.Rows.{message_row, answer_row, call_row}
use Rattle.rv_text.specs.Limits.{FitsMessage, FitsAnswer, FitsCall}

-- the bytes are a body of x: they have a body's length, they read as the object with exactly the members of
-- its row, and it is within its limits
abbrev pub IsBody : {A : Type 0} → (A → List Member) → (A → Type 0) → List ℕ → A → Type 0
IsBody row Fits bytes x = HasBodyLength bytes × Reads bytes (object_of (row x)) × Fits x

abbrev pub IsMessageBody : List ℕ → Message → Type 0
IsMessageBody bytes message = IsBody message_row FitsMessage bytes message

abbrev pub IsAnswerBody : List ℕ → Answer → Type 0
IsAnswerBody bytes answer = IsBody answer_row FitsAnswer bytes answer

-- a call text: the members of the call alone, and none of a request's own
abbrev pub IsCallBody : List ℕ → Call → Type 0
IsCallBody bytes call = IsBody call_row FitsCall bytes call

-- what a decoder answers for bytes
pub record Decodes (A : Type 0) (IsBodyOf : List ℕ → A → Type 0)
    (bytes : List ℕ) (result : Result A TextFault) : Type 0 where
  -- with both: a value comes exactly if the bytes are its body, unless memory ran out
  pub found : IfOk result (IsBodyOf bytes)
  pub only : (x : A) → IsBodyOf bytes x → (result ≡ Ok x) ⊎ (result ≡ Err fault.NoMemory)
  pub length_first : ¬ HasBodyLength bytes → result ≡ Err fault.NotMessage
  pub not_json : result ≡ Err fault.NotJson → HasBodyLength bytes × IsNotJson bytes
  pub json_first : IsNotJson bytes → HasBodyLength bytes
      → (result ≡ Err fault.NotJson) ⊎ (result ≡ Err fault.NoMemory)
  pub not_message : result ≡ Err fault.NotMessage → (x : A) → ¬ IsBodyOf bytes x
  pub is_json : result ≡ Err fault.NotMessage → HasBodyLength bytes → ¬ IsNotJson bytes

-- the body that is written for a message
abbrev pub message_text : Message → List ℕ
message_text message = compact_text (object_of (message_row message))

-- the body that is written for an answer
abbrev pub answer_text : Answer → List ℕ
answer_text answer = compact_text (object_of (answer_row answer))

-- the compact text of a call
abbrev pub call_text : Call → List ℕ
call_text call = compact_text (object_of (call_row call))

-- the body that is written for a refusal
unfoldable pub refused_text : Refusal → List ℕ
refused_text refusal = answer_text (answer.Refused refusal)
