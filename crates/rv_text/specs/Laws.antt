-- What holds of messages, answers, calls and their bodies as such.
use Rattle.std.specs.Prelude.{◌≡◌, ℕ, List}
use Rattle.rv_text.specs.declared.message.Message.{Message}
use Rattle.rv_text.specs.declared.answer.Answer.{Answer}
use Rattle.rv_text.specs.declared.call.Call.{Call}
use Rattle.rv_text.specs.Bodies.{IsMessageBody, message_text}
use Rattle.rv_text.specs.Bodies.{IsAnswerBody, answer_text}
use Rattle.rv_text.specs.Bodies.{IsCallBody, call_text}
use Rattle.rv_text.specs.Limits.{FitsMessage, FitsAnswer, FitsCall}

-- bytes are the body of at most one
abbrev pub AtMostOne : {A : Type 0} → (List ℕ → A → Type 0) → Type 0
AtMostOne {A} IsBody = (bytes : List ℕ) (m n : A) → IsBody bytes m → IsBody bytes n → m ≡ n

abbrev pub OneMessage : Type 0
OneMessage = AtMostOne IsMessageBody

abbrev pub OneAnswer : Type 0
OneAnswer = AtMostOne IsAnswerBody

abbrev pub OneCall : Type 0
OneCall = AtMostOne IsCallBody

-- what is written for a message that fits is a body of it
abbrev pub WrittenBody : Type 0
WrittenBody = (m : Message) → FitsMessage m → IsMessageBody (message_text m) m

-- what is written for an answer that fits is a body of it
abbrev pub WrittenAnswer : Type 0
WrittenAnswer = (a : Answer) → FitsAnswer a → IsAnswerBody (answer_text a) a

-- the compact text of a call that fits is a text of it
abbrev pub WrittenCall : Type 0
WrittenCall = (c : Call) → FitsCall c → IsCallBody (call_text c) c
