-- The fields of a line: numbers, each with a space (32) after it, and bodies.
use Rattle.std.specs.Prelude.{◌≡◌, ◌^◌, ◌∷◌, ◌++◌, ℕ, List, length}
use Rattle.rv_text.specs.Bodies.{IsAnswerBody, IsMessageBody}
use Rattle.rv_text.specs.Number.{WritesUpTo}
use Rattle.rv_text.specs.Versions.{number_of_version}
use Rattle.rv_text.specs.declared.answer.Answer.TheVariants as answer
use Rattle.rv_text.specs.declared.answer.Reply.{Reply}
use Rattle.rv_text.specs.declared.call.Call.{Call}
use Rattle.rv_text.specs.declared.message.Key.{Key}
use Rattle.rv_text.specs.declared.message.Message.TheVariants as message
use Rattle.rv_text.specs.declared.version.Version.{Version}

-- the greatest number of a field, as the greatest moment is
abbrev pub max_field : ℕ
max_field = 2 ^ 62

-- the fields are this number, in decimal without a leading zero, a space and the rest
pub record CutsNumber (fields : List ℕ) (n : ℕ) (rest : List ℕ) : Type 0 where
  pub field : List ℕ
  pub parts : fields ≡ field ++ 32 ∷ rest
  pub says : WritesUpTo max_field field n

-- they are a version's number, a space and the rest
abbrev pub CutsVersion : List ℕ → Version → List ℕ → Type 0
CutsVersion fields version rest = CutsNumber fields (number_of_version version) rest

-- they are the length of a text, a space, that text and the rest
abbrev pub CutsTexts : List ℕ → List ℕ → List ℕ → Type 0
CutsTexts fields text rest = CutsNumber fields (length text) (text ++ rest)

-- a body of this request, whose key is of the epoch
pub record IsRequestOf (epoch : ℕ) (body : List ℕ) (key : Key) (call : Call) : Type 0 where
  pub says : IsMessageBody body (message.Request key call)
  pub epoch_is : key.epoch ≡ epoch

-- a body of this request's cancel, whose key is of the epoch
pub record IsCancelOf (epoch : ℕ) (body : List ℕ) (key : Key) : Type 0 where
  pub says : IsMessageBody body (message.Cancel key)
  pub epoch_is : key.epoch ≡ epoch

-- a body of this reply, whose key is of the epoch
pub record IsBodyOfReply (epoch : ℕ) (body : List ℕ) (key : Key) (reply : Reply) : Type 0 where
  pub says : IsAnswerBody body (answer.Replied key reply)
  pub epoch_is : key.epoch ≡ epoch
