-- Which line records which reply.
use Rattle.std.specs.Prelude.{◌≡◌, ℕ, List, Some, codes}
use Rattle.serde_json.specs.Data.{Data, Members, object}
use Rattle.serde_json.specs.Events.{members_len}
use Rattle.serde_json.specs.Find.{get_member}
use Rattle.rv_json.specs.Bodies.{Reads}
use Rattle.rv_text.specs.declared.answer.Answer.TheVariants.{Replied}
use Rattle.rv_text.specs.declared.answer.Reply.{Reply}
use Rattle.rv_text.specs.declared.call.Call.{Call}
use Rattle.rv_text.specs.declared.message.Key.{Key}
use Rattle.rv_text.specs.declared.message.Message.TheVariants.{Request}
use Rattle.rv_text.specs.Limits.{FitsAnswer, FitsMessage}
use Rattle.rv_text.specs.Members.{object_of}
use Rattle.rv_text.specs.Rows.{answer_row, message_row}
use Rattle.rv_replies.specs.declared.findings.Told.{Told}

-- the value is an object with two members
pub record HasTwo (value : Data) (members : Members) : Type 0 where
  pub is : value ≡ object members
  pub two : members_len members ≡ 2

-- the member `asked` is this request, within its limits
pub record AsksMember (members : Members) (key : Key) (call : Call) : Type 0 where
  pub there : get_member (codes "asked") members ≡ Some (object_of (message_row (Request key call)))
  pub fits : FitsMessage (Request key call)

-- the member `told` is this reply to a request with this key, within its limits
pub record TellsMember (members : Members) (key : Key) (reply : Reply) : Type 0 where
  pub there : get_member (codes "told") members ≡ Some (object_of (answer_row (Replied key reply)))
  pub fits : FitsAnswer (Replied key reply)

-- the line is an object of two members, one the request and one its reply
pub record ReadsTold (line : List ℕ) (told : Told) : Type 0 where
  pub value : Data
  pub members : Members
  pub reads : Reads line value
  pub has : HasTwo value members
  pub asks : AsksMember members told.key told.call
  pub tells : TellsMember members told.key told.reply
