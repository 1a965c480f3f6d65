-- The members `asked` and `told`: what their texts are read as is what they are.
use Rattle.std.proofs.Common.{◌≡◌, ◌∙◌, ◌≤◌, ℕ, List, Option, Some, subst, sym, String}
use Rattle.std.proofs.Common.{Global}
use Rattle.std.proofs.Common.{string_bytes, codes}
use Rattle.serde_json.specs.Data.{Members, depth, object}
use Rattle.serde_json.specs.Find.{get_member}
use Rattle.serde_json.specs.Read.{max_depth}
use Rattle.rv_json.specs.Bodies.{IsNotJson}
use Rattle.rv_text.specs.declared.answer.Answer.{Answer}
use Rattle.rv_text.specs.declared.answer.Answer.TheVariants.{Replied}
use Rattle.rv_text.specs.declared.answer.Reply.{Reply}
use Rattle.rv_text.specs.declared.call.Call.{Call}
use Rattle.rv_text.specs.declared.message.Key.{Key}
use Rattle.rv_text.specs.declared.message.Message.{Message}
use Rattle.rv_text.specs.declared.message.Message.TheVariants.{Request}
use Rattle.rv_text.specs.Bodies.{IsAnswerBody, IsMessageBody}
use Rattle.rv_text.specs.Members.{object_of}
use Rattle.rv_text.specs.Reading.{answers}
use Rattle.rv_text.specs.Rows.{answer_row, message_row}
use Rattle.rv_text.proofs.AnswerReaders.{answer_reader}
use Rattle.rv_text.proofs.Decoding.{at_most_one}
use Rattle.rv_text.proofs.Written.{written_answer, written_body}
use Rattle.rv_replies.specs.Lines.{AsksMember, TellsMember}
use Rattle.rv_replies.specs.Reading.{HasMemberText}
use Rattle.rv_replies.proofs.Texts.{text_is, text_reads}

module _ (ms : Members) (o : Option (String Global)) (text : String Global) (bytes : List ℕ)
    (some : o ≡ Some text) (lent : bytes ≡ string_bytes text) where
  module _ (has : HasMemberText (get_member (codes "asked") ms) o) where
    asked_has : HasMemberText (get_member (codes "asked") ms) (Some text)
    asked_has = subst (HasMemberText (get_member (codes "asked") ms)) some has

    pub asks : depth (object ms) ≤ max_depth → (key : Key) (call : Call)
        → IsMessageBody bytes (Request key call) → AsksMember ms key call
    asks shallow key call body =
        let its : IsMessageBody (string_bytes text) (Request key call) =
        subst (λ b. IsMessageBody b (Request key call)) lent body in
        record {
          there = text_reads (codes "asked") ms text asked_has shallow
              (object_of (message_row (Request key call))) its.1.1;
          fits = its.2;
        }

    pub asked_body : (key : Key) (call : Call) → AsksMember ms key call
        → IsMessageBody bytes (Request key call)
    asked_body key call is =
        let m : Message = Request key call in
        subst (λ b. IsMessageBody b m)
        (sym (lent ∙ text_is (codes "asked") ms text asked_has (message_row m) is.there))
        (written_body m is.fits)

    pub asks_json : IsNotJson bytes → (key : Key) (call : Call) → AsksMember ms key call → ⊥
    asks_json none key call is =
        none (object_of (message_row (Request key call))) (asked_body key call is).1

  module _ (has : HasMemberText (get_member (codes "told") ms) o) where
    told_has : HasMemberText (get_member (codes "told") ms) (Some text)
    told_has = subst (HasMemberText (get_member (codes "told") ms)) some has

    pub tells : depth (object ms) ≤ max_depth → (key : Key) (reply : Reply)
        → IsAnswerBody bytes (Replied key reply) → TellsMember ms key reply
    tells shallow key reply body =
        let its : IsAnswerBody (string_bytes text) (Replied key reply) =
        subst (λ b. IsAnswerBody b (Replied key reply)) lent body in
        record {
          there = text_reads (codes "told") ms text told_has shallow
              (object_of (answer_row (Replied key reply))) its.1.1;
          fits = its.2;
        }

    pub told_body : (key : Key) (reply : Reply) → TellsMember ms key reply
        → IsAnswerBody bytes (Replied key reply)
    told_body key reply is =
        let x : Answer = Replied key reply in
        subst (λ b. IsAnswerBody b x)
        (sym (lent ∙ text_is (codes "told") ms text told_has (answer_row x) is.there))
        (written_answer x is.fits)

    pub tells_json : IsNotJson bytes → (key : Key) (reply : Reply) → TellsMember ms key reply → ⊥
    tells_json none key reply is =
        none (object_of (answer_row (Replied key reply))) (told_body key reply is).1

    -- what reads as another answer tells no reply
    pub tells_other : (x : Answer) → IsAnswerBody bytes x
        → ((key : Key) (reply : Reply) → Replied key reply ≡ x → ⊥)
        → (key : Key) (reply : Reply) → TellsMember ms key reply → ⊥
    tells_other x body other key reply is =
        other key reply (at_most_one _ answers answer_reader bytes (Replied key reply) x
        (told_body key reply is) body)
