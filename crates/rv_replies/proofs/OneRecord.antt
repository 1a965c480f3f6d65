-- A line is the record of no reply if the keys of its members differ.
use Rattle.std.proofs.Common.{◌≡◌, ◌∙◌, List, ℕ, ap, subst, sym}
use Rattle.std.proofs.lemmas.Option.{same_Some}
use Rattle.serde_json.specs.Data.{Data, Members, object}
use Rattle.serde_json.specs.Written.{compact_text}
use Rattle.rv_json.specs.Bodies.{Reads}
use Rattle.rv_text.specs.declared.answer.Answer.TheVariants.{Replied}
use Rattle.rv_text.specs.declared.answer.Reply.{Reply}
use Rattle.rv_text.specs.declared.call.Call.{Call}
use Rattle.rv_text.specs.declared.message.Key.{Key}
use Rattle.rv_text.specs.declared.message.Message.TheVariants.{Request}
use Rattle.rv_text.specs.Bodies.{IsAnswerBody, IsMessageBody, answer_text, message_text}
use Rattle.rv_text.specs.Reading.{answers, messages}
use Rattle.rv_text.proofs.AnswerReaders.{answer_reader}
use Rattle.rv_text.proofs.Decoding.{at_most_one}
use Rattle.rv_text.proofs.Readers.{message_reader}
use Rattle.rv_text.proofs.Written.{written_answer, written_body}
use Rattle.rv_replies.specs.Lines.{AsksMember, HasTwo, ReadsTold, TellsMember}
use Rattle.rv_replies.specs.declared.findings.Told.{Told}

same_request : (k l : Key) (c d : Call) → Request k c ≡ Request l d → k ≡ l
same_request k l c d is = cc

same_replied : (k l : Key) (x y : Reply) → Replied k x ≡ Replied l y → k ≡ l
same_replied k l x y is = cc

one_asked : (ms : Members) (k l : Key) (c d : Call) → AsksMember ms k c → AsksMember ms l d → k ≡ l
one_asked ms k l c d first second =
    let text : message_text (Request k c) ≡ message_text (Request l d) =
    ap compact_text (same_Some _ _ (sym first.there ∙ second.there)) in
    same_request k l c d
    (at_most_one _ messages message_reader (message_text (Request k c)) (Request k c) (Request l d)
    (written_body (Request k c) first.fits)
    (subst (λ bytes. IsMessageBody bytes (Request l d)) (sym text) (written_body (Request l d) second.fits)))

one_told : (ms : Members) (k l : Key) (x y : Reply) → TellsMember ms k x → TellsMember ms l y → k ≡ l
one_told ms k l x y first second =
    let text : answer_text (Replied k x) ≡ answer_text (Replied l y) =
    ap compact_text (same_Some _ _ (sym first.there ∙ second.there)) in
    same_replied k l x y
    (at_most_one _ answers answer_reader (answer_text (Replied k x)) (Replied k x) (Replied l y)
    (written_answer (Replied k x) first.fits)
    (subst (λ bytes. IsAnswerBody bytes (Replied l y)) (sym text) (written_answer (Replied l y) second.fits)))

same_members : (ms ns : Members) → object ms ≡ object ns → ms ≡ ns
same_members ms ns is = cc

pub keys_apart : (line : List ℕ) (value : Data) (ms : Members) → Reads line value → HasTwo value ms
    → (key : Key) (call : Call) → AsksMember ms key call → (own : Key) (reply : Reply)
    → TellsMember ms own reply → (own ≡ key → ⊥) → (told : Told) → ReadsTold line told → ⊥
keys_apart line value ms reads has key call asks own reply tells apart told is =
    let same : is.value ≡ value = same_Some _ _ (sym is.reads.1 ∙ reads.1) in
    let members : is.members ≡ ms = same_members is.members ms (sym is.has.is ∙ same ∙ has.is) in
    let asked : AsksMember ms told.key told.call =
    subst (λ m. AsksMember m told.key told.call) members is.asks in
    let replied : TellsMember ms told.key told.reply =
    subst (λ m. TellsMember m told.key told.reply) members is.tells in
    apart (sym (one_told ms told.key own told.reply reply replied tells)
    ∙ one_asked ms told.key key told.call call asked asks)
