-- What an answer is, by its kind.
use Rattle.std.proofs.Common.{codes, sym, subst}
use Rattle.rv_json.specs.Flat.{seen}
use Rattle.rv_text.specs.Reading.{Finds, answer_lines}
use Rattle.rv_text.proofs.ByWord.{by_word}
use Rattle.rv_text.proofs.decode.AnswerBody.read.Goals as goal

pub returns-in-welcome : goal.returns-in-welcome
returns-in-welcome c =
    subst (λ found. Finds (λ x. x) c.read_welcome.result found)
    (sym (by_word (codes "kind") c.in_ok-read_text.field-0.now (codes "welcome") answer_lines
    (seen c.args.members.now) c.in_ok-read_text.ensures.found c.in-welcome.is)) c.read_welcome.ensures

pub returns-in-reply : goal.returns-in-reply
returns-in-reply c =
    subst (λ found. Finds (λ x. x) c.read_replied.result found)
    (sym (by_word (codes "kind") c.in_ok-read_text.field-0.now (codes "reply") answer_lines
    (seen c.args.members.now) c.in_ok-read_text.ensures.found c.in-reply.is)) c.read_replied.ensures
