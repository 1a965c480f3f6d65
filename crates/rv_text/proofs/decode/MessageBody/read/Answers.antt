-- What a message is, by its kind.
use Rattle.std.proofs.Common.{codes, sym, subst}
use Rattle.rv_json.specs.Flat.{seen}
use Rattle.rv_text.specs.Reading.{Finds, message_lines}
use Rattle.rv_text.proofs.ByWord.{by_word}
use Rattle.rv_text.proofs.decode.MessageBody.read.Goals as goal

pub returns-in-hello : goal.returns-in-hello
returns-in-hello c =
    subst (λ found. Finds (λ x. x) c.read_hello.result found)
    (sym (by_word (codes "kind") c.in_ok-read_text.field-0.now (codes "hello") message_lines
    (seen c.args.members.now) c.in_ok-read_text.ensures.found c.in-hello.is)) c.read_hello.ensures

pub returns-in-request : goal.returns-in-request
returns-in-request c =
    subst (λ found. Finds (λ x. x) c.read_request.result found)
    (sym (by_word (codes "kind") c.in_ok-read_text.field-0.now (codes "request") message_lines
    (seen c.args.members.now) c.in_ok-read_text.ensures.found c.in-request.is)) c.read_request.ensures
