-- What a reply is, by its word.
use Rattle.std.proofs.Common.{codes, sym, subst}
use Rattle.rv_json.specs.Flat.{seen}
use Rattle.rv_text.specs.Reading.{Finds, reply_lines}
use Rattle.rv_text.proofs.ByWord.{by_word}
use Rattle.rv_text.proofs.members.read_reply.Goals as goal

pub returns-in-done : goal.returns-in-done
returns-in-done c =
    by_word (codes "reply") c.in_ok-read_text.field-0.now (codes "done") (reply_lines c.args.epoch)
    (seen c.args.members.now)
    c.in_ok-read_text.ensures.found c.in-done.is

pub returns-in-nobody : goal.returns-in-nobody
returns-in-nobody c =
    by_word (codes "reply") c.in_ok-read_text.field-0.now (codes "nobody") (reply_lines c.args.epoch)
    (seen c.args.members.now)
    c.in_ok-read_text.ensures.found c.in-nobody.is

pub returns-in-empty : goal.returns-in-empty
returns-in-empty c =
    by_word (codes "reply") c.in_ok-read_text.field-0.now (codes "empty") (reply_lines c.args.epoch)
    (seen c.args.members.now)
    c.in_ok-read_text.ensures.found c.in-empty.is

pub returns-in-timedout : goal.returns-in-timedout
returns-in-timedout c =
    by_word (codes "reply") c.in_ok-read_text.field-0.now (codes "timedout") (reply_lines c.args.epoch)
    (seen c.args.members.now)
    c.in_ok-read_text.ensures.found c.in-timedout.is

pub returns-in-cancelled : goal.returns-in-cancelled
returns-in-cancelled c =
    by_word (codes "reply") c.in_ok-read_text.field-0.now (codes "cancelled") (reply_lines c.args.epoch)
    (seen c.args.members.now)
    c.in_ok-read_text.ensures.found c.in-cancelled.is

pub returns-in-received : goal.returns-in-received
returns-in-received c =
    subst (λ found. Finds (λ x. x) c.read_received.result found)
    (sym (by_word (codes "reply") c.in_ok-read_text.field-0.now (codes "received") (reply_lines c.args.epoch)
    (seen c.args.members.now) c.in_ok-read_text.ensures.found c.in-received.is)) c.read_received.ensures

pub returns-in-counted : goal.returns-in-counted
returns-in-counted c =
    subst (λ found. Finds (λ x. x) c.read_counted.result found)
    (sym (by_word (codes "reply") c.in_ok-read_text.field-0.now (codes "counted") (reply_lines c.args.epoch)
    (seen c.args.members.now) c.in_ok-read_text.ensures.found c.in-counted.is)) c.read_counted.ensures
