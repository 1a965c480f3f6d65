-- What a call is, by its word.
use Rattle.std.proofs.Common.{codes, sym, subst}
use Rattle.rv_json.specs.Flat.{seen}
use Rattle.rv_text.specs.Reading.{Finds, call_lines}
use Rattle.rv_text.proofs.ByWord.{by_word}
use Rattle.rv_text.proofs.members.read_call.Goals as goal

pub returns-in-put : goal.returns-in-put
returns-in-put c =
    subst (λ found. Finds (λ x. x) c.read_put.result found)
    (sym (by_word (codes "call") c.in_ok-read_text.field-0.now (codes "put") call_lines
    (seen c.args.members.now) c.in_ok-read_text.ensures.found c.in-put.is)) c.read_put.ensures

pub returns-in-transfer : goal.returns-in-transfer
returns-in-transfer c =
    subst (λ found. Finds (λ x. x) c.read_transfer.result found)
    (sym (by_word (codes "call") c.in_ok-read_text.field-0.now (codes "transfer") call_lines
    (seen c.args.members.now) c.in_ok-read_text.ensures.found c.in-transfer.is)) c.read_transfer.ensures

pub returns-in-take : goal.returns-in-take
returns-in-take c =
    subst (λ found. Finds (λ x. x) c.read_take.result found)
    (sym (by_word (codes "call") c.in_ok-read_text.field-0.now (codes "take") call_lines
    (seen c.args.members.now) c.in_ok-read_text.ensures.found c.in-take.is)) c.read_take.ensures

pub returns-in-swap : goal.returns-in-swap
returns-in-swap c =
    subst (λ found. Finds (λ x. x) c.read_swap.result found)
    (sym (by_word (codes "call") c.in_ok-read_text.field-0.now (codes "swap") call_lines
    (seen c.args.members.now) c.in_ok-read_text.ensures.found c.in-swap.is)) c.read_swap.ensures

pub returns-in-drain : goal.returns-in-drain
returns-in-drain c =
    subst (λ found. Finds (λ x. x) c.read_drain.result found)
    (sym (by_word (codes "call") c.in_ok-read_text.field-0.now (codes "drain") call_lines
    (seen c.args.members.now) c.in_ok-read_text.ensures.found c.in-drain.is)) c.read_drain.ensures
