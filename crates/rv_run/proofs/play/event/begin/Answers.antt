-- The fields of a begin are cut in one way, and one that is refused for another cause than memory is no call.
use Rattle.std.proofs.Common.{◌≡◌, None, arith, sym, ◌∙◌}
use Rattle.std.proofs.lemmas.Result.{err_from_is_err_and}
use Rattle.rv_book.specs.lines.Faults.{line_fault}
use Rattle.rv_book.specs.declared.lines.fault.LineFault.TheVariants as line
use Rattle.rv_run.proofs.OfPlay.Saying.{identifier_lacks, no_call, not_two, two_fields}
use Rattle.rv_run.proofs.play.event.begin.Goals as goal

pub returns-in_err-client-clause-bad : goal.returns-in_err-client-clause-bad
returns-in_err-client-clause-bad c bad client call =
    let none : c.cut_at.result ≡ None = grind arith in
    not_two _ _ c.args.fields.now (c.cut_at.ensures.none none)

pub returns-in_err-client-2-clause-bad : goal.returns-in_err-client-2-clause-bad
returns-in_err-client-2-clause-bad c bad client call says =
    let none : c.read_identifier.result ≡ None = grind arith in
    let parts = rw c.in_ok-client.ensures.ok_part at c.cut_at.ensures.parts in
    let first = rw c.in_ok-client.ensures.ok_part at c.cut_at.ensures.first in
    c.read_identifier.ensures.none none client (two_fields _ _ c.args.fields.now c.in_ok-client.client.now
    c.in_ok-client.text.now (identifier_lacks client) parts first says).0

pub returns-in_err-decode_call-clause-bad : goal.returns-in_err-decode_call-clause-bad
returns-in_err-decode_call-clause-bad c told client call says =
    let fault = c.in_err-decode_call.field-0.0 in
    let exit = err_from_is_err_and c.from_residual-in_err-decode_call.result
    c.from_residual-in_err-decode_call.ensures.1 in
    let bad : line_fault fault ≡ line.Bad = sym exit.2 ∙ cc in
    let parts = rw c.in_ok-client.ensures.ok_part at c.cut_at.ensures.parts in
    let first = rw c.in_ok-client.ensures.ok_part at c.cut_at.ensures.first in
    no_call c.in_ok-client.text.now c.decode_call.result fault c.decode_call.ensures c.in_err-decode_call.was
    bad call
    (two_fields _ _ c.args.fields.now c.in_ok-client.client.now c.in_ok-client.text.now
    (identifier_lacks client) parts first says).1
