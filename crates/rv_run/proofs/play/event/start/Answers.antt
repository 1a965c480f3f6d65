-- The fields of a start are cut in one way.
use Rattle.std.proofs.Common.{refl}
use Rattle.rv_run.proofs.OfPlay.Saying.{identifier_lacks, not_two, two_fields}
use Rattle.rv_run.proofs.play.event.start.Goals as goal

pub returns-in_err-client-clause-none : goal.returns-in_err-client-clause-none
returns-in_err-client-clause-none c none client incarnation version = not_two _ _ c.args.fields.now
    (c.in_err-client.ensures.none refl)

pub returns-in_err-incarnation-clause-none : goal.returns-in_err-incarnation-clause-none
returns-in_err-incarnation-clause-none c none client incarnation version says =
    let two = two_fields _ _ c.args.fields.now c.in_ok-client.client.now c.in_ok-client.session.now
    (identifier_lacks client) c.in_ok-client.ensures.parts c.in_ok-client.ensures.first says in
    c.in_err-incarnation.ensures.none refl incarnation version two.1

pub returns-in_err-read_identifier-clause-none : goal.returns-in_err-read_identifier-clause-none
returns-in_err-read_identifier-clause-none c none client incarnation version says =
    let two = two_fields _ _ c.args.fields.now c.in_ok-client.client.now c.in_ok-client.session.now
    (identifier_lacks client) c.in_ok-client.ensures.parts c.in_ok-client.ensures.first says in
    c.in_err-read_identifier.ensures.none refl client two.0
