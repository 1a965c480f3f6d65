-- The fields of a delivery to the server are cut in one way.
use Rattle.std.proofs.Common.{refl}
use Rattle.std.proofs.lemmas.Bool.{false≢true}
use Rattle.rv_run.proofs.OfPlay.Saying.{not_two, number_lacks, two_fields}
use Rattle.rv_run.proofs.play.event.to_server.Goals as goal

pub returns-in_err-packet-clause-none : goal.returns-in_err-packet-clause-none
returns-in_err-packet-clause-none c none packet moment = not_two _ _ c.args.fields.now
    (c.in_err-packet.ensures.none refl)

pub returns-in_err-read_packet-clause-none : goal.returns-in_err-read_packet-clause-none
returns-in_err-read_packet-clause-none c none packet moment says =
    let two = two_fields _ _ c.args.fields.now c.in_ok-packet.packet.now c.in_ok-packet.moment.now
    (number_lacks packet) c.in_ok-packet.ensures.parts c.in_ok-packet.ensures.first says in
    c.in_err-read_packet.ensures.none refl packet two.0

pub returns-in_err-read_number-clause-none : goal.returns-in_err-read_number-clause-none
returns-in_err-read_number-clause-none c none packet moment says =
    let two = two_fields _ _ c.args.fields.now c.in_ok-packet.packet.now c.in_ok-packet.moment.now
    (number_lacks packet) c.in_ok-packet.ensures.parts c.in_ok-packet.ensures.first says in
    absurd (false≢true (c.in_err-read_number.ensures.some.1 two.1.0))
