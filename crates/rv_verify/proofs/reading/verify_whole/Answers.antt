-- All whole lines were read, and what is kept comes after them.
use Rattle.std.proofs.Common.{[], refl}
use Rattle.rv_verify.proofs.Through.{known_or}
use Rattle.rv_verify.proofs.WholeEnds.{whole_found}
use Rattle.rv_verify.proofs.reading.verify_whole.Goals as goal

pub returns-clause-found : goal.returns-clause-found
returns-clause-found g c = known_or (g.B.Read.remaining c.args.reader.now) _ (λ bytes is.
    whole_found bytes c.read_until.new.self c.read_until.new.records
    (g.B.Read.remaining c.read_until.new.reader) c.break_off.result c.new-audit.result.piece.items
    c.in_ok-read_until.field-0 c.new-audit.ensures.piece (c.in_ok-read_until.ensures.ends refl)
    (c.in_ok-read_until.ensures.read [] bytes (c.new-audit.ensures.read c.args.records.now c.requires) is)
    c.break_off.ensures.found c.break_off.ensures.torn)
