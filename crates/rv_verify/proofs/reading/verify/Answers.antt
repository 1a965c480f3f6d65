-- An audit that begins after no line reads to the end.
use Rattle.std.proofs.lemmas.Result.{IfOk-weaker}
use Rattle.rv_verify.specs.Ends.{IsToldOfBytes}
use Rattle.rv_verify.specs.Noting.{IsNotedOfBytes}
use Rattle.rv_verify.specs.Ongoing.{IsFoundOfBytes}
use Rattle.rv_verify.proofs.Through.{known_or}
use Rattle.rv_verify.proofs.reading.verify.Goals as goal

pub returns-clause-told : goal.returns-clause-told
returns-clause-told g c =
    known_or (g.B.Read.remaining c.args.reader.now) _ (λ bytes is.
    IfOk-weaker c.read_to_end.result (IsFoundOfBytes bytes c.read_to_end.new.records) (IsToldOfBytes bytes)
    (λ told found. found.0)
    (c.read_to_end.ensures.found bytes (c.new-audit.ensures.read c.args.records.now c.requires)
    c.new-audit.ensures.piece
    is))

pub returns-clause-noted : goal.returns-clause-noted
returns-clause-noted g c =
    known_or (g.B.Read.remaining c.args.reader.now) _ (λ bytes is.
    IfOk-weaker c.read_to_end.result (IsFoundOfBytes bytes c.read_to_end.new.records)
    (λ told. IsNotedOfBytes bytes told c.read_to_end.new.records) (λ told found. found.1)
    (c.read_to_end.ensures.found bytes (c.new-audit.ensures.read c.args.records.now c.requires)
    c.new-audit.ensures.piece
    is))
