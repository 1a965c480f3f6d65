-- What was read to its end is the account whose state the machine holds.
use Rattle.std.proofs.Common.{◌∙◌, [], ap}
use Rattle.rv_app.proofs.Compacted.{machine_by}
use Rattle.rv_app.proofs.Following.{some_is}
use Rattle.rv_app.proofs.compact.machine_watched.Goals as goal

pub returns-in-Ok-clause-machine : goal.returns-in-Ok-clause-machine
returns-in-Ok-clause-machine g c =
    some_is (g.F.Read.remaining c.args.input) (λ bytes known. machine_by bytes c.new-audit.result.piece.items
    c.read_on.new.self c.read_on.new.records _ c.in-Ok-End.field-0 c.in-Ok.machine c.new-audit.ensures.piece
    c.in-Ok-End.field-0-is (c.in-Ok-End.ensures.read [] bytes
    (c.new-audit.ensures.read c.new-records.result (λ a none. c.new-records.ensures.stands a))
    (c.in_ok-reader.ensures ∙ ap (λ i. g.F.Read.remaining i) c.new.ensures ∙ known)) c.in-Ok.ensures.holds)
