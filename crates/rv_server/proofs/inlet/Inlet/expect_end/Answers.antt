-- A further frame, or none.
use Rattle.std.proofs.Common.{subst, Ok}
use Rattle.rv_server.specs.Reading.{TakesFrame}
use Rattle.rv_server.proofs.inlet.Inlet.expect_end.Goals as goal

pub returns-in-Ok-None-clause-ended : goal.returns-in-Ok-None-clause-ended
returns-in-Ok-None-clause-ended g c =
    subst (λ o. TakesFrame g.R.Read.remaining c.args.source.now c.next_frame.new.source c.args.self.now
    c.next_frame.new.self (Ok o)) c.in-Ok-None.field-0-is c.in-Ok-None.ensures.taken
