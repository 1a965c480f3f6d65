use Rattle.rv_host.specs.Turns.{TurnsOver}
use Rattle.rv_host.proofs.shell.Shell.serve.Given as goal

abbrev pub invariant-loop-turn : goal.invariant-loop-turn
invariant-loop-turn g l = TurnsOver g.K.Lasting.lasts l.fn.self l.self
