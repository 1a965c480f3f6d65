-- Where the text itself is cut, what was gathered went out before it.
use Rattle.std.proofs.Common.{[], ◌∷◌, length, ap, arith}
use Rattle.std.proofs.lemmas.Result.{err_from_is_err_and}
use Rattle.rv_run.proofs.Sending.{stops_behind, stops_first}
use Rattle.rv_run.specs.Output.{gathered_bytes, sent_before}
use Rattle.rv_run.proofs.output.Output.line.Goals as goal

pub returns-in_err-self-clause-fault : goal.returns-in_err-self-clause-fault
returns-in_err-self-clause-fault g c =
    let exit = err_from_is_err_and c.from_residual-in_err-self.result c.from_residual-in_err-self.ensures.1 in
    rw (exit.1, exit.2) (stops_behind g.W.Write.contents (gathered_bytes c.args.self.now) c.args.sink.now
    (sent_before c.args.self.now) c.in_ok-flush.ensures.ok
    (omega (arith, c.in_ok-flush.ensures.count, ap length c.in_ok-flush.ensures.empty))
    (stops_first g.W.Write.contents (10 ∷ []) c.in_err-self.ensures.fault))
