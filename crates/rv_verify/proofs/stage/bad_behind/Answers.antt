-- A line more was read; or it is the first bad one.
use Rattle.std.proofs.Common.{◌+◌, ap}
use Rattle.rv_verify.proofs.Staging.{reads_bad_as}
use Rattle.rv_verify.proofs.stage.bad_behind.Goals as goal

pub returns-in-Ok-clause-read : goal.returns-in-Ok-clause-read
returns-in-Ok-clause-read c before has = c.in-Ok.ensures.read before has

pub returns-in-Err-Bad-clause-read : goal.returns-in-Err-Bad-clause-read
returns-in-Err-Bad-clause-read c before has =
    let bad = c.line.ensures.bad (cc) in
    reads_bad_as before c.args.verifier.now c.line.new.self c.args.records.now c.line.new.records
    c.args.line.now _ bad.1 bad.2 (ap (λ n. n + 2) c.entries.ensures) bad.0 has
