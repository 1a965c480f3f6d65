-- The verdict is that on the lines that were read.
use Rattle.std.proofs.Common.{rules}
use Rattle.rv_verify.proofs.Telling.{verdict_told}
use Rattle.rv_verify.proofs.verifier.Verifier.into_machine.Goals as goal

pub returns-in-Some-clause-told : goal.returns-in-Some-clause-told
returns-in-Some-clause-told c =
    verdict_told c.args.self c.length.result c.verdict.result (search rules) (cc)
