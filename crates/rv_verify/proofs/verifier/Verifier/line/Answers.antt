-- What was read before and one line more was read.
use Rattle.std.proofs.Common.{refl, rules}
use Rattle.std.proofs.lemmas.Result.{on_ok_weaker}
use Rattle.rv_replies.proofs.Taking.{on_ok_two}
use Rattle.rv_verify.proofs.Passing.{passes_over, read_on}
use Rattle.rv_verify.proofs.verifier.Verifier.line.Goals as goal

pub returns-then-is_some-clause-read : goal.returns-then-is_some-clause-read
returns-then-is_some-clause-read c =
    on_ok_two c.pass_over.result (λ reads is.
    read_on c.args.self.now c.pass_over.new.self c.args.records.now c.args.records.now c.args.line.now
    (search rules)
    (passes_over c.args.self.now c.pass_over.new.self c.args.records.now c.args.records.now c.args.line.now
    reads is refl))
    c.pass_over.ensures.read c.pass_over.ensures.stopped

pub returns-else-is_some-clause-read : goal.returns-else-is_some-clause-read
returns-else-is_some-clause-read c =
    on_ok_weaker c.follow_line.result
    (read_on c.args.self.now c.follow_line.new.self c.args.records.now c.follow_line.new.records
    c.args.line.now (search rules)) c.follow_line.ensures.read
