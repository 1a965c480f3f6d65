-- What is no first line begins no state.
use Rattle.std.proofs.Common.{◌≡◌, None, arith}
use Rattle.rv_checkpoint.proofs.ReadOn.{no_first}
use Rattle.rv_checkpoint.proofs.reader.CheckpointReader.take_head.Goals as goal

pub returns-in_err-head-clause-bad : goal.returns-in_err-head-clause-bad
returns-in_err-head-clause-bad c told read has =
    let none : c.read_head.result ≡ None = grind arith in
    no_first _ read c.args.line.now _ c.requires (c.read_head.ensures.none none) has
