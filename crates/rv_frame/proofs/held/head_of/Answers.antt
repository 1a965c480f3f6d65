-- Two length bytes and what follows them.
use Rattle.std.proofs.Common.{arith, rules}
use Rattle.rv_frame.proofs.Rows.{bad_head, whole_head}
use Rattle.rv_frame.proofs.held.head_of.Goals as goal

pub returns-then-not-fits_length : goal.returns-then-not-fits_length
returns-then-not-fits_length c = bad_head c.args.bytes.now (omega arith) (search rules) (search rules)

pub returns-else-rest-length : goal.returns-else-rest-length
returns-else-rest-length c = whole_head c.args.bytes.now (search rules) (search rules) (omega arith)
