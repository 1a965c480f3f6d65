-- A byte that is neither below a space, a quote nor a backslash.
use Rattle.rv_json.proofs.FlatParts.{plain_byte}
use Rattle.rv_json.proofs.scan.is_plain.Goals as goal

pub returns : goal.returns
returns c = plain_byte c.args.byte
