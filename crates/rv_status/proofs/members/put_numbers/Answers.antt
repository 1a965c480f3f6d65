-- Each token comes after those before it.
use Rattle.std.proofs.Common.{codes}
use Rattle.std.proofs.lemmas.Result.{on_ok_weaker}
use Rattle.rv_status.specs.Rows.{number_rows}
use Rattle.rv_status.proofs.Told.{members_told}
use Rattle.rv_status.proofs.members.put_numbers.Goals as goal

pub returns-clause-tokens : goal.returns-clause-tokens
returns-clause-tokens c =
    on_ok_weaker c.end_object.result
    (members_told (number_rows c.args.numbers.now) (codes "numbers") _ _ _ _ _ c.in_ok-key.ensures.ok
    c.in_ok-begin_object.ensures.ok c.in_ok-put_each_number.ensures.tokens) c.end_object.ensures.ok
