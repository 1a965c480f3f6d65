-- Nothing was read.
use Rattle.std.proofs.Common.{refl}
use Rattle.rv_store.proofs.reader.AccountReader.new.Goals as goal

pub returns-clause-read : goal.returns-clause-read
returns-clause-read c = (
  refl,
  record {
    part = c.new.ensures.read c.new-2.result (λ a none. c.new-2.ensures.stands a);
    none_kept = c.new.ensures.piece;
  },
)
