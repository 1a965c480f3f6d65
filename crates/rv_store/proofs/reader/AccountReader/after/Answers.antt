-- An audit that goes on from the machine has read the account that it holds.
use Rattle.rv_store.proofs.reader.AccountReader.after.Goals as goal

pub returns-clause-read : goal.returns-clause-read
returns-clause-read c text account is held = (
  account,
  is,
  record {
    part = c.after.ensures.read _ held c.new.result (c.new.ensures.stands held.account);
    none_kept = c.after.ensures.piece;
  },
)
