-- Each field is what its option gives.
use Rattle.std.proofs.Common.{sym}
use Rattle.rv_words.proofs.OfOptions.Keeping.{in_store, one_account}
use Rattle.rv_words.proofs.options.options_of.Goals as goal

pub returns-clause-ok : goal.returns-clause-ok
returns-clause-ok c = record {
  listens = sym c.in-Some.ensures;
  keeps = sym c.text_of-3.ensures;
  stores = sym c.in_ok-store_of.ensures.ok;
  one_account = one_account _ _ _ c.text_of-3.ensures c.in_ok-store_of.ensures.alone;
  tells = sym c.text_of-4.ensures;
  tells_as = sym c.text_of-5.ensures;
  in_epoch = c.in_ok-epoch_of.ensures.ok;
  begins = c.in_ok-flag_in_store.ensures.ok;
  unsynced = c.in_ok-flag_in_store-2.ensures.ok;
  in_store = record {
    begins = in_store _ _ _ c.in_ok-store_of.ensures.ok c.in_ok-flag_in_store.ensures.in_store;
    unsynced = in_store _ _ _ c.in_ok-store_of.ensures.ok c.in_ok-flag_in_store-2.ensures.in_store;
  };
  boots = sym c.text_of-2.ensures;
  limits = c.in_ok-limits_of.ensures.ok;
  is_quiet = c.is_given.ensures;
}

pub returns-clause-fits : goal.returns-clause-fits
returns-clause-fits c = record {
  in_epoch = c.in_ok-epoch_of.ensures.fits;
  in_store = record {
    begins = in_store _ _ _ c.in_ok-store_of.ensures.ok c.in_ok-flag_in_store.ensures.in_store;
    unsynced = in_store _ _ _ c.in_ok-store_of.ensures.ok c.in_ok-flag_in_store-2.ensures.in_store;
  };
  one_account = one_account _ _ _ c.text_of-3.ensures c.in_ok-store_of.ensures.alone;
  limits = c.in_ok-limits_of.ensures.fits;
}
