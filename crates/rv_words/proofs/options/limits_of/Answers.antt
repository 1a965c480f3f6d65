-- Each limit is what its option gives.
use Rattle.rv_words.proofs.options.limits_of.Goals as goal

pub returns-clause-ok : goal.returns-clause-ok
returns-clause-ok c = record {
  clients = c.in_ok-number_of.ensures.ok;
  opens = c.in_ok-number_of-2.ensures.ok;
  connects = c.in_ok-number_of-3.ensures.ok;
  connects_from = c.in_ok-number_of-4.ensures.ok;
  holds = c.in_ok-number_of-5.ensures.ok;
  idles = c.in_ok-number_of-6.ensures.ok;
  stalls = c.in_ok-number_of-7.ensures.ok;
}

pub returns-clause-fits : goal.returns-clause-fits
returns-clause-fits c = record {
  clients = c.in_ok-number_of.ensures.fits;
  opens = c.in_ok-number_of-2.ensures.fits;
  connects = c.in_ok-number_of-3.ensures.fits;
  connects_from = c.in_ok-number_of-4.ensures.fits;
  holds = c.in_ok-number_of-5.ensures.fits;
  idles = c.in_ok-number_of-6.ensures.fits;
  stalls = c.in_ok-number_of-7.ensures.fits;
}
