-- One value more in each bucket, and in both totals.
use Rattle.rv_status.proofs.Observing.{histogram_more}
use Rattle.rv_status.proofs.histogram.Histogram.observe.Goals as goal

pub returns : goal.returns
returns c bounds seen is =
    histogram_more c.args.value bounds seen c.args.self.now is c.observe_each.new.buckets
    c.saturating_add-self.result c.saturating_add-self-2.result c.observe_each.ensures
    c.saturating_add-self.ensures
    c.saturating_add-self-2.ensures
