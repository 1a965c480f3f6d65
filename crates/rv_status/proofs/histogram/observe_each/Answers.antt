-- Each bucket of those that the loop passed.
use Rattle.std.proofs.Common.{rules}
use Rattle.std.proofs.lemmas.List.Edits.{map_over_more}
use Rattle.rv_status.specs.Histograms.{observed}
use Rattle.rv_status.proofs.histogram.observe_each.Goals as goal

pub loop-bucket-preserved : goal.loop-bucket-preserved
loop-bucket-preserved c = search (rules, map_over_more (observed c.args.value))
