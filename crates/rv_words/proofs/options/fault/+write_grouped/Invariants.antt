-- The number falls.
use Rattle.rv_words.proofs.options.fault.+write_grouped.Given as goal

abbrev pub decreases-write_grouped : goal.decreases-write_grouped
decreases-write_grouped g l = l.number
