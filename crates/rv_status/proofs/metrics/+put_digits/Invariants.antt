-- Each digit takes one of the places.
use Rattle.rv_status.proofs.metrics.+put_digits.Given as goal

abbrev pub decreases-put_digits : goal.decreases-put_digits
decreases-put_digits l = l.places
