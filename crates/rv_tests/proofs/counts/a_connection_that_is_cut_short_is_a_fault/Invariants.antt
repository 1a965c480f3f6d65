-- The ledger is the one of the blank.
use Rattle.rv_tests.proofs.counts.a_connection_that_is_cut_short_is_a_fault.Given as goal

abbrev pub ghosts-counted : goal.ghosts-counted
ghosts-counted g a = record { name = a.blank.name; parts = a.blank.parts }
