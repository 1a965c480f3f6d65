-- The ledger is the one of the blank.
use Rattle.rv_tests.proofs.faults.told_over.Given as goal

abbrev pub ghosts-told : goal.ghosts-told
ghosts-told g a = record { name = a.blank.name; parts = a.blank.parts }
