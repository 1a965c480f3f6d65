use Rattle.rv_journal.proofs.filled.zeros.Goals as goal

pub returns-clause-items : goal.returns-clause-items
returns-clause-items c = c.in_ok-vec.ensures.items_if_clones_equal (λ y h. h)
