-- The number is found where the fields have it.
use Rattle.std.proofs.Common.{refl}
use Rattle.rv_checkpoint.proofs.Cuts.{has_number, has_space}
use Rattle.rv_checkpoint.proofs.field.cut_number.Goals as goal

pub returns-in_err-field-clause-none : goal.returns-in_err-field-clause-none
returns-in_err-field-clause-none c none n rest cuts = has_space cuts (c.in_err-field.ensures.none refl)

pub returns-in_err-n-clause-none : goal.returns-in_err-n-clause-none
returns-in_err-n-clause-none c none n rest cuts =
    c.in_err-n.ensures.none refl n (has_number cuts c.in_ok-field.field.now c.in_ok-field.rest.now
    c.in_ok-field.ensures.first c.in_ok-field.ensures.parts)
