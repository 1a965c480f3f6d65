-- The text is found where the fields have it.
use Rattle.std.proofs.Common.{◌≡◌, ◌≤◌, IsSome, true, false, ap, arith, length, length-append, refl, subst}
use Rattle.rv_checkpoint.proofs.Cuts.{cut_one}
use Rattle.rv_checkpoint.proofs.field.cut_texts.Goals as goal

pub returns-in_err-length-clause-none : goal.returns-in_err-length-clause-none
returns-in_err-length-clause-none c none text rest cuts = c.in_err-length.ensures.none refl _ _ cuts

pub returns-clause-none : goal.returns-clause-none
returns-clause-none c none text rest cuts =
    let same = cut_one cuts c.in_ok-length.ensures.some in
    let within : c.in_ok-length.length ≤ length c.in_ok-length.texts.now =
    omega (arith, same.0, ap length same.1, length-append text rest) in
    let some : false ≡ true = subst (λ r. IsSome r) none (c.split_at_checked.ensures.variant.1 within) in
    absurd (cc)
