-- The version is that of the number that is found.
use Rattle.std.proofs.Common.{◌≡◌, ◌∙◌, None, Some, refl, ap}
use Rattle.rv_checkpoint.proofs.Cuts.{cut_one, version_number}
use Rattle.rv_text.specs.Versions.{version_of}
use Rattle.rv_checkpoint.proofs.field.cut_version.Goals as goal

pub returns-in_err-number-clause-none : goal.returns-in_err-number-clause-none
returns-in_err-number-clause-none c none version rest cuts = c.in_err-number.ensures.none refl _ rest cuts

pub returns-in_err-version-clause-none : goal.returns-in_err-version-clause-none
returns-in_err-version-clause-none c none version rest cuts =
    let same = (cut_one c.in_ok-number.ensures.some cuts).0 in
    let told : None ≡ Some version = c.in_err-version.ensures ∙ ap version_of same ∙ version_number version in
    absurd (cc)
