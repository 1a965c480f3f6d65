-- The fields are found where the line has them.
use Rattle.std.proofs.Common.{◌≡◌, ◌∙◌, List, ℕ, None, Err, ap, arith, subst, sym}
use Rattle.std.proofs.lemmas.Result.{err_from_is_err_and}
use Rattle.rv_book.specs.declared.lines.fault.LineFault.TheVariants as line
use Rattle.rv_checkpoint.specs.Fields.{CutsNumber, IsRequestOf}
use Rattle.rv_checkpoint.proofs.Cuts.{cut_one, version_one}
use Rattle.rv_checkpoint.proofs.client.read_asking.Goals as goal

pub returns-in_err-version-clause-bad : goal.returns-in_err-version-clause-bad
returns-in_err-version-clause-bad c told client session says =
    let none : c.cut_version.result ≡ None = grind arith in
    c.cut_version.ensures.none none session.version says.after says.version

pub returns-in_err-place-clause-bad : goal.returns-in_err-place-clause-bad
returns-in_err-place-clause-bad c told client session says =
    let none : c.cut_number.result ≡ None = grind arith in
    let cut = rw c.in_ok-version.ensures.ok_part at c.cut_version.ensures.some in
    let same = version_one says.version cut in
    c.cut_number.ensures.none none says.place says.body
    (subst (λ (l : List ℕ). CutsNumber l says.place says.body) same.1 says.at_place)

pub returns-in_err-key-clause-bad : goal.returns-in_err-key-clause-bad
returns-in_err-key-clause-bad c told client session says =
    let exit = err_from_is_err_and c.from_residual-in_err-key.result c.from_residual-in_err-key.ensures.1 in
    let bad : c.in_err-key.field-0.0 ≡ line.Bad = sym exit.2 ∙ cc in
    let cut = rw c.in_ok-version.ensures.ok_part at c.cut_version.ensures.some in
    let same = version_one says.version cut in
    let place = rw c.in_ok-place.ensures.ok_part at c.cut_number.ensures.some in
    let there = cut_one (subst (λ (l : List ℕ). CutsNumber l says.place says.body) same.1 says.at_place) place
    in
    c.in_err-key.ensures.bad (ap Err bad) says.key says.call
    (subst (λ (l : List ℕ). IsRequestOf c.args.epoch l says.key says.call) there.1 says.says)
