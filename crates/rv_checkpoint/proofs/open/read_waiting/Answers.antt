-- The fields are found where the line has them.
use Rattle.std.proofs.Common.{◌≡◌, ◌∙◌, List, ℕ, None, Err, ap, arith, subst, sym}
use Rattle.std.proofs.lemmas.Result.{err_from_is_err_and}
use Rattle.rv_book.specs.declared.lines.fault.LineFault.TheVariants as line
use Rattle.rv_checkpoint.specs.Fields.{CutsNumber, IsRequestOf}
use Rattle.rv_account.specs.state.Standing.{StandsFor}
use Rattle.rv_checkpoint.proofs.Cuts.{cut_one}
use Rattle.rv_checkpoint.proofs.SaidOnce.{request_one}
use Rattle.rv_checkpoint.proofs.open.read_waiting.Goals as goal

pub returns-in_err-place-clause-bad : goal.returns-in_err-place-clause-bad
returns-in_err-place-clause-bad c told there says =
    let none : c.cut_number.result ≡ None = grind arith in
    c.cut_number.ensures.none none there.place says.after says.place

pub returns-in_err-since-clause-bad : goal.returns-in_err-since-clause-bad
returns-in_err-since-clause-bad c told there says =
    let none : c.cut_number-2.result ≡ None = grind arith in
    let cut = rw c.in_ok-place.ensures.ok_part at c.cut_number.ensures.some in
    let same = cut_one says.place cut in
    c.cut_number-2.ensures.none none says.since says.body
    (subst (λ (l : List ℕ). CutsNumber l says.since says.body) same.1 says.arrived)

pub returns-in_err-key-clause-bad : goal.returns-in_err-key-clause-bad
returns-in_err-key-clause-bad c told there says =
    let exit = err_from_is_err_and c.from_residual-in_err-key.result c.from_residual-in_err-key.ensures.1 in
    let bad : c.in_err-key.field-0.0 ≡ line.Bad = sym exit.2 ∙ cc in
    let cut = rw c.in_ok-place.ensures.ok_part at c.cut_number.ensures.some in
    let same = cut_one says.place cut in
    let since = rw c.in_ok-since.ensures.ok_part at c.cut_number-2.ensures.some in
    let arrived = cut_one (subst (λ (l : List ℕ). CutsNumber l says.since says.body) same.1 says.arrived)
    since
    in
    c.in_err-key.ensures.bad (ap Err bad) says.key says.call
    (subst (λ (l : List ℕ). IsRequestOf c.args.epoch l says.key says.call) arrived.1 says.says)

pub returns-clause-bad : goal.returns-clause-bad
returns-clause-bad c told there says =
    let none : c.waiting_at.result ≡ None = grind arith in
    let cut = rw c.in_ok-place.ensures.ok_part at c.cut_number.ensures.some in
    let same = cut_one says.place cut in
    let since = rw c.in_ok-since.ensures.ok_part at c.cut_number-2.ensures.some in
    let arrived = cut_one (subst (λ (l : List ℕ). CutsNumber l says.since says.body) same.1 says.arrived)
    since
    in
    let asked = request_one arrived.1 says.says c.in_ok-key.ensures.reads in
    c.waiting_at.ensures.none none there (subst (λ s. StandsFor there s c.in_ok-key.call) arrived.0
    (subst (λ call. StandsFor there says.since call) asked.1 says.stands))
