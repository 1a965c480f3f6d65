-- A text of another format, or of none.
use Rattle.std.proofs.Common.{◌∙◌, refl}
use Rattle.rv_store.proofs.Formats.{none_cut, not_this, one_number, other_digits}
use Rattle.rv_store.proofs.format.account_in.Goals as goal

pub returns-in_default-clause-refused : goal.returns-in_default-clause-refused
returns-in_default-clause-refused c some = none_cut c.args.lines.now (c.in_default.ensures.none refl) some

pub returns-in_default-read_identifier-clause-refused :
    goal.returns-in_default-read_identifier-clause-refused
returns-in_default-read_identifier-clause-refused c some =
    not_this c.args.lines.now c.in-Some.digits.now c.in-Some.account.now c.in-Some.ensures.some
    (other_digits c.in-Some.digits.now c.as_slice.result.now c.eq.result c.eq.ensures c.if-eq.false
    c.as_slice.ensures)
    (λ n writes differs. c.in_default-read_identifier.ensures.none refl n writes) some

pub returns-then-version-eq-VERSION-clause-refused : goal.returns-then-version-eq-VERSION-clause-refused
returns-then-version-eq-VERSION-clause-refused c some =
    not_this c.args.lines.now c.in-Some.digits.now c.in-Some.account.now c.in-Some.ensures.some
    (other_digits c.in-Some.digits.now c.as_slice.result.now c.eq.result c.eq.ensures c.if-eq.false
    c.as_slice.ensures)
    (λ n writes differs. differs (one_number c.in-Some.digits.now n c.in-Some-read_identifier.version writes
    c.in-Some-read_identifier.ensures.some ∙ c.if-version-eq-VERSION.true)) some
