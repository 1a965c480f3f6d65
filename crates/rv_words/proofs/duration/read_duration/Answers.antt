-- A text that writes a span is cut where its digits end, and read as what it writes.
use Rattle.std.proofs.Common.{◌≡◌, ◌∙◌, ◌*◌, ℕ, List, None, Some, ap, arith, refl, subst, sym}
use Rattle.std.proofs.lemmas.Bool.{false≢true}
use Rattle.std.proofs.lemmas.List.{take_rest}
use Rattle.rv_text.specs.Number.{IsDigits}
use Rattle.rv_words.specs.Durations.{WritesDuration}
use Rattle.rv_words.proofs.Cutting.{cut_digits, cut_word, first_letter_of, read_as}
use Rattle.rv_words.proofs.duration.read_duration.Goals as goal

pub returns-in_err-place-clause-none : goal.returns-in_err-place-clause-none
returns-in_err-place-clause-none c none n writes =
    let own = subst (λ (t : List ℕ). WritesDuration t n) (sym c.as_bytes-bytes.ensures.value) writes in
    let here : None ≡ Some _ = c.in_err-place.ensures.first ∙ first_letter_of _ n own in
    absurd (cc here)

pub returns-in_err-count-clause-none : goal.returns-in_err-count-clause-none
returns-in_err-count-clause-none c none n writes =
    let own = subst (λ (t : List ℕ). WritesDuration t n) (sym c.as_bytes-bytes.ensures.value) writes in
    let cut = cut_digits _ _ n (sym c.in_ok-place.ensures.first) own in
    false≢true (c.in_err-count.ensures.some.1 (subst IsDigits (sym cut) own.writes.0))

pub returns-in_err-unit-clause-none : goal.returns-in_err-unit-clause-none
returns-in_err-unit-clause-none c none n writes =
    let own = subst (λ (t : List ℕ). WritesDuration t n) (sym c.as_bytes-bytes.ensures.value) writes in
    c.in_err-unit.ensures.none refl own.unit
    (take_rest c.as_bytes-bytes.result.now c.in_ok-place.place
    ∙ cut_word _ _ n (sym c.in_ok-place.ensures.first) own)

pub returns-in_err-millis-clause-none : goal.returns-in_err-millis-clause-none
returns-in_err-millis-clause-none c none n writes =
    let own = subst (λ (t : List ℕ). WritesDuration t n) (sym c.as_bytes-bytes.ensures.value) writes in
    let same = read_as _ _ n c.in_ok-count.count c.in_ok-unit.unit (sym c.in_ok-place.ensures.first) own
    c.in_ok-count.ensures.value
    (sym (take_rest c.as_bytes-bytes.result.now c.in_ok-place.place) ∙ c.in_ok-unit.ensures.some)
    ∙ ap (λ (k : ℕ). c.in_ok-count.count * k) (sym c.millis.ensures) in
    c.in_err-millis.ensures (omega (arith, same, own.within))

pub returns-else-millis-le-MAX_MILLIS-clause-none : goal.returns-else-millis-le-MAX_MILLIS-clause-none
returns-else-millis-le-MAX_MILLIS-clause-none c none n writes =
    let own = subst (λ (t : List ℕ). WritesDuration t n) (sym c.as_bytes-bytes.ensures.value) writes in
    let same = read_as _ _ n c.in_ok-count.count c.in_ok-unit.unit (sym c.in_ok-place.ensures.first) own
    c.in_ok-count.ensures.value
    (sym (take_rest c.as_bytes-bytes.result.now c.in_ok-place.place) ∙ c.in_ok-unit.ensures.some)
    ∙ ap (λ (k : ℕ). c.in_ok-count.count * k) (sym c.millis.ensures) in
    omega (arith, same, own.within, c.in_ok-millis.ensures, c.if-millis-le-MAX_MILLIS.false)
