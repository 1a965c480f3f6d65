-- The value fits, and is read digit by digit.
use Rattle.std.proofs.Common.{arith, refl, rules, subst}
use Rattle.std.proofs.lemmas.List.{take_all}
use Rattle.std.specs.Str.Parse.{AllDigits}
use Rattle.rv_text.proofs.Numbers.{all_in_range, digits_with_next, value_before_last, value_with_next}
use Rattle.rv_text.proofs.number.read_number.Goals as goal

pub overflow_mul-value : goal.overflow_mul-value
overflow_mul-value c = grind (arith, value_before_last)

pub overflow_add-value : goal.overflow_add-value
overflow_add-value c = grind (arith, value_before_last)

pub loop-digit-preserved : goal.loop-digit-preserved
loop-digit-preserved c = record {
  digits = search (rules, digits_with_next);
  value = grind (arith, value_with_next);
}

pub returns-clause-some : goal.returns-clause-some
returns-clause-some c =
    let all = subst (AllDigits 10) (take_all c.loop-digit.digit-index c.args.text.now c.loop-digit-test.false)
    c.loop-digit.invariant.digits in
    let within = all_in_range c.args.text.now all in
    (λ _. record { some = search rules; within = omega arith; are_digits = within }, λ _. refl)
