-- A bad line is refused, and the account stays.
use Rattle.std.proofs.Common.{refl, inl}
use Rattle.rv_run.proofs.turns.turn.answer_line.Goals as goal

pub returns-in-Err-Bad-clause-answers : goal.returns-in-Err-Bad-clause-answers
returns-in-Err-Bad-clause-answers c = inl (record {
  is_bad = c.in-Err-Bad.ensures.bad (cc);
  account_stays =
      refl;
  body_is = refl;
})
