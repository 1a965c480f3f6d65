-- Whoever is over goes, and any other goes behind the rest.
use Rattle.std.proofs.Common.{refl, sym, ◌∙◌, true≢false}
use Rattle.rv_status.proofs.visitors.Visitors.take_back.Goals as goal

pub returns-then-is_over : goal.returns-then-is_over
returns-then-is_over g c = record {
  goes = λ leaving. refl;
  stays = λ stays. absurd (stays (c.is_over.ensures.0 c.if-is_over.true));
}

pub returns : goal.returns
returns g c = record {
  goes = λ leaving. absurd (true≢false (sym (c.is_over.ensures.1 leaving) ∙ c.if-is_over.false));
  stays = λ stays. c.push_back_reserved.ensures.items;
}
