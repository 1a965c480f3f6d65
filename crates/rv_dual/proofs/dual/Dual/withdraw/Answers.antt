-- Without the request at a place a queue is still one, of one side and rising.
use Rattle.std.proofs.Common.{List, sym, subst}
use Rattle.rv_session.specs.OwedDuty.{OwedDuty}
use Rattle.rv_dual.specs.declared.giver.Offer.{Offer}
use Rattle.rv_dual.specs.Queue.{IsDual}
use Rattle.rv_dual.specs.Withdrawing.{without_giver}
use Rattle.rv_dual.proofs.Withdrawn.{dual_without_giver, dual_without_taker, same_lines, withdraws_taker}
use Rattle.rv_dual.proofs.dual.Dual.withdraw.Goals as goal

pub invariant_of-self : goal.invariant_of-self
invariant_of-self c =
    let P : List Offer → Type 0 = λ givers. IsDual givers c.self.inside.takers.waiting in
    subst P (sym c.in-Some.ensures.rest) (dual_without_giver c.args.place _ _ c.self.invariant)

pub invariant_of-self-in-None : goal.invariant_of-self-in-None
invariant_of-self-in-None c =
    let G : List Offer → Type 0 = λ givers. IsDual givers c.withdraw_taker.new.takers.waiting in
    let T : List OwedDuty
    → Type 0 = λ takers. IsDual (without_giver c.args.place c.self.inside.givers.waiting) takers in
    subst G (sym c.in-None.ensures.rest)
    (subst T (sym c.withdraw_taker.ensures.rest) (dual_without_taker c.args.place _ _
    (dual_without_giver c.args.place _ _ c.self.invariant)))

pub returns-in-None : goal.returns-in-None
returns-in-None c =
    rw (← c.self.view_is) (withdraws_taker _ _ c.args.place _ c.in-None.ensures.none
    c.withdraw_taker.ensures.some c.withdraw_taker.ensures.none c.in-None.ensures.rest
    c.withdraw_taker.ensures.rest (record {
      givers = c.in-None.ensures.room;
      takers =
          c.withdraw_taker.ensures.room;
    }) (same_lines _ _ _ _ _ c.in-None.ensures.same
    c.withdraw_taker.ensures.same))
