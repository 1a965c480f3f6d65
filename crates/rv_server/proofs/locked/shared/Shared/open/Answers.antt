-- Each seat that is made has no share yet.
use Rattle.std.proofs.Common.{◌≡◌, ℕ, All, arith, subst, sym}
use Rattle.std.proofs.lemmas.List.Elements.{All-push}
use Rattle.rv_server.proofs.locked.shared.Shared.open.Goals as goal

pub loop-all-preserved : goal.loop-all-preserved
loop-all-preserved g c = (
  omega arith,
  omega arith,
  omega arith,
  subst (All (λ (share : ℕ). share ≡ 0)) (sym c.push_reserved.ensures.items)
      (All-push (λ (share : ℕ). share ≡ 0) c.loop-all.seats.items _ c.loop-all.invariant.3
      c.split_off-share.ensures.amount),
  omega arith,
  omega arith,
)

pub returns-clause-shares : goal.returns-clause-shares
returns-clause-shares g c =
    subst (All (λ (share : ℕ). share ≡ 0)) (sym c.push_reserved-2.ensures.items)
    (All-push (λ (share : ℕ). share ≡ 0) c.loop-all.seats.items _ c.loop-all.invariant.3
    c.loop-all.invariant.2)
