use Rattle.std.proofs.Common.{◌<◌, arith}
use Rattle.rv_verify.proofs.OfFollow.OfAsked.Asked.{all_next, all_told, not_all}
use Rattle.rv_verify.proofs.follow.state_rules.partners.stand_below.Goals as goal

pub returns-then-place-length : goal.returns-then-place-length
returns-then-place-length c =
    not_all c.args.places.now c.loop-place.place-index (λ p. p < c.args.length) (omega arith)
    (λ less. omega (arith, less))

pub loop-place-preserved : goal.loop-place-preserved
loop-place-preserved c =
    all_next c.args.places.now c.loop-place.place-index (λ p. p < c.args.length) (omega arith)
    c.loop-place.invariant

pub returns : goal.returns
returns c =
    all_told c.args.places.now c.loop-place.place-index (λ p. p < c.args.length) (omega arith)
    c.loop-place.invariant
