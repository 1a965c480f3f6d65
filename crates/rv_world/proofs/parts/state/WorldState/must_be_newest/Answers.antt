-- Which incarnations are greater than all.
use Rattle.rv_world.proofs.OfParts.Words.{◌≤◌, sym, arith}
use Rattle.rv_world.proofs.parts.state.WorldState.must_be_newest.Goals as goal

pub returns-in_default-clause-ok : goal.returns-in_default-clause-ok
returns-in_default-clause-ok c = λ earlier there.
    let reached : earlier ≤ c.in-Some.newest = (c.requires.known c.args.client c.in-Some.newest
    (sym c.in-Some.ensures)).greatest earlier there in
    omega (arith, reached, c.if-incarnation-newest.false)

pub returns-in_default-2-clause-ok : goal.returns-in_default-2-clause-ok
returns-in_default-2-clause-ok c = λ earlier there. absurd (c.requires.unknown c.args.client earlier
    (sym c.in_default.ensures) there)
