-- A world that begins is sound.
use Rattle.rv_world.proofs.OfParts.Words.{sym, subst, AllFits, IsSoundWorld}
use Rattle.rv_world.proofs.OfParts.Fitting.{first_fits}
use Rattle.rv_world.proofs.OfParts.Soundness.{first_sound}
use Rattle.rv_world.proofs.world.World.open.Goals as goal

pub invariant_of-result : goal.invariant_of-result
invariant_of-result c =
    let is = sym c.in_ok-state.ensures.world in
    record {
      sound = subst IsSoundWorld is (first_sound c.args.epoch);
      fits = subst AllFits is (first_fits c.args.epoch c.requires);
      newest = c.in_ok-state.ensures.newest;
    }
