-- A step keeps the headline.
use Rattle.rv_world.proofs.OfParts.Words.{subst, World, OnlyGrows, world_of}
use Rattle.rv_world.proofs.OfParts.Keeping.{comes_sound, comes_fits, comes_grows}
use Rattle.rv_world.proofs.OfParts.TheHeadline.{sound_headline}
use Rattle.rv_world.proofs.world.World.step.Goals as goal

pub invariant_of-self : goal.invariant_of-self
invariant_of-self c =
    let w = world_of c.self.inside.state in
    record {
      sound = comes_sound w c.args.event.now _ c.take.result c.self.invariant.sound c.take.ensures.comes;
      fits = comes_fits w c.args.event.now _ c.take.result c.self.invariant.sound c.self.invariant.fits
          c.requires c.take.ensures.comes;
      newest = c.take.ensures.newest;
    }

pub returns-clause-headline : goal.returns-clause-headline
returns-clause-headline c =
    sound_headline (world_of c.take.new.state) (comes_sound (world_of c.self.inside.state) c.args.event.now _
    c.take.result c.self.invariant.sound c.take.ensures.comes)

pub returns-clause-only_growth : goal.returns-clause-only_growth
returns-clause-only_growth c =
    subst (λ (w : World). OnlyGrows w (world_of c.take.new.state)) c.self.view_is
    (comes_grows (world_of c.self.inside.state) c.args.event.now _ c.take.result c.take.ensures.comes)
