use Rattle.std.proofs.Common.{◌∙◌, refl, sym}
use Rattle.std.proofs.lemmas.Bool.{false≢true}
use Rattle.rv_machine.specs.Machines.{state_in}
use Rattle.rv_verify.proofs.OfFollow.OfAsked.Comers.{met_awaited, met_full, met_space}
use Rattle.rv_verify.proofs.follow.room.meeting_fits.Goals as goal

pub returns-then-has_space : goal.returns-then-has_space
returns-then-has_space c = λ moment time. (
  λ t. met_space (state_in c.args.machine.now) c.requires.resumes moment time c.args.key.now c.args.call.now
      c.args.partners.now c.requires.met c.requires.some (c.has_space.ensures.0 c.if-has_space.true),
  λ room. refl,
)

pub returns-in-Some : goal.returns-in-Some
returns-in-Some c = λ moment time. (
  λ t. met_awaited (state_in c.args.machine.now) c.requires.resumes moment time c.args.key.now
      c.args.call.now c.args.partners.now c.requires.met c.requires.some c.in-Some.field-0
      c.in-Some.ensures.some.0 c.in-Some.ensures.some.1,
  λ room. refl,
)

pub returns-in-None : goal.returns-in-None
returns-in-None c = λ moment time. (
  λ t. absurd (false≢true t),
  λ room. absurd (met_full (state_in c.args.machine.now) c.requires.resumes moment time c.args.key.now
      c.args.call.now c.args.partners.now c.requires.met c.requires.some c.in-None.ensures.none
      (λ space. false≢true (sym c.if-has_space.false ∙ c.has_space.ensures.1 space)) room),
)
