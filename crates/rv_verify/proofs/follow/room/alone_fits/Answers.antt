use Rattle.std.proofs.Common.{◌≡◌, ◌∙◌, ◌<◌, ℕ, arith, length, nat_lt, refl, sym, subst, IsTrue}
use Rattle.std.proofs.lemmas.Bool.{false≢true}
use Rattle.std.proofs.lemmas.Bool.Decides.{nat_tests}
use Rattle.rv_machine.specs.Machines.{state_in}
use Rattle.rv_verify.specs.follow.state_rules.Rooming.{HasSpace}
use Rattle.rv_verify.proofs.OfFollow.OfAsked.DueNow.{Iff}
use Rattle.rv_verify.proofs.OfFollow.OfAsked.Comers.{alone_places, alone_room, alone_space}
use Rattle.rv_verify.proofs.follow.room.alone_fits.Goals as goal

less_told : (n m : ℕ) → n ≡ m → Iff (IsTrue (nat_lt n 100000)) (m < 100000)
less_told n m same = grind (arith, nat_tests)

pub returns-then-not-has_space : goal.returns-then-not-has_space
returns-then-not-has_space c = λ moment time.
    let s = state_in c.args.machine.now in (
      λ t. absurd (false≢true t),
      λ room. absurd (false≢true (sym c.if-not-has_space.true ∙ c.has_space.ensures.1
          (subst (HasSpace s) (sym c.need_of.ensures.exact)
          (alone_space s c.requires.resumes moment time c.args.key.now c.args.call.now c.requires.alone
          room)))),
    )

pub returns-then-stays : goal.returns-then-stays
returns-then-stays c = λ moment time.
    let s = state_in c.args.machine.now in
    let told = less_told c.open_places.result (length s.open_places) c.open_places.ensures in (
      λ t. alone_room s c.requires.resumes moment time c.args.key.now c.args.call.now c.requires.alone
          (subst (HasSpace s) c.need_of.ensures.exact (c.has_space.ensures.0 c.if-not-has_space.false))
          (λ stays. told.0 t),
      λ room. told.1 (alone_places s c.requires.resumes moment time c.args.key.now c.args.call.now
          c.requires.alone room (sym c.stays.ensures ∙ c.if-stays.true)),
    )

pub returns : goal.returns
returns c = λ moment time.
    let s = state_in c.args.machine.now in (
      λ t. alone_room s c.requires.resumes moment time c.args.key.now c.args.call.now c.requires.alone
          (subst (HasSpace s) c.need_of.ensures.exact (c.has_space.ensures.0 c.if-not-has_space.false))
          (λ stays. absurd (false≢true (sym c.if-stays.false ∙ c.stays.ensures ∙ stays))),
      λ room. refl,
    )
