-- The account of an epoch is the present one or that of an earlier book.
use Rattle.rv_world.proofs.OfParts.Words.{◌≡◌, ◌≢◌, ◌<◌, ◌∙◌, ℕ, List, sym, ap, subst, Account, World}
use Rattle.rv_world.proofs.OfParts.Words.{IsAccountOf, world_of}
use Rattle.std.specs.Prelude.{IfNone}
use Rattle.std.proofs.lemmas.Option.{slice_get_within, get_or_from_slice_get}
use Rattle.rv_world.specs.parts.Parts.{IsBookOf}
use Rattle.rv_world.proofs.OfParts.ByEpoch.{earlier_of, none_of}
use Rattle.rv_world.proofs.world.World.account.Goals as goal

pub returns-in_err-index-clause-none : goal.returns-in_err-index-clause-none
returns-in_err-index-clause-none c =
    let w = world_of c.self.inside.state in
    let nowhere : (i : ℕ) → ¬ IsBookOf w.earlier c.args.epoch i =
    subst (λ (l : List Account). (i : ℕ) → ¬ IsBookOf l c.args.epoch i) c.deref.ensures.value
    c.in_err-index.ensures.none in
    let other : w.present.epoch ≢ c.args.epoch = λ same.
    c.if-epoch.false (c.epoch.ensures ∙ ap (λ (a : Account). a.epoch) c.account-present.ensures.same ∙ same)
    in
    subst (λ r. IfNone r ((a : Account) → ¬ IsAccountOf c.args.self.now c.args.epoch a))
    (sym c.from_residual.ensures)
    (subst (λ (v : World). (a : Account) → ¬ IsAccountOf v c.args.epoch a) c.self.view_is
    (none_of w c.args.epoch nowhere other))

pub index-requires : goal.index-requires
index-requires c =
    subst (λ (n : ℕ). c.in_ok-index.index < n) c.deref.ensures.len (slice_get_within _ c.in_ok-index.index _
    c.in_ok-index.ensures.found.there)

pub returns-clause-found : goal.returns-clause-found
returns-clause-found c =
    let w = world_of c.self.inside.state in
    let found = subst (λ (l : List Account). IsBookOf l c.args.epoch c.in_ok-index.index)
    c.deref.ensures.value c.in_ok-index.ensures.found in
    let same : found.account ≡ c.account.result.now.account =
    sym (c.account.ensures.same ∙ c.index.ensures ∙ get_or_from_slice_get w.earlier c.in_ok-index.index
    found.account c.index.result.now found.there) in
    subst (λ (a : Account). IsAccountOf c.args.self.now c.args.epoch a) same
    (subst (λ (v : World). IsAccountOf v c.args.epoch found.account) c.self.view_is (earlier_of w c.args.epoch
    c.in_ok-index.index found))
