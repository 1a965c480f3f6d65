-- Each place may be open again after those before it.
use Rattle.std.proofs.Common.{◌≡◌, [], ◌∙◌, ◌++◌, ◌∷◌, ℕ, Option, true, ap, refl, rules, subst, sym, List}
use Rattle.std.proofs.lemmas.List.{append_assoc}
use Rattle.std.specs.Vec.Iter.{into_iter_items}
use Rattle.rv_session.specs.Clients.{ClientStates}
use Rattle.rv_account.specs.state.State.{OpenPlace}
use Rattle.rv_machine.specs.open_places.Reopening.{MayResume}
use Rattle.rv_machine.specs.open_places.OpenMap.{StandBelow}
use Rattle.rv_session.specs.ClientOrder.{is_above}
use Rattle.rv_machine.proofs.OfOpenPlaces.Fronting.{claimed_below, reopens}
use Rattle.rv_machine.proofs.open_places.table.OpenTable.reopen_all.Goals as goal

pub reopen-requires : goal.reopen-requires
reopen-requires c =
    reopens c.loop-opened.self (into_iter_items c.next.new.self) c.in-Some.opened c.loop-opened.claims
    (subst (λ (t : ClientStates). MayResume (c.loop-opened.self ++ c.in-Some.opened ∷ into_iter_items
    c.next.new.self) t.clients) (sym c.loop-opened.invariant.2)
    (subst (λ (all : List OpenPlace). MayResume all c.args.claims.now.table.clients)
    (sym c.loop-opened.invariant.0 ∙ ap (λ rest. c.loop-opened.self ++ rest) c.in-Some.ensures.steps.0)
    c.requires.may)) c.loop-opened.invariant.3

pub loop-opened-init : goal.loop-opened-init
loop-opened-init c = (
  search rules,
  search rules,
  refl,
  λ place below. ap (λ (o : Option ℕ). is_above o place) c.requires.unclaimed,
)

pub loop-opened-preserved : goal.loop-opened-preserved
loop-opened-preserved c = (
  ap (λ (all : List OpenPlace). all ++ into_iter_items c.next.new.self) c.in_ok-reopen.ensures.ok
      ∙ append_assoc c.loop-opened.self (c.in-Some.opened ∷ []) (into_iter_items c.next.new.self)
      ∙ ap (λ rest. c.loop-opened.self ++ rest) (sym c.in-Some.ensures.steps.0)
      ∙ c.loop-opened.invariant.0,
  search rules,
  c.in_ok-reopen.ensures.table ∙ c.loop-opened.invariant.2,
  subst (λ (all : List OpenPlace). (place : ℕ) → StandBelow all place
      → is_above c.reopen.new.claims.last place ≡ true) (sym c.in_ok-reopen.ensures.ok)
      (claimed_below c.loop-opened.self c.in-Some.opened c.loop-opened.claims.last c.reopen.new.claims.last
      c.loop-opened.invariant.3 c.in_ok-reopen.ensures.last),
)
