-- The places rise, so a binary search finds that of a place, or that there is none.
use Rattle.std.proofs.Common.{sym, subst, rules}
use Rattle.std.proofs.lemmas.List.Sorted.{answers_always}
use Rattle.rv_account.specs.state.State.{OpenPlace}
use Rattle.rv_account.specs.state.resume.Checking.{IsFoundAt}
use Rattle.rv_account.proofs.OfState.Resumed.Ordered.{found_by}
use Rattle.rv_account.proofs.state.resume.finding.open_index.Goals as goal

pub returns : goal.returns
returns c =
    let facts = c.binary_search_by_key.ensures in
    let by_place = facts.position (λ (o : OpenPlace). o.place) (answers_always _ _ _
    (λ f a r h called. search rules)) in
    subst (IsFoundAt (λ (o : OpenPlace). o.place) c.args.opens.now c.args.place) (sym c.ok.ensures.value)
    (found_by (λ (o : OpenPlace). o.place) c.args.opens.now c.args.place _ c.requires facts.bound by_place)
