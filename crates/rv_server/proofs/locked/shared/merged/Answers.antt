-- The share of a seat that is popped goes from the list to the whole.
use Rattle.std.proofs.Common.{◌≡◌, ◌∙◌, ◌+◌, ◌++◌, ◌∷◌, [], ℕ, List, Option, Some, ap, arith, length}
use Rattle.std.proofs.Common.{length-append, option_to_list, rules, sum, sym}
use Rattle.std.proofs.lemmas.List.Sums.{sum_by_push}
use Rattle.rv_server.proofs.locked.shared.merged.Goals as goal

popped : (before after : List ℕ) (last : Option ℕ) (share : ℕ) → before ≡ after ++ option_to_list last
    → last ≡ Some share → (1 + length after ≡ length before) × (share + sum after ≡ sum before)
popped before after last share whole is =
    let parts : before ≡ after ++ share ∷ [] =
    whole ∙ ap (λ (o : Option ℕ). after ++ option_to_list o) is in (
      omega (arith, ap length parts, length-append after (share ∷ [])),
      omega (arith, ap sum parts, sum_by_push (λ (x : ℕ). x) after share),
    )

pub loop-share-init : goal.loop-share-init
loop-share-init g c =
    let had = popped c.args.seats.items c.pop.new.self.items c.pop.result c.share.inside.share.amount
    c.pop.ensures.items (c.unwrap.ensures ∙ ap Some (sym c.share.view_is)) in
    (omega (arith, had.0), had.1)

pub loop-share-preserved : goal.loop-share-preserved
loop-share-preserved g c =
    let is : c.pop-in-loop-share.result ≡ Some c.in-Some.field-0.share.amount = search rules in
    let had = popped c.loop-share.seats.items c.pop-in-loop-share.new.self.items
    c.pop-in-loop-share.result c.in-Some.field-0.share.amount c.pop-in-loop-share.ensures.items is in (
      search (rules, arith),
      omega (arith, had.1),
    )
