-- Each place has its item, since all together have theirs; and what was copied so far are the items so far.
use Rattle.std.proofs.Common.{◌≡◌, ◌∙◌, ◌+◌, suc, Some, is_some, ap, arith, subst, sym, take}
use Rattle.std.proofs.Math.Seq.{take-suc}
use Rattle.std.proofs.lemmas.Option.{slice_get-get_or}
use Rattle.rv_account.specs.Account.{items_at}
use Rattle.rv_account.proofs.Items.{item_among, items_more, items_of}
use Rattle.rv_book.proofs.reply_cache.texts.items.Goals as goal

pub item-requires : goal.item-requires
item-requires c =
    let es = c.args.account.now.account.entries in
    let places = c.args.places.now in
    let all = items_of (items_at es places) c.requires in
    ap is_some (item_among es places all.0 c.loop-place.place-index _ all.1 (slice_get-get_or places
    c.loop-place.place-index 0 c.loop-place-test.true)).1

pub loop-place-preserved : goal.loop-place-preserved
loop-place-preserved c =
    let es = c.args.account.now.account.entries in
    let places = c.args.places.now in
    let i = c.loop-place.place-index in
    let next : suc i ≡ i + 1 = omega arith in
    subst (λ n. items_at es (take n places) ≡ Some c.push.new.self.items) next
    (ap (items_at es) (take-suc places i 0 c.loop-place-test.true)
    ∙ items_more es _ _ _ _ c.loop-place.invariant (c.item.ensures ∙ ap Some (sym c.in_ok-copy.ensures.same))
    ∙ ap Some (sym c.in_ok-push.ensures.items))
