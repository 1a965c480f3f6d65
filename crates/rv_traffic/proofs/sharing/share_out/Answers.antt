-- One share after another.
use Rattle.std.proofs.Common.{◌≡◌, ◌≢◌, ◌∙◌, ap, arith, inl, refl, subst}
use Rattle.std.specs.Prelude.{AllPairs}
use Rattle.rv_hub.specs.Hubs.{hub_terms}
use Rattle.rv_traffic.specs.Views.{WaitLists, traffic_state}
use Rattle.rv_traffic.proofs.Shared.{all_shared, next_at, none_more, none_shared, one_shared}
use Rattle.rv_traffic.proofs.sharing.share_out.Goals as goal

pub loop-share-init : goal.loop-share-init
loop-share-init g c = (
  none_shared _ _ _ (traffic_state c.args.traffic.now) _
      (ap (λ (w : WaitLists). record (traffic_state c.args.traffic.now) { waits = w })
      c.begin.ensures.begins),
  record { terms = refl; journal = refl },
)

pub loop-share-preserved : goal.loop-share-preserved
loop-share-preserved g c =
    let same = c.loop-share.invariant.1 in (
      one_shared c.args.traffic.now.engine.hub.has_journal (hub_terms c.args.traffic.now.engine.hub)
          c.args.now (traffic_state c.args.traffic.now) (traffic_state c.loop-share.traffic)
          (traffic_state c.share_next.new.traffic) c.loop-share._share
          (next_at c.args.traffic.now.engine.hub.has_journal (hub_terms c.args.traffic.now.engine.hub)
          c.args.now _ _ _ _ same.journal same.terms c.if-not-share_next.ensures.shared)
          c.loop-share.invariant.0,
      record {
        terms = c.share_next.ensures.terms.terms ∙ same.terms;
        journal = c.share_next.ensures.terms.journal ∙ same.journal;
      },
    )

pub returns-after-loop-share-clause-shares : goal.returns-after-loop-share-clause-shares
returns-after-loop-share-clause-shares g c =
    all_shared _ _ _ c.args.room (traffic_state c.args.traffic.now) (traffic_state c.loop-share.traffic)
    c.loop-share._share
    (subst (λ (w : WaitLists). AllPairs (λ one other. one ≢ other) w.due) c.begin.ensures.begins
    c.begin.ensures.once) c.loop-share.auto._share-end
    (inl (let is : c.loop-share._share ≡ 4 = omega (
      arith,
      c.loop-share-test.false,
      c.loop-share.auto._share-end,
    ) in is)) c.loop-share.invariant.0

pub returns-then-not-share_next-clause-shares : goal.returns-then-not-share_next-clause-shares
returns-then-not-share_next-clause-shares g c =
    none_more _ _ _ c.args.room (traffic_state c.args.traffic.now) (traffic_state c.loop-share.traffic)
    (traffic_state c.share_next.new.traffic) c.loop-share._share
    (subst (λ (w : WaitLists). AllPairs (λ one other. one ≢ other) w.due) c.begin.ensures.begins
    c.begin.ensures.once) c.loop-share.auto._share-end c.if-not-share_next.ensures.none
    c.loop-share.invariant.0
