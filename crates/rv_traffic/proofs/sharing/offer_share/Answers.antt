-- A share of what was pending is offered.
use Rattle.std.proofs.Common.{◌≡◌, ◌≤◌, ◌∙◌, ℕ, List, ap, drop, length, refl, subst, take}
use Rattle.rv_hub.specs.declared.events.HubEvent.TheVariants as event
use Rattle.rv_engine.specs.Engines.{engine_state}
use Rattle.rv_traffic.specs.links.Table.{link_at, pending_of}
use Rattle.rv_traffic.specs.declared.traffic.TheConstants.{SHARE}
use Rattle.rv_traffic.proofs.Tables.{may_end}
use Rattle.rv_traffic.proofs.WhatCame.{share_offered, share_within}
use Rattle.rv_traffic.proofs.sharing.offer_share.Goals as goal

pub hand-taken-requires-clause-can : goal.hand-taken-requires-clause-can
hand-taken-requires-clause-can g c = may_end (engine_state c.args.traffic.now.engine).hub c.args.number
    c.requires.may

pub advance-requires : goal.advance-requires
advance-requires g c =
    let is : c.share_of-share.result.now
    ≡ take SHARE (pending_of (link_at c.args.traffic.now.links.table.items c.args.number)) =
    c.share_of-share.ensures ∙ ap (take SHARE) c.pending.ensures in
    share_within (pending_of (link_at c.args.traffic.now.links.table.items c.args.number)) SHARE
    c.at_most-count.result
    (subst (λ (l : List ℕ). c.at_most-count.result ≤ length l) is c.at_most-count.ensures.within)

pub returns-clause-offers : goal.returns-clause-offers
returns-clause-offers g c =
    let is : c.share_of-share.result.now
    ≡ take SHARE (pending_of (link_at c.args.traffic.now.links.table.items c.args.number)) =
    c.share_of-share.ensures ∙ ap (take SHARE) c.pending.ensures in
    record {
      may = c.requires.may;
      some = c.requires.some;
      what = event.Came c.args.number c.share_of-share.result;
      given = c.hand-taken.result;
      hands = record {
        made = c.hand-taken.new.self.hub.dispatcher.entries.items;
        hands = c.hand-taken.ensures.takes;
      };
      link = share_offered c.args.traffic.now.links.table.items c.advance.new.self.table.items c.args.number
          (event.Came c.args.number c.share_of-share.result) c.hand-taken.result c.at_most-count.result
          c.requires.some (refl, is)
          (subst (λ (l : List ℕ). c.at_most-count.result ≤ length l) is c.at_most-count.ensures.within)
          (subst (λ (l : List ℕ). drop c.at_most-count.result l ≡ drop c.hand-taken.result l) is
          c.at_most-count.ensures.same) c.advance.ensures.pends c.advance.ensures.others;
    }
