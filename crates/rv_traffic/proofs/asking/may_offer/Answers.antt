-- Who may be offered more is open.
use Rattle.std.proofs.Common.{◌∙◌, ap, sym}
use Rattle.std.proofs.lemmas.Bool.{OnTrue_from}
use Rattle.rv_hub.specs.declared.parts.HubParts.{HubParts}
use Rattle.rv_hub.specs.Hubs.{hub_state}
use Rattle.rv_engine.specs.Engines.{engine_state}
use Rattle.rv_traffic.specs.Calls.{MayBeOffered}
use Rattle.rv_traffic.proofs.asking.may_offer.Goals as goal

pub returns-in-Some-clause-yes : goal.returns-in-Some-clause-yes
returns-in-Some-clause-yes c =
    OnTrue_from c.may_offer.result (MayBeOffered (engine_state c.args.engine.now).hub c.args.number)
    (λ offers. record {
      wire = c.in-Some.wire.now;
      there = ap (λ (h : HubParts). (hub_state h).open_wires.wires c.args.number) (sym c.hub.ensures)
          ∙ sym c.in-Some.ensures.wire;
      so = c.may_offer.ensures.0 offers;
    })
