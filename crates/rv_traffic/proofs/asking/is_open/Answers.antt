-- Whose bytes the hub has is open.
use Rattle.std.proofs.Common.{◌∙◌, ap, sym}
use Rattle.rv_hub.specs.declared.parts.HubParts.{HubParts}
use Rattle.rv_hub.specs.Hubs.{hub_state}
use Rattle.rv_traffic.proofs.asking.is_open.Goals as goal

pub returns-in-Some-clause-yes : goal.returns-in-Some-clause-yes
returns-in-Some-clause-yes c = record {
  wire = c.in-Some.field-0.now;
  there = ap (λ (h : HubParts). (hub_state h).open_wires.wires c.args.number) (sym c.hub.ensures)
      ∙ sym c.in-Some.ensures.wire;
  so = tt;
}
