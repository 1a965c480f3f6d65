-- What is held of all, and the room for it.
use Rattle.std.proofs.Common.{subst}
use Rattle.rv_hub.specs.declared.parts.HubParts.{HubParts}
use Rattle.rv_hub.specs.Hubs.{hub_state}
use Rattle.rv_server_connections.specs.Connections.{IsTotalHeld, IsTotalUnread}
use Rattle.rv_traffic.specs.Views.{traffic_state}
use Rattle.rv_traffic.proofs.Held.{is_over_then, is_within_then}
use Rattle.rv_traffic.proofs.asking.is_over.Goals as goal

pub returns-clause-yes : goal.returns-clause-yes
returns-clause-yes g c =
    is_over_then (traffic_state c.args.traffic.now) c.args.room c.held-answers.result
    c.unread_count-unread.result c.pending_count-pending.result c.exceed.result
    (subst (λ (h : HubParts). IsTotalHeld (hub_state h).open_wires.wires c.held-answers.result)
    c.hub-hub.ensures c.held-answers.ensures)
    (subst (λ (h : HubParts). IsTotalUnread (hub_state h).open_wires.wires c.unread_count-unread.result)
    c.hub-hub.ensures c.unread_count-unread.ensures) c.pending_count-pending.ensures c.exceed.ensures.yes

pub returns-clause-no : goal.returns-clause-no
returns-clause-no g c =
    is_within_then (traffic_state c.args.traffic.now) c.args.room c.held-answers.result
    c.unread_count-unread.result c.pending_count-pending.result c.exceed.result
    (subst (λ (h : HubParts). IsTotalHeld (hub_state h).open_wires.wires c.held-answers.result)
    c.hub-hub.ensures c.held-answers.ensures)
    (subst (λ (h : HubParts). IsTotalUnread (hub_state h).open_wires.wires c.unread_count-unread.result)
    c.hub-hub.ensures c.unread_count-unread.ensures) c.pending_count-pending.ensures c.exceed.ensures.no
