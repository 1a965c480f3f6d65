-- What the parts of a hub hold.
use Rattle.rv_hub.specs.dispatcher.View.{DispatcherState, DispatcherTerms}
use Rattle.rv_hub.specs.dispatcher.Fields.{IsDispatcherReady, dispatcher_state, dispatcher_terms}
use Rattle.rv_hub.specs.declared.parts.HubParts.{HubParts}
use Rattle.rv_hub.specs.Turns.{IsAtRest}

abbrev pub hub_state : HubParts → DispatcherState
hub_state h = dispatcher_state h.dispatcher

abbrev pub hub_terms : HubParts → DispatcherTerms
hub_terms h = dispatcher_terms h.dispatcher

-- what holds between two events
pub record IsHub (h : HubParts) : Type 0 where
  pub ready : IsDispatcherReady h.dispatcher
  pub at_rest : IsAtRest h.has_journal (hub_state h)
