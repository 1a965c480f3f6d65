-- What is handed over after a gathering is handed on.
use Rattle.std.proofs.Common.{◌∙◌, ℕ, IfOk, List, ap, subst}
use Rattle.std.proofs.lemmas.Result.{IfErr-weaker, IfOk-weaker}
use Rattle.rv_hub.specs.declared.parts.HubParts.{HubParts}
use Rattle.rv_hub.specs.Hubs.{hub_terms}
use Rattle.rv_engine.specs.Engines.{engine_state}
use Rattle.rv_engine.specs.Calls.{CountsMore}
use Rattle.rv_engine.specs.Handing.{HandsOn}
use Rattle.rv_engine.proofs.Through.{handed_through, refused_through}
use Rattle.rv_engine.proofs.handing.hand_on.Goals as goal

pub returns-clause-takes : goal.returns-clause-takes
returns-clause-takes c =
    IfOk-weaker c.hand_over.result _ _ (λ given does. handed_through _ _ (engine_state c.args.parts.now)
    (engine_state c.catch_up.new.parts) c.args.now c.args.event
    c.hand_over.new.parts.hub.dispatcher.entries.items given (engine_state c.hand_over.new.parts)
    c.catch_up.ensures.gathers
    (subst (λ (h : HubParts). HandsOn h.has_journal (hub_terms h) (engine_state c.catch_up.new.parts)
    c.args.now c.args.event c.hand_over.new.parts.hub.dispatcher.entries.items given
    (engine_state c.hand_over.new.parts)) c.catch_up.ensures.hub does)) c.hand_over.ensures.takes

pub returns-clause-refused : goal.returns-clause-refused
returns-clause-refused c =
    IfErr-weaker c.hand_over.result _ _ (λ why is. refused_through (engine_state c.args.parts.now)
    (engine_state c.catch_up.new.parts) c.args.event why (engine_state c.hand_over.new.parts)
    c.catch_up.ensures.gathers c.if-not-is_caught_up.ensures.yes is) c.hand_over.ensures.refused

pub returns-then-not-is_caught_up-clause-refused : goal.returns-then-not-is_caught_up-clause-refused
returns-then-not-is_caught_up-clause-refused c = record {
  gathers = c.catch_up.ensures.gathers;
  some = c.if-not-is_caught_up.ensures.no;
}

pub returns-clause-terms : goal.returns-clause-terms
returns-clause-terms c = c.hand_over.ensures.terms ∙ ap hub_terms c.catch_up.ensures.hub

pub returns-clause-calls : goal.returns-clause-calls
returns-clause-calls c =
    subst (λ (counts : List ℕ). IfOk c.hand_over.result (λ _. CountsMore counts
    c.hand_over.new.parts.hub.dispatcher.entries.items c.hand_over.new.parts.calls))
    c.catch_up.ensures.calls c.hand_over.ensures.calls
