-- An event that can be is taken, and another isn't.
use Rattle.std.proofs.Common.{inl, inr}
use Rattle.std.proofs.lemmas.Result.{IfErr-weaker}
use Rattle.rv_hub.specs.dispatcher.Fields.{dispatcher_state}
use Rattle.rv_hub.proofs.Handled.{rest_same}
use Rattle.rv_hub.proofs.handling.handle.Goals as goal

pub returns-in-Ok-clause-refused : goal.returns-in-Ok-clause-refused
returns-in-Ok-clause-refused c =
    IfErr-weaker c.take.result _ _ (λ why no_memory. inr no_memory) c.take.ensures.refused

pub returns-in-Err-clause-rest : goal.returns-in-Err-clause-rest
returns-in-Err-clause-rest c =
    rest_same c.args.has_journal (dispatcher_state c.args.dispatcher.now) (dispatcher_state c.begin.new.self)
    c.begin.ensures.state c.requires.rest

pub returns-in-Err-clause-refused : goal.returns-in-Err-clause-refused
returns-in-Err-clause-refused c = inl c.in-Err.ensures.cannot
