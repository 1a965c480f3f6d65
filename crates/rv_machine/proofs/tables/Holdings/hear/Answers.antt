-- A message is heard by its kind.
use Rattle.std.proofs.Common.{sym, subst, ℕ}
use Rattle.std.specs.Prelude.{IfOk, option_to_list}
use Rattle.rv_text.specs.declared.message.Message.TheVariants.{Cancel, Hello, Request}
use Rattle.rv_machine.specs.declared.machine.Said.TheVariants as said
use Rattle.rv_machine.specs.Machines.{MovesBy}
use Rattle.rv_machine.proofs.OutcomeMoves.{outcome_is, with_settled}
use Rattle.rv_machine.proofs.tables.Holdings.hear.Goals as goal

pub returns-in-Hello-clause-hears : goal.returns-in-Hello-clause-hears
returns-in-Hello-clause-hears c =
    let old = c.args.self.now in
    let new = c.greet.new.self in
    let in_hello = c.in-Hello in
    outcome_is old new c.clear.new.self c.clear.ensures.items c.args.limits.now c.args.moment
    (Hello in_hello.client in_hello.incarnation in_hello.version)
    (said.Welcome c.epoch.result in_hello.client in_hello.incarnation in_hello.version) c.outcome.result
    c.args.message in_hello.is c.greet.result
    (subst (λ (n : ℕ). IfOk c.greet.result (λ made. MovesBy c.args.limits.now
    (with_settled old c.clear.new.self) new
    c.args.moment (Hello in_hello.client in_hello.incarnation in_hello.version) (option_to_list made)
    (said.Welcome n in_hello.client in_hello.incarnation in_hello.version))) (sym c.epoch.ensures)
    c.greet.ensures.ok)
    c.greet.ensures.err c.outcome.ensures.ok c.outcome.ensures.err

pub returns-in-Request-clause-hears : goal.returns-in-Request-clause-hears
returns-in-Request-clause-hears c =
    let out = c.outcome-in-Request in
    outcome_is c.args.self.now c.request.new.self c.clear.new.self c.clear.ensures.items c.args.limits.now
    c.args.moment
    (Request c.in-Request.key c.in-Request.call) (said.Told c.in-Request.key) out.result c.args.message
    c.in-Request.is c.request.result c.request.ensures.ok c.request.ensures.err out.ensures.ok
    out.ensures.err

pub returns-in-Cancel-clause-hears : goal.returns-in-Cancel-clause-hears
returns-in-Cancel-clause-hears c =
    let out = c.outcome-in-Cancel in
    outcome_is c.args.self.now c.cancel.new.self c.clear.new.self c.clear.ensures.items c.args.limits.now
    c.args.moment
    (Cancel c.in-Cancel.key) (said.Told c.in-Cancel.key) out.result c.args.message c.in-Cancel.is
    c.cancel.result c.cancel.ensures.ok c.cancel.ensures.err out.ensures.ok out.ensures.err
