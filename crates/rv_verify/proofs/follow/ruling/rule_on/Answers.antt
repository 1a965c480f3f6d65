use Rattle.std.proofs.Common.{◌∙◌, sym}
use Rattle.std.proofs.lemmas.Bool.{false≢true}
use Rattle.rv_machine.specs.Machines.{state_in}
use Rattle.rv_verify.proofs.OfFollow.OfAsked.Closed.{names_closed}
use Rattle.rv_verify.proofs.follow.ruling.rule_on.Goals as goal

pub returns-else-names_open : goal.returns-else-names_open
returns-else-names_open c =
    names_closed (state_in c.args.machine.now) c.args.entry.now c.as_slice.result.now c.as_slice.ensures
    c.in-None.ensures.none (λ all. false≢true (sym c.if-names_open.false ∙ c.names_open.ensures.1 all))
