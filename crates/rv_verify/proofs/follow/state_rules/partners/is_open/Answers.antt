use Rattle.std.proofs.Common.{◌∙◌}
use Rattle.rv_machine.specs.Machines.{state_in}
use Rattle.rv_verify.proofs.OfFollow.OfAsked.Facing.{open_told, some_mapped}
use Rattle.rv_verify.proofs.follow.state_rules.partners.is_open.Goals as goal

pub returns : goal.returns
returns c =
    open_told (state_in c.args.machine.now) c.args.place _ c.is_some.result c.open_at.ensures
    (c.is_some.ensures ∙ some_mapped (λ o. o.now) c.open_at.result)
