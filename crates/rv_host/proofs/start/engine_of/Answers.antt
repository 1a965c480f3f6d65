-- A machine that was opened has a state to resume from.
use Rattle.rv_host.proofs.Opened.{opened_resumes}
use Rattle.rv_host.proofs.start.engine_of.Goals as goal

pub engine_over-requires : goal.engine_over-requires
engine_over-requires c = opened_resumes c.in_ok-machine.machine c.args.opening.epoch c.args.opening.first
    c.requires c.in_ok-machine.ensures.state
