-- A poll, and what follows.
use Rattle.rv_host.proofs.Turning.{calls_turn, turns_join}
use Rattle.rv_host.proofs.shell.Shell.turn.Goals as goal

pub returns-in-Ok-clause-turns : goal.returns-in-Ok-clause-turns
returns-in-Ok-clause-turns g c =
    turns_join g.K.Lasting.lasts c.args.self.now.traffic c.poll.new.self.traffic
    c.go_through.new.self.traffic c.args.self.now.account c.poll.new.self.account
    c.go_through.new.self.account
    (calls_turn g.K.Lasting.lasts _ _ _ _ c.poll.ensures.account c.poll.ensures.runs)
    c.go_through.ensures.turns

pub returns-in-Err-clause-turns : goal.returns-in-Err-clause-turns
returns-in-Err-clause-turns g c =
    calls_turn g.K.Lasting.lasts c.args.self.now.traffic c.poll.new.self.traffic _ _
    c.poll.ensures.account c.poll.ensures.runs
