-- Which line of the step decides for a hello.
use Rattle.rv_machine.proofs.HelloMoves.{moves_again, moves_older, moves_other}
use Rattle.rv_machine.proofs.tables.Holdings.greet.Goals as goal

pub returns-in-Again-clause-ok : goal.returns-in-Again-clause-ok
returns-in-Again-clause-ok c =
    moves_again c.args.limits.now c.args.self.now c.args.moment c.args.client c.args.incarnation
    c.args.version
    c.in-Again.ensures.means

pub returns-in-Older-clause-err : goal.returns-in-Older-clause-err
returns-in-Older-clause-err c =
    moves_older c.args.limits.now c.args.self.now c.args.moment c.args.client c.args.incarnation
    c.args.version
    c.in-Older.current c.in-Older.ensures.means

pub returns-in-OtherVersion-clause-err : goal.returns-in-OtherVersion-clause-err
returns-in-OtherVersion-clause-err c =
    moves_other c.args.limits.now c.args.self.now c.args.moment c.args.client c.args.incarnation
    c.args.version
    c.in-OtherVersion.current c.in-OtherVersion.ensures.means
