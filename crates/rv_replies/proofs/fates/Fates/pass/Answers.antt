-- What is noted is what the account with the entry tells.
use Rattle.std.proofs.lemmas.Result.{on_ok_weaker}
use Rattle.rv_replies.proofs.Passing.{passes}
use Rattle.rv_replies.proofs.fates.Fates.pass.Goals as goal

pub returns-clause-about : goal.returns-clause-about
returns-clause-about c =
    on_ok_weaker c.note_own.result (λ notes a has about.
    passes c.args.machine.now a c.args.entry.now c.args.self.now c.tell_each.new.self c.note_own.new.self has
    about c.in_ok-tell_each.ensures notes) c.note_own.ensures
