-- A tick ends what is due at its moment, and any other act is heard again as the message that made it.
use Rattle.std.proofs.Common.{subst, sym}
use Rattle.rv_account.specs.Limits.{FitsAct}
use Rattle.rv_account.specs.declared.entry.Act.{Act}
use Rattle.rv_machine.specs.Machines.{state_in}
use Rattle.rv_machine.specs.Redoing.{IsRedone, MayRedo, NeedsNoMemory}
use Rattle.rv_machine.proofs.Redoing.{ticked_again}
use Rattle.rv_machine.proofs.tables.Holdings.redo.Goals as goal

pub redo_message-requires-clause-fits : goal.redo_message-requires-clause-fits
redo_message-requires-clause-fits c = subst (λ (does : Act). FitsAct does) c.in-Hello.is c.requires.fits

pub redo_message-requires-clause-goes_on : goal.redo_message-requires-clause-goes_on
redo_message-requires-clause-goes_on c =
    subst (λ (does : Act). MayRedo (state_in c.args.self.now) c.args.moment does) c.in-Hello.is
    c.requires.goes_on

pub redo_message-requires-in-Arrive-clause-fits : goal.redo_message-requires-in-Arrive-clause-fits
redo_message-requires-in-Arrive-clause-fits c =
    subst (λ (does : Act). FitsAct does) c.in-Arrive.is c.requires.fits

pub redo_message-requires-in-Arrive-clause-goes_on : goal.redo_message-requires-in-Arrive-clause-goes_on
redo_message-requires-in-Arrive-clause-goes_on c =
    subst (λ (does : Act). MayRedo (state_in c.args.self.now) c.args.moment does) c.in-Arrive.is
    c.requires.goes_on

pub redo_message-requires-in-Cancel-clause-fits : goal.redo_message-requires-in-Cancel-clause-fits
redo_message-requires-in-Cancel-clause-fits c =
    subst (λ (does : Act). FitsAct does) c.in-Cancel.is c.requires.fits

pub redo_message-requires-in-Cancel-clause-goes_on : goal.redo_message-requires-in-Cancel-clause-goes_on
redo_message-requires-in-Cancel-clause-goes_on c =
    subst (λ (does : Act). MayRedo (state_in c.args.self.now) c.args.moment does) c.in-Cancel.is
    c.requires.goes_on

pub returns-in-Tick-clause-done : goal.returns-in-Tick-clause-done
returns-in-Tick-clause-done c is =
    subst (λ (does : Act). IsRedone c.args.self.now c.elapse.new.self c.args.moment does) (sym c.in-Tick.is)
    (ticked_again c.args.self.now c.elapse.new.self c.args.moment c.elapse.result
    (subst (λ (does : Act). MayRedo (state_in c.args.self.now) c.args.moment does) c.in-Tick.is
    c.requires.goes_on)
    c.requires.time c.elapse.ensures.exact c.elapse.ensures.ticks)

pub returns-in-Hello-clause-done : goal.returns-in-Hello-clause-done
returns-in-Hello-clause-done c is =
    subst (λ (does : Act). IsRedone c.args.self.now c.redo_message.new.self c.args.moment does)
    (sym c.in-Hello.is)
    (c.redo_message.ensures.done is)

pub returns-in-Hello-clause-spare : goal.returns-in-Hello-clause-spare
returns-in-Hello-clause-spare c none =
    c.redo_message.ensures.spare (subst (λ (does : Act). NeedsNoMemory (state_in c.args.self.now) does)
    c.in-Hello.is none)

pub returns-in-Arrive-clause-done : goal.returns-in-Arrive-clause-done
returns-in-Arrive-clause-done c is =
    subst (λ (does : Act). IsRedone c.args.self.now c.redo_message-in-Arrive.new.self c.args.moment does)
    (sym c.in-Arrive.is) (c.redo_message-in-Arrive.ensures.done is)

pub returns-in-Arrive-clause-spare : goal.returns-in-Arrive-clause-spare
returns-in-Arrive-clause-spare c none =
    c.redo_message-in-Arrive.ensures.spare
    (subst (λ (does : Act). NeedsNoMemory (state_in c.args.self.now) does) c.in-Arrive.is none)

pub returns-in-Cancel-clause-done : goal.returns-in-Cancel-clause-done
returns-in-Cancel-clause-done c is =
    subst (λ (does : Act). IsRedone c.args.self.now c.redo_message-in-Cancel.new.self c.args.moment does)
    (sym c.in-Cancel.is) (c.redo_message-in-Cancel.ensures.done is)

pub returns-in-Cancel-clause-spare : goal.returns-in-Cancel-clause-spare
returns-in-Cancel-clause-spare c none =
    c.redo_message-in-Cancel.ensures.spare
    (subst (λ (does : Act). NeedsNoMemory (state_in c.args.self.now) does) c.in-Cancel.is none)
