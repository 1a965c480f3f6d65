-- The machine's tick is that of the account.
use Rattle.std.proofs.Common.{refl, subst, sym}
use Rattle.rv_account.specs.rules.Steps.{Ticks}
use Rattle.rv_book.specs.Tables.{account_of}
use Rattle.rv_book.proofs.Ticked.{ahead, quiet_then, still_ticks, ticks_there}
use Rattle.rv_book.proofs.state.BookState.time_out.Goals as goal

pub record-requires : goal.record-requires
record-requires c =
    let tick = c.elapse-moment.result in
    let made = c.elapse-moment.ensures in
    ahead c.args.self.now c.args.now tick.moment c.requires made.exact c.elapse-moment.new.self made.later
    made.time tick refl made.ticks c.in-Some.entry c.in-Some.is

pub returns-in-Some-clause-quiet : goal.returns-in-Some-clause-quiet
returns-in-Some-clause-quiet c =
    let tick = c.elapse-moment.result in
    let made = c.elapse-moment.ensures in
    quiet_then c.args.self.now c.args.now tick.moment c.requires made.exact c.elapse-moment.new.self
    made.later made.time tick refl made.ticks c.record.new.self c.record.ensures.sound
    c.record.ensures.machine

pub returns-in-Some-clause-ticks : goal.returns-in-Some-clause-ticks
returns-in-Some-clause-ticks c =
    let tick = c.elapse-moment.result in
    let made = c.elapse-moment.ensures in
    subst (Ticks (account_of c.args.self.now) tick.moment) (sym c.record.ensures.recorded)
    (ticks_there c.args.self.now c.args.now tick.moment c.requires made.exact c.elapse-moment.new.self
    made.later made.time tick refl made.ticks c.in-Some.entry c.in-Some.is)

pub returns-in-None-clause-ticks : goal.returns-in-None-clause-ticks
returns-in-None-clause-ticks c =
    let tick = c.elapse-moment.result in
    let made = c.elapse-moment.ensures in
    still_ticks c.args.self.now c.args.now tick.moment c.requires made.exact c.elapse-moment.new.self
    made.later made.time tick refl made.ticks c.in-None.is
