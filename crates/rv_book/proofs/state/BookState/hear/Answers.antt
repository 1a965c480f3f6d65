-- What the machine made of a message is one step of the account.
use Rattle.rv_book.proofs.Heard.{ahead, becomes_still, becomes_there, still_sound}
use Rattle.rv_book.proofs.state.BookState.hear.Goals as goal

pub record-requires : goal.record-requires
record-requires c =
    ahead c.args.self.now c.args.moment c.requires.quiet c.args.message c.hear-entry.new.self
    c.hear-entry.result c.book-limits.result
    c.book-limits.ensures
    c.hear-entry.ensures.hears
    c.in-Some.entry c.in-Some.is c.requires.fits c.requires.room

pub say-requires-in-None : goal.say-requires-in-None
say-requires-in-None c =
    still_sound c.args.self.now c.args.moment c.requires.quiet c.args.message c.hear-entry.new.self
    c.hear-entry.result c.book-limits.result
    c.book-limits.ensures
    c.hear-entry.ensures.hears
    c.in-None.is

pub returns-in-Some-clause-step : goal.returns-in-Some-clause-step
returns-in-Some-clause-step c =
    becomes_there c.args.self.now c.args.moment c.requires.quiet c.args.message c.hear-entry.new.self
    c.hear-entry.result c.book-limits.result
    c.book-limits.ensures
    c.hear-entry.ensures.hears
    c.in-Some.entry c.in-Some.is c.requires.fits c.requires.room c.record.new.self c.record.ensures.recorded
    c.record.ensures.machine c.say.result c.say.ensures

pub returns-in-None-clause-sound : goal.returns-in-None-clause-sound
returns-in-None-clause-sound c =
    still_sound c.args.self.now c.args.moment c.requires.quiet c.args.message c.hear-entry.new.self
    c.hear-entry.result c.book-limits.result
    c.book-limits.ensures
    c.hear-entry.ensures.hears
    c.in-None.is

pub returns-in-None-clause-step : goal.returns-in-None-clause-step
returns-in-None-clause-step c =
    becomes_still c.args.self.now c.args.moment c.requires.quiet c.args.message c.hear-entry.new.self
    c.hear-entry.result c.book-limits.result
    c.book-limits.ensures
    c.hear-entry.ensures.hears
    c.in-None.is c.say-in-None.result c.say-in-None.ensures
