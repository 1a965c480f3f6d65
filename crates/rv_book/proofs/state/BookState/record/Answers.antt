-- Where the machine is ahead by an entry, the book is sound once that is recorded and what it told is kept.
use Rattle.std.proofs.Common.{◌∙◌, ap}
use Rattle.rv_book.specs.Operations.{kept_after}
use Rattle.rv_book.specs.Tables.{state_of_machine}
use Rattle.rv_book.proofs.Ahead.{may_keep, recorded_sound}
use Rattle.rv_book.proofs.state.BookState.record.Goals as goal

pub keep_told-requires : goal.keep_told-requires
keep_told-requires c = may_keep c.args.self.now c.args.entry c.requires

pub returns-clause-sound : goal.returns-clause-sound
returns-clause-sound c =
    let book = c.args.self.now in
    recorded_sound book c.args.entry c.requires c.push.new.self c.keep_told.new.kept c.push.ensures.entry
    c.push.ensures.room
    (c.keep_told.ensures
    ∙ ap (λ place. kept_after (state_of_machine book) place c.args.entry book.machine.settled.items
    book.kept.replies) c.len.ensures)
