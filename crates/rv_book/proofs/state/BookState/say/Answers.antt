-- What is said of a request is what is kept of its client.
use Rattle.std.proofs.Common.{◌∙◌, ap, subst}
use Rattle.rv_machine.specs.Machines.{Says}
use Rattle.rv_machine.specs.declared.machine.Said.{Said}
use Rattle.rv_book.specs.Saying.{answer_of, said_of}
use Rattle.rv_book.specs.Tables.{account_of, state_of_machine}
use Rattle.rv_book.proofs.Said.{told_as_kept}
use Rattle.rv_book.proofs.state.BookState.say.Goals as goal

pub returns-in-Told : goal.returns-in-Told
returns-in-Told c a says =
    let book = c.args.self.now in
    let entries = (account_of book).entries in
    let told = subst (λ (x : Said). Says (state_of_machine book) x a) c.in-Told.is says in
    ap (answer_of entries) (c.of.ensures ∙ ap (said_of c.in-Told.key) c.get.ensures)
    ∙ told_as_kept entries (state_of_machine book) book.kept.replies c.in-Told.key a c.requires.kept told
