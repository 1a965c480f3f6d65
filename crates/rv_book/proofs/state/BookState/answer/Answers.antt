-- A message for which memory was refused is refused so.
use Rattle.std.proofs.Common.{subst, sym}
use Rattle.rv_book.specs.Operations.{Becomes}
use Rattle.rv_account.specs.Account.{Account}
use Rattle.rv_book.specs.Tables.{account_of}
use Rattle.rv_book.specs.declared.verdict.KeptAnswer as said
use Rattle.rv_text.specs.declared.answer.Refusal.TheVariants.{NoMemory}
use Rattle.rv_book.proofs.Heard.{becomes_lacking}
use Rattle.rv_book.proofs.state.BookState.answer.Goals as goal

pub returns-in-Err-clause-step : goal.returns-in-Err-clause-step
returns-in-Err-clause-step c =
    subst (λ (b : Account). Becomes (account_of c.args.self.now) c.args.moment c.args.message b
    (said.TheVariants.Refused NoMemory)) (sym c.make_room.ensures.same.account)
    (becomes_lacking c.args.self.now c.args.moment c.requires.quiet c.args.message
    (c.in-Err.ensures.lacks c.args.moment))
