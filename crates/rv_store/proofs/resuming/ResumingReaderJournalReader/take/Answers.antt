-- Lines of the account are passed over, and what is after them is the account's rest.
use Rattle.std.proofs.Common.{List, ℕ, arith, refl, subst, sym}
use Rattle.rv_store.specs.Joined.{takes_none}
use Rattle.rv_store.specs.Reading.{ReadsTextOn}
use Rattle.rv_store.specs.Resuming.{PassesSome}
use Rattle.rv_store.proofs.Resumed.{each_err, each_on_ok, refuses_part, resumes_part}
use Rattle.rv_store.proofs.resuming.ResumingReaderJournalReader.take.Goals as goal

pub returns-then-left-gt0-clause-taken : goal.returns-then-left-gt0-clause-taken
returns-then-left-gt0-clause-taken c = λ count first before is has.
    let rest = c.after_lines-left.result.1.now in
    resumes_part count first before c.args.lines.now c.in_ok-account.account.now rest c.args.self.now
    c.in_ok-account.ensures.later c.in_ok-account.ensures.first has _ refl c.after_lines-left.ensures
    (subst (λ (l : List ℕ). ReadsTextOn c.args.self.now.reader l c.args.self.now.reader)
    (sym (c.after_lines-left.ensures.none c.if-left-gt0.true)) (takes_none c.args.self.now.reader))

pub returns-clause-taken : goal.returns-clause-taken
returns-clause-taken c = each_on_ok c.take.result _ _ (λ taken count first before is has.
    resumes_part count first before c.args.lines.now c.in_ok-account.account.now
    c.after_lines-left.result.1.now c.args.self.now c.in_ok-account.ensures.later
    c.in_ok-account.ensures.first has _ refl c.after_lines-left.ensures taken) c.take.ensures.taken

pub returns-clause-refused : goal.returns-clause-refused
returns-clause-refused c = each_err c.take.result _ _ (λ why refused count first before is has.
    let rest = c.after_lines-left.result.1.now in
    refuses_part count first before c.args.lines.now c.in_ok-account.account.now rest c.args.self.now
    c.in_ok-account.ensures.later c.in_ok-account.ensures.first has why
    (subst (λ (n : ℕ). PassesSome c.args.self.now.left n c.in_ok-account.account.now rest)
    (omega (arith, c.if-left-gt0.false)) c.after_lines-left.ensures) refused) c.take.ensures.refused
