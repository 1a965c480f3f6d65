-- The reply that is made of what is kept is the one that was said.
use Rattle.std.proofs.lemmas.Result.{IfOk-from_err, MatchResult-from_err}
use Rattle.rv_book.proofs.Words.{◌≡◌, ◌∙◌, ap, Account, Answer, Stored}
use Rattle.rv_book.specs.Verdicts.{HasText}
use Rattle.rv_book.specs.declared.verdict.KeptAnswer.TheVariants as said
use Rattle.rv_book.proofs.Saying.{kept_text, kept_there, kept_told, stamp_replied, stamp_says}
use Rattle.rv_book.proofs.book.Book.answer.Goals as goal

pub returns-in-Welcome-clause-ok : goal.returns-in-Welcome-clause-ok
returns-in-Welcome-clause-ok c = stamp_says c.verdict.inside.asked.value c.verdict.inside.before.value.account
    c.verdict.inside.after.value.account c.verdict.inside.said c.args.verdict.now c.verdict.view_is
    (said.Welcome c.in-Welcome.epoch c.in-Welcome.client c.in-Welcome.incarnation c.in-Welcome.version)
    c.in-Welcome.is

pub returns-in-Waiting-clause-ok : goal.returns-in-Waiting-clause-ok
returns-in-Waiting-clause-ok c = stamp_says c.verdict.inside.asked.value c.verdict.inside.before.value.account
    c.verdict.inside.after.value.account c.verdict.inside.said c.args.verdict.now c.verdict.view_is
    (said.Waiting c.in-Waiting.key) c.in-Waiting.is

pub returns-in-Refused-clause-ok : goal.returns-in-Refused-clause-ok
returns-in-Refused-clause-ok c = stamp_says c.verdict.inside.asked.value c.verdict.inside.before.value.account
    c.verdict.inside.after.value.account c.verdict.inside.said c.args.verdict.now c.verdict.view_is
    (said.Refused c.in-Refused.refusal) c.in-Refused.is

pub reply-requires : goal.reply-requires
reply-requires c =
    let same = ap (λ (stored : Stored). stored.account.entries) c.account.ensures
    ∙ ap (λ (a : Account). a.entries) c.self.view_is in
    let tells = stamp_replied c.verdict.inside.asked.value c.verdict.inside.before.value.account
    c.verdict.inside.after.value.account c.verdict.inside.said c.args.verdict.now c.verdict.view_is
    c.in-Replied.key c.in-Replied.kept c.in-Replied.is c.args.self.now.entries c.requires.says in
    kept_there c.args.self.now.entries c.account.result.now.account.entries same c.in-Replied.key
    c.in-Replied.kept c.args.verdict.now.said tells

pub returns-in_ok-reply-in-Replied-clause-ok : goal.returns-in_ok-reply-in-Replied-clause-ok
returns-in_ok-reply-in-Replied-clause-ok c =
    let same = ap (λ (stored : Stored). stored.account.entries) c.account.ensures
    ∙ ap (λ (a : Account). a.entries) c.self.view_is in
    let tells = stamp_replied c.verdict.inside.asked.value c.verdict.inside.before.value.account
    c.verdict.inside.after.value.account c.verdict.inside.said c.args.verdict.now c.verdict.view_is
    c.in-Replied.key c.in-Replied.kept c.in-Replied.is c.args.self.now.entries c.requires.says in
    kept_told c.args.self.now.entries c.account.result.now.account.entries same c.in-Replied.key
    c.in-Replied.kept c.args.verdict.now.said tells _
    c.in_ok-reply-in-Replied.ensures.ok

pub returns-in_err-reply-in-Replied-clause-ok : goal.returns-in_err-reply-in-Replied-clause-ok
returns-in_err-reply-in-Replied-clause-ok c = IfOk-from_err c.from_residual.result
    (λ (answer : Answer). answer ≡ c.args.verdict.now.said) c.from_residual.ensures.0

pub returns-in_err-reply-in-Replied-clause-err : goal.returns-in_err-reply-in-Replied-clause-err
returns-in_err-reply-in-Replied-clause-err c =
    let same = ap (λ (stored : Stored). stored.account.entries) c.account.ensures
    ∙ ap (λ (a : Account). a.entries) c.self.view_is in
    let tells = stamp_replied c.verdict.inside.asked.value c.verdict.inside.before.value.account
    c.verdict.inside.after.value.account c.verdict.inside.said c.args.verdict.now c.verdict.view_is
    c.in-Replied.key c.in-Replied.kept c.in-Replied.is c.args.self.now.entries c.requires.says in
    MatchResult-from_err c.from_residual.result (λ answer. Unit {0})
    (λ failed. HasText c.args.verdict.now.said)
    c.from_residual.ensures.0 (λ failed. kept_text c.args.self.now.entries
    c.account.result.now.account.entries same c.in-Replied.key
    c.in-Replied.kept c.args.verdict.now.said tells
    c.in_err-reply-in-Replied.ensures.err)
