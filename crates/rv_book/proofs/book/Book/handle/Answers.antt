-- What a verdict shows is its step's.
use Rattle.rv_book.proofs.Words.{◌∙◌, subst, sym, Account, said_in}
use Rattle.rv_book.specs.Steps.{Next}
use Rattle.rv_book.specs.Verdicts.{WasGiven}
use Rattle.rv_book.proofs.Stamping.{gives_stamp, still_given}
use Rattle.rv_book.proofs.book.Book.handle.Goals as goal

pub invariant_of-result : goal.invariant_of-result
invariant_of-result c =
    let gives = gives_stamp c.of-asked.ensures (c.of-before.ensures ∙ c.account.ensures) (c.of.ensures
    ∙ c.account-2.ensures) c.self.invariant c.step.ensures.sound c.requires c.step.ensures.step in
    gives.of_step

pub returns-clause-step : goal.returns-clause-step
returns-clause-step c =
    let gives = gives_stamp c.of-asked.ensures (c.of-before.ensures ∙ c.account.ensures) (c.of.ensures
    ∙ c.account-2.ensures) c.self.invariant c.step.ensures.sound c.requires c.step.ensures.step in
    subst (λ (a : Account). Next a c.args.now c.args.message c.step.new.self.account.account
    (said_in c.of.result.value.account c.step.result)) c.self.view_is gives.step

pub returns-clause-fits : goal.returns-clause-fits
returns-clause-fits c =
    let gives = gives_stamp c.of-asked.ensures (c.of-before.ensures ∙ c.account.ensures) (c.of.ensures
    ∙ c.account-2.ensures) c.self.invariant c.step.ensures.sound c.requires c.step.ensures.step in
    gives.fits

pub returns-clause-given : goal.returns-clause-given
returns-clause-given c =
    let gives = gives_stamp c.of-asked.ensures (c.of-before.ensures ∙ c.account.ensures) (c.of.ensures
    ∙ c.account-2.ensures) c.self.invariant c.step.ensures.sound c.requires c.step.ensures.step in
    gives.given

pub returns-clause-still : goal.returns-clause-still
returns-clause-still c v given =
    let gives = gives_stamp c.of-asked.ensures (c.of-before.ensures ∙ c.account.ensures) (c.of.ensures
    ∙ c.account-2.ensures) c.self.invariant c.step.ensures.sound c.requires c.step.ensures.step in
    still_given gives v (subst (λ (a : Account). WasGiven a v) (sym c.self.view_is) given)
