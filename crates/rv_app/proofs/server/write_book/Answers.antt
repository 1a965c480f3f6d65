-- The account is that of the book.
use Rattle.std.proofs.Common.{◌∙◌, ap, subst, sym}
use Rattle.rv_account.specs.Account.{Account}
use Rattle.rv_book.specs.Legal.{Legal}
use Rattle.rv_book.specs.Limits.{FitsAccount}
use Rattle.rv_app.proofs.server.write_book.Goals as goal

pub returns : goal.returns
returns g c =
    let same = c.account.ensures.same ∙ c.book.ensures.same in
    record {
      account = c.account.result.now.account;
      of_epoch = ap (λ (a : Account). a.epoch) same ∙ c.book.ensures.epoch;
      opened_at = ap (λ (a : Account). a.opened) same ∙ c.book.ensures.moment;
      legal = subst Legal (sym c.account.ensures.same) c.account.ensures.legal;
      fits = subst FitsAccount (sym c.account.ensures.same) c.account.ensures.fits;
      all = c.write_account.ensures.written;
      stopped = c.write_account.ensures.stopped;
    }
