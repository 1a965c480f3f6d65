-- The epoch and the opening moment are found where the line has them.
use Rattle.std.proofs.Common.{refl}
use Rattle.rv_book.proofs.OfLines.Heads.{has_epoch, has_opened, has_space, has_word}
use Rattle.rv_book.proofs.lines.account.read_head.Goals as goal

pub returns-in_err-epoch-clause-none : goal.returns-in_err-epoch-clause-none
returns-in_err-epoch-clause-none c none epoch opened has =
    has_space has c.in_ok-fields.fields.now c.in_ok-fields.ensures.some (c.in_err-epoch.ensures.none refl)

pub returns-in_err-opened-clause-none : goal.returns-in_err-opened-clause-none
returns-in_err-opened-clause-none c none epoch opened has =
    has_word has c.in_ok-fields.fields.now c.in_ok-epoch.epoch.now c.in_ok-epoch.fields.now
    c.in_ok-fields.ensures.some c.in_ok-epoch.ensures.first c.in_ok-epoch.ensures.parts
    (c.in_err-opened.ensures.none refl)

pub returns-in_err-epoch-2-clause-none : goal.returns-in_err-epoch-2-clause-none
returns-in_err-epoch-2-clause-none c none epoch opened has =
    c.in_err-epoch-2.ensures.none refl epoch
    (has_epoch has c.in_ok-fields.fields.now c.in_ok-epoch.epoch.now c.in_ok-epoch.fields.now
    c.in_ok-fields.ensures.some c.in_ok-epoch.ensures.first c.in_ok-epoch.ensures.parts)
    has.epoch_fits

pub returns-in_err-opened-2-clause-none : goal.returns-in_err-opened-2-clause-none
returns-in_err-opened-2-clause-none c none epoch opened has =
    c.in_err-opened-2.ensures.none refl opened
    (has_opened has c.in_ok-fields.fields.now c.in_ok-epoch.epoch.now c.in_ok-epoch.fields.now
    c.in_ok-opened.opened.now
    c.in_ok-fields.ensures.some c.in_ok-epoch.ensures.first c.in_ok-epoch.ensures.parts
    c.in_ok-opened.ensures.some)
