-- By what became of the request each finding is that of its account.
use Rattle.std.proofs.Common.{◌≡◌, ◌∙◌, Bool, false, subst, sym}
use Rattle.std.proofs.lemmas.Bool.{false≢true}
use Rattle.std.specs.Prelude.{IsTrue}
use Rattle.rv_replies.specs.findings.Findings.{IsFinding}
use Rattle.rv_replies.proofs.OfFindings.Judged.{impossible, is_instead, kept, of_other_epoch}
use Rattle.rv_replies.proofs.findings.judge.Goals as goal

not_true : (b : Bool) → b ≡ false → IsTrue b → ⊥
not_true b is holds = false≢true (sym is ∙ holds)

pub returns-then-tells_same : goal.returns-then-tells_same
returns-then-tells_same c a legal epoch is =
    subst (IsFinding a c.args.told.now) (sym c.kept_by.ensures)
    (kept a c.args.told.now legal c.args.fate.now is (c.tells_same.ensures.0 c.if-tells_same.true))

pub returns-then-told-epoch : goal.returns-then-told-epoch
returns-then-told-epoch c a legal epoch is =
    of_other_epoch a c.args.told.now legal c.args.fate.now is
    (λ same. not_true c.tells_same.result c.if-tells_same.false (c.tells_same.ensures.1 same))
    (λ same. c.if-told-epoch.true (same ∙ epoch))

pub returns-then-not-may_tell : goal.returns-then-not-may_tell
returns-then-not-may_tell c a legal epoch is =
    impossible a c.args.told.now legal c.args.fate.now is
    (λ same. not_true c.tells_same.result c.if-tells_same.false (c.tells_same.ensures.1 same))
    (c.if-told-epoch.false ∙ sym epoch)
    (λ may. not_true c.may_tell.result c.if-not-may_tell.true (c.may_tell.ensures.1 may))

pub returns : goal.returns
returns c a legal epoch is =
    is_instead a c.args.told.now legal c.args.fate.now is c.instead.result
    (λ same. not_true c.tells_same.result c.if-tells_same.false (c.tells_same.ensures.1 same))
    (c.if-told-epoch.false ∙ sym epoch) (c.may_tell.ensures.0 c.if-not-may_tell.false) c.instead.ensures
