-- The numbers are found where the line has them.
use Rattle.std.proofs.Common.{◌∙◌, List, ℕ, ap, drop, refl, subst, sym}
use Rattle.rv_text.specs.Number.{WritesUpTo}
use Rattle.rv_checkpoint.specs.Fields.{CutsNumber, max_field}
use Rattle.rv_checkpoint.proofs.Cuts.{cut_one}
use Rattle.rv_checkpoint.proofs.head.read_head.Goals as goal

pub returns-in_err-epoch-clause-none : goal.returns-in_err-epoch-clause-none
returns-in_err-epoch-clause-none c none head says =
    let same = ap (drop 8) (sym says.parts ∙ c.in_ok-fields.ensures.some) in
    c.in_err-epoch.ensures.none refl head.epoch says.after
    (subst (λ (l : List ℕ). CutsNumber l head.epoch says.after) same says.epoch)

pub returns-in_err-moment-clause-none : goal.returns-in_err-moment-clause-none
returns-in_err-moment-clause-none c none head says =
    let same = ap (drop 8) (sym says.parts ∙ c.in_ok-fields.ensures.some) in
    let epoch = cut_one (subst (λ (l : List ℕ). CutsNumber l head.epoch says.after) same says.epoch)
    c.in_ok-epoch.ensures.some in
    c.in_err-moment.ensures.none refl head.moment says.field
    (subst (λ (l : List ℕ). CutsNumber l head.moment says.field) epoch.1 says.moment)

pub returns-in_err-length-clause-none : goal.returns-in_err-length-clause-none
returns-in_err-length-clause-none c none head says =
    let same = ap (drop 8) (sym says.parts ∙ c.in_ok-fields.ensures.some) in
    let epoch = cut_one (subst (λ (l : List ℕ). CutsNumber l head.epoch says.after) same says.epoch)
    c.in_ok-epoch.ensures.some in
    let moment = cut_one (subst (λ (l : List ℕ). CutsNumber l head.moment says.field) epoch.1 says.moment)
    c.in_ok-moment.ensures.some in
    c.in_err-length.ensures.none refl head.length
    (subst (λ (l : List ℕ). WritesUpTo max_field l head.length) moment.1 says.length)
