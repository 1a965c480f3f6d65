-- Lists are compared item by item, and items byte by byte.
use Rattle.std.proofs.Common.{refl, nat_eq}
use Rattle.std.proofs.lemmas.Slice.Eq.{slice_eq-Decides}
use Rattle.std.specs.Cmp.{unsigned_Decides}
use Rattle.std.specs.Cmp.Lexicographic.{pointwise}
use Rattle.rv_replies.proofs.findings.is_same_items.Goals as goal

pub returns : goal.returns
returns c =
    slice_eq-Decides (λ a b. slice_eq-Decides unsigned_Decides a b (pointwise nat_eq a b) refl)
    c.args.items.now c.args.other.now c.eq.result c.eq.ensures
