-- Bytes of whole frames do not begin with a bad length.
use Rattle.std.proofs.Common.{List, ℕ, subst, take}
use Rattle.rv_frame.specs.Cut.{BeginsBad}
use Rattle.rv_frame.proofs.Rows.{front_not_bad}
use Rattle.rv_frame.proofs.held.Held.next.Goals as goal

pub returns-in-Bad-clause-oldest : goal.returns-in-Bad-clause-oldest
returns-in-Bad-clause-oldest c =
    let bad = subst (λ (l : List ℕ). BeginsBad (take c.args.self.now.whole l) c.in-Bad.field-0)
    c.as_slice.ensures c.in-Bad.ensures in
    absurd (front_not_bad c.args.self.now.bytes.items c.args.self.now.whole c.in-Bad.field-0 c.requires.front
    bad)
