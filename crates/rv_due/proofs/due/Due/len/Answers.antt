-- The keys of the map rise, so its set has as many.
use Rattle.std.proofs.Common.{sym, ap, ◌∙◌}
use Rattle.std.specs.FinSet.{len}
use Rattle.rv_due.proofs.Rising.{len_rising}
use Rattle.std.proofs.lemmas.List.{length-map}
use Rattle.rv_due.proofs.due.Due.len.Goals as goal

pub returns : goal.returns
returns c =
    c.len.ensures.len ∙ sym (length-map c.self.inside.deadlines.entries (λ e. e.0))
    ∙ sym (len_rising _ c.len.ensures.ordered) ∙ ap len c.self.view_is
