-- A step leaves the epoch and the opening moment.
use Rattle.std.proofs.Common.{◌∙◌}
use Rattle.rv_book.proofs.Staying.{steps_extend}
use Rattle.rv_app.proofs.opened.OpenedBookDesk.handle.Goals as goal

pub invariant_of-self : goal.invariant_of-self
invariant_of-self g c =
    let extends = steps_extend c.self.inside.book c.handle.new.self c.args.now c.args.message
    c.handle.result.said c.handle.ensures.step in
    (extends.epoch ∙ c.self.invariant.0, extends.opened ∙ c.self.invariant.1)
