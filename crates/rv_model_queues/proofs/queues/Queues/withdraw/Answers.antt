-- What was taken out of its queue was taken out of the table.
use Rattle.rv_model_queues.proofs.Words.{◌≡◌, ◌<◌, List, length, sym, subst, arith, Queue, queue_at}
use Rattle.std.specs.Prelude.{slice_set}
use Rattle.rv_dual.specs.Withdrawing.{Withdraws}
use Rattle.rv_model_queues.specs.Views.{OnlyQueue, empty_queue}
use Rattle.rv_model_queues.proofs.Slots.{indexed, set_elsewhere, set_here}
use Rattle.rv_model_queues.proofs.queues.Queues.withdraw.Goals as goal

pub returns-clause-withdrew : goal.returns-clause-withdrew
returns-clause-withdrew c =
    let queues = c.self.inside.queues.items in
    let queue = c.args.queue in
    let inside : queue < length queues = omega (arith, c.self.invariant, c.requires) in
    let q = c.withdraw.new.self in
    let old : queue_at queues queue ≡ c.index_mut.result.now = indexed queues queue c.index_mut.result.now
    empty_queue c.index_mut.result.now inside c.index_mut.ensures.value in
    let new : queue_at (slice_set queues queue q) queue ≡ q = set_here queues queue q empty_queue inside in
    subst (λ (l : List Queue). Withdraws (queue_at l queue) (queue_at (slice_set queues queue q) queue)
    c.args.place c.withdraw.result) c.self.view_is
    (subst (λ (p : Queue). Withdraws p (queue_at (slice_set queues queue q) queue) c.args.place
    c.withdraw.result) (sym old)
    (subst (λ (p : Queue). Withdraws c.index_mut.result.now p c.args.place c.withdraw.result) (sym new)
    c.withdraw.ensures))

pub returns-clause-others : goal.returns-clause-others
returns-clause-others c =
    let queues = c.self.inside.queues.items in
    let queue = c.args.queue in
    let q = c.withdraw.new.self in
    subst (λ (l : List Queue). OnlyQueue queue l (slice_set queues queue q)) c.self.view_is
    (λ other apart. set_elsewhere queues queue q empty_queue other apart)
