-- The room that was made in its queue was made in the table.
use Rattle.rv_model_queues.proofs.Words.{◌≡◌, ◌<◌, arith}
use Rattle.std.specs.Prelude.{OnErr, OnOk}
use Rattle.rv_model_queues.specs.Meeting.{GrowsTakers}
use Rattle.rv_model_queues.specs.Views.{empty_queue}
use Rattle.rv_model_queues.proofs.Slots.{changed, only_changed}
use Rattle.rv_model_queues.proofs.queues.Queues.reserve_taker.Goals as goal

pub returns-clause-makes : goal.returns-clause-makes
returns-clause-makes c =
    changed c.self.inside.queues.items _ c.args.queue empty_queue c.index_mut.result.now
    c.reserve_taker.new.self
    c.self.view_is (omega (arith, c.self.invariant, c.requires)) c.index_mut.ensures.value
    (λ old new. GrowsTakers old new)
    (record {
      same = c.reserve_taker.ensures.same;
      own = c.reserve_taker.ensures.kept;
      other =
          c.reserve_taker.ensures.givers;
    })

pub returns-clause-room : goal.returns-clause-room
returns-clause-room c =
    changed c.self.inside.queues.items _ c.args.queue empty_queue c.index_mut.result.now
    c.reserve_taker.new.self
    c.self.view_is (omega (arith, c.self.invariant, c.requires)) c.index_mut.ensures.value
    (λ old new. OnOk c.reserve_taker.result (0 < new.taker_room.spare))
    c.reserve_taker.ensures.room

pub returns-clause-full : goal.returns-clause-full
returns-clause-full c =
    changed c.self.inside.queues.items _ c.args.queue empty_queue c.index_mut.result.now
    c.reserve_taker.new.self
    c.self.view_is (omega (arith, c.self.invariant, c.requires)) c.index_mut.ensures.value
    (λ old new. OnErr c.reserve_taker.result (old.taker_room.spare ≡ 0))
    c.reserve_taker.ensures.full

pub returns-clause-others : goal.returns-clause-others
returns-clause-others c =
    only_changed c.self.inside.queues.items _ c.args.queue empty_queue c.index_mut.result.now
    c.reserve_taker.new.self
    c.self.view_is (omega (arith, c.self.invariant, c.requires)) c.index_mut.ensures.value
