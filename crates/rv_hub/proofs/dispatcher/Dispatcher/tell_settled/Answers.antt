-- Those of one key more are told.
use Rattle.std.proofs.Common.{◌∙◌, arith, length, sym, ap}
use Rattle.std.proofs.lemmas.List.{drop_all}
use Rattle.rv_hub.specs.declared.dispatcher.Dispatcher.{Dispatcher}
use Rattle.rv_hub.proofs.OfDispatcher.KeyByKey.{tells_keys, tells_next_key}
use Rattle.rv_hub.proofs.dispatcher.Dispatcher.tell_settled.Goals as goal

pub loop-at-preserved : goal.loop-at-preserved
loop-at-preserved c =
    let same = c.settled.ensures ∙ ap (λ (d : Dispatcher). d.machine.settled.items)
    c.loop-at.invariant.1.goes.rest in
    let less = c.loop-at-test.true in
    let whole = ap length (same ∙ sym c.settled-at-end.ensures) in (
      c.tell_all.ensures.sound,
      tells_next_key c.args.self.now c.loop-at.self c.tell_all.new.self c.settled.result.now
          c.args.self.now.machine.settled.items c.loop-at.at _ same (omega arith) c.loop-at.invariant.1
          c.tell_all.ensures.tells,
    )

pub returns-clause-tells : goal.returns-clause-tells
returns-clause-tells c =
    let whole = ap length c.settled-at-end.ensures in
    let past = c.loop-at-test.false in
    tells_keys c.args.self.now c.loop-at.self c.args.self.now.machine.settled.items c.loop-at.at
    (drop_all c.loop-at.at c.args.self.now.machine.settled.items (omega arith)) c.loop-at.invariant.1
