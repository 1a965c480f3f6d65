-- One frame, answered.
use Rattle.std.proofs.Common.{◌≡◌, ◌∙◌, ◌++◌, ◌∷◌, [], List, ap, refl}
use Rattle.rv_server.specs.declared.fault.WorkFault.TheVariants.{NoMemory, WriteFault}
use Rattle.rv_server.specs.declared.locked.item.Item.{Item}
use Rattle.rv_server.proofs.Answering.{answers_frame, breaks_frame, fault_gives, lacks_room, stopped_asking}
use Rattle.rv_server.proofs.context.WorkerContext.serve_frame.Goals as goal

pub returns-in_err-reserve-clause-fault : goal.returns-in_err-reserve-clause-fault
returns-in_err-reserve-clause-fault g c =
    fault_gives c.from_residual.result (λ fault. fault ≡ NoMemory) _ c.from_residual.ensures.1
    (λ fault is. lacks_room g.W.Write.contents c.args.number c.args.body.now _ _ _ fault is
    c.reserve.ensures.items refl)

pub returns-in_err-told-clause-fault : goal.returns-in_err-told-clause-fault
returns-in_err-told-clause-fault g c =
    fault_gives c.from_residual-in_err-told.result (λ fault. fault ≡ c.in_err-told.field-0.0) _
    c.from_residual-in_err-told.ensures.1
    (λ fault is. stopped_asking g.W.Write.contents c.args.number c.args.body.now _ _ _ _ _ fault is
    c.in_err-told.ensures.none_written c.reserve.ensures.items
    c.in_err-told.ensures.stopped)

pub returns-in_err-item-clause-fault : goal.returns-in_err-item-clause-fault
returns-in_err-item-clause-fault g c =
    fault_gives c.from_residual-in_err-item.result (λ fault. fault ≡ WriteFault c.in_err-item.field-0.0.sent)
    _ c.from_residual-in_err-item.ensures.1
    (λ fault is. breaks_frame g.W.Write.contents c.args.number c.args.body.now _ _ _ _ _ c.in_ok-told.told _
    fault is c.in_ok-told.ensures.none_written
    c.in_ok-told.ensures.told c.in_err-item.ensures.part c.reserve.ensures.items)

pub returns-clause-ok : goal.returns-clause-ok
returns-clause-ok g c =
    answers_frame g.W.Write.contents c.args.number c.args.body.now _ _ _ _ _ c.in_ok-told.told
    c.in_ok-item.item c.in_ok-told.ensures.none_written c.in_ok-told.ensures.told
    c.in_ok-item.ensures.whole (c.push_reserved.ensures.items ∙ ap (λ (l : List Item). l ++ c.in_ok-item.item
    ∷ []) c.reserve.ensures.items)
