-- Nobody is started; the process of the packet's client hears its answer, or memory for it was refused.
use Rattle.rv_world.proofs.OfParts.Words.{◌≡◌, ℕ, Some, refl, sym, subst, List, slice_get, Packet, AreNewest}
use Rattle.rv_world.proofs.OfParts.Words.{started_by, world_of}
use Rattle.std.proofs.lemmas.Option.{slice_get_read}
use Rattle.rv_world.proofs.OfParts.Hearing.{awaited, comes_heard}
use Rattle.rv_world.proofs.OfParts.Refused.{lacks_memory, sent_due}
use Rattle.rv_world.proofs.OfParts.TableWrites.{same_world}
use Rattle.rv_world.specs.declared.parts.event.Event.TheVariants as event
use Rattle.rv_world.proofs.parts.state.WorldState.deliver_answer.Goals as goal

pub returns-in_err-answer-clause-comes : goal.returns-in_err-answer-clause-comes
returns-in_err-answer-clause-comes c =
    let old = c.args.self.now in
    let sent = c.in-Some.packet.now in
    let found = c.in-Some.ensures.lookup in
    let there = subst (λ (l : List Packet). slice_get l c.args.packet ≡ Some sent) c.deref.ensures.value
    (slice_get_read c.deref.result.now _ c.args.packet sent refl found.3.0 found.1) in
    lacks_memory (world_of old) (world_of (record old { held = c.reserve.new.self }))
    (event.ToClient c.args.packet) _ (sent_due (world_of old) c.args.packet sent there)
    (awaited _ (world_of old) c.args.packet sent _ _ there c.process.ensures c.is_none.ensures
    c.if-is_none.false) c.from_residual-in_err-answer.ensures.1
    (same_world _ _ refl refl refl refl refl c.in_ok-reserve.ensures.items refl refl)

pub returns-in_err-reserve-clause-comes : goal.returns-in_err-reserve-clause-comes
returns-in_err-reserve-clause-comes c =
    let old = c.args.self.now in
    let sent = c.in-Some.packet.now in
    let found = c.in-Some.ensures.lookup in
    let there = subst (λ (l : List Packet). slice_get l c.args.packet ≡ Some sent) c.deref.ensures.value
    (slice_get_read c.deref.result.now _ c.args.packet sent refl found.3.0 found.1) in
    lacks_memory (world_of old) (world_of (record old { held = c.reserve.new.self }))
    (event.ToClient c.args.packet) _ (sent_due (world_of old) c.args.packet sent there)
    (awaited _ (world_of old) c.args.packet sent _ _ there c.process.ensures c.is_none.ensures
    c.if-is_none.false) c.from_residual.ensures.1
    (same_world _ _ refl refl refl refl refl c.in_err-reserve.ensures.items refl refl)

pub returns-clause-comes : goal.returns-clause-comes
returns-clause-comes c =
    let old = c.args.self.now in
    let sent = c.in-Some.packet.now in
    let found = c.in-Some.ensures.lookup in
    record {
      sent = sent;
      there = subst (λ (l : List Packet). slice_get l c.args.packet ≡ Some sent) c.deref.ensures.value
          (slice_get_read c.deref.result.now _ c.args.packet sent refl found.3.0 found.1);
      comes = comes_heard _ (world_of old) c.reserve.new.self.items sent c.in_ok-answer.answer
          (world_of c.hear.new.self) c.hear.result _ _
          c.process.ensures c.is_none.ensures c.if-is_none.false c.in_ok-reserve.ensures.items
          c.in_ok-answer.ensures c.hear.ensures.heard;
    }

pub returns-clause-newest : goal.returns-clause-newest
returns-clause-newest c =
    subst (λ (l : List (ℕ × ℕ)). AreNewest l (started_by c.hear.new.self.to_server.items))
    (sym c.hear.ensures.newest)
    (subst (λ v. AreNewest c.args.self.now.clients.newest (started_by v.items)) (sym c.hear.ensures.sent)
    c.requires.sound.newest)
