-- The answers of the connection stay.
use Rattle.std.proofs.Common.{◌≡◌, ◌+◌, Some, arith, sym, ap}
use Rattle.rv_server_connections.specs.connection.Traffic.{Traffic, held_count}
use Rattle.rv_server_connections.specs.Table.{get}
use Rattle.rv_server_connections.proofs.Sound.{kept_sound}
use Rattle.rv_server_connections.proofs.slots.Slots.end_input.Goals as goal

pub returns-clause-sound : goal.returns-clause-sound
returns-clause-sound c =
    let s = c.args.self.now in
    let slot = c.slot_mut-slot.result.now in
    let there : get s.slots c.args.connection ≡ Some slot = c.slot_mut-slot.ensures.value in
    let same : held_count c.end_input.new.self ≡ held_count slot.wire = ap held_count c.end_input.ensures in
    kept_sound s c.args.connection slot c.end_input.new.self s.held c.requires.sound there
    (ap (λ (t : Traffic). t.behind) c.end_input.ensures) (omega (arith, same)) (ap (λ k. s.held + k)
    (sym same))
