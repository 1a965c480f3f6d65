-- There is room where there is as much as the message may need.
use Rattle.std.proofs.Common.{subst, sym}
use Rattle.rv_text.specs.declared.message.Message.{Message}
use Rattle.rv_machine.specs.Needing.{IsHello}
use Rattle.rv_book.proofs.RoomMade.{room_by_test}
use Rattle.rv_book.proofs.state.BookState.has_room.Goals as goal

pub returns-in-Request : goal.returns-in-Request
returns-in-Request c test =
    room_by_test c.args.self.now c.args.message.now c.entries_needed.result c.room.result
    c.entries_needed.ensures c.room.ensures test
    (subst (λ (m : Message). IsHello m → ⊥) (sym c.in-Request.is) (λ no. no))

pub returns-in-Cancel : goal.returns-in-Cancel
returns-in-Cancel c test =
    room_by_test c.args.self.now c.args.message.now c.entries_needed-in-Cancel.result c.room-in-Cancel.result
    c.entries_needed-in-Cancel.ensures c.room-in-Cancel.ensures test
    (subst (λ (m : Message). IsHello m → ⊥) (sym c.in-Cancel.is) (λ no. no))
