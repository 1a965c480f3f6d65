-- With more room the book is as sound, and there is as much as the message may need.
use Rattle.std.proofs.Common.{refl, subst, arith}
use Rattle.std.proofs.lemmas.Result.{on_ok_weaker}
use Rattle.rv_text.specs.declared.message.Message.{Message}
use Rattle.rv_machine.specs.Needing.{IsHello}
use Rattle.rv_book.specs.declared.state.BookState.{BookState}
use Rattle.rv_book.proofs.RoomMade.{room_for_need, roomier_sound}
use Rattle.rv_book.proofs.state.BookState.grow.Goals as goal

pub returns-in_err-reserve-clause-sound : goal.returns-in_err-reserve-clause-sound
returns-in_err-reserve-clause-sound c =
    roomier_sound c.args.self.now c.requires c.reserve.new.self c.args.self.now.kept c.reserve.ensures.same
    c.reserve.ensures.kept refl

pub returns-in-Hello-clause-sound : goal.returns-in-Hello-clause-sound
returns-in-Hello-clause-sound c =
    roomier_sound c.args.self.now c.requires c.reserve.new.self c.reserve-in-Hello.new.self
    c.reserve.ensures.same c.reserve.ensures.kept c.reserve-in-Hello.ensures.stays

pub returns-in-Hello-clause-room : goal.returns-in-Hello-clause-room
returns-in-Hello-clause-room c =
    let book : BookState = record {
      account = c.reserve.new.self;
      machine = c.args.self.now.machine;
      kept = c.reserve-in-Hello.new.self;
    } in
    on_ok_weaker c.reserve-in-Hello.result
    (λ more. room_for_need book c.args.message.now
    (let enough = c.in_ok-reserve.ensures.room in
    let needed = c.entries_needed-more.ensures in omega (arith, enough, needed)) (λ hello. more))
    c.reserve-in-Hello.ensures.ok

pub returns-in-Request-clause-sound : goal.returns-in-Request-clause-sound
returns-in-Request-clause-sound c =
    roomier_sound c.args.self.now c.requires c.reserve.new.self c.args.self.now.kept c.reserve.ensures.same
    c.reserve.ensures.kept refl

pub returns-in-Request-clause-room : goal.returns-in-Request-clause-room
returns-in-Request-clause-room c =
    let book : BookState = record {
      account = c.reserve.new.self;
      machine = c.args.self.now.machine;
      kept = c.args.self.now.kept;
    } in
    room_for_need book c.args.message.now
    (let enough = c.in_ok-reserve.ensures.room in
    let needed = c.entries_needed-more.ensures in omega (arith, enough, needed))
    (λ hello. absurd (subst (λ (m : Message). IsHello m) c.in-Request.is hello))

pub returns-in-Cancel-clause-sound : goal.returns-in-Cancel-clause-sound
returns-in-Cancel-clause-sound c =
    roomier_sound c.args.self.now c.requires c.reserve.new.self c.args.self.now.kept c.reserve.ensures.same
    c.reserve.ensures.kept refl

pub returns-in-Cancel-clause-room : goal.returns-in-Cancel-clause-room
returns-in-Cancel-clause-room c =
    let book : BookState = record {
      account = c.reserve.new.self;
      machine = c.args.self.now.machine;
      kept = c.args.self.now.kept;
    } in
    room_for_need book c.args.message.now
    (let enough = c.in_ok-reserve.ensures.room in
    let needed = c.entries_needed-more.ensures in omega (arith, enough, needed))
    (λ hello. absurd (subst (λ (m : Message). IsHello m) c.in-Cancel.is hello))
