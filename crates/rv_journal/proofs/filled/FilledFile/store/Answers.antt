use Rattle.rv_journal.proofs.Moments.{weaker}
use Rattle.rv_journal.proofs.Rooming.{adds_on, any_piece, front_on, stored_on}
use Rattle.rv_journal.proofs.filled.FilledFile.store.Goals as goal

pub returns-in_err-make_room-clause-adds : goal.returns-in_err-make_room-clause-adds
returns-in_err-make_room-clause-adds g c = record {
  tells = c.make_room.ensures.text.adds.tells;
  any_moment = λ told. weaker g.D.Device.disk _ _ _ _ (c.make_room.ensures.text.adds.any_moment told)
      (any_piece _ c.args.piece.now);
}

pub returns-in_err-make_room-clause-front : goal.returns-in_err-make_room-clause-front
returns-in_err-make_room-clause-front g c = c.make_room.ensures.text.front

pub returns-in_err-write_piece-clause-front : goal.returns-in_err-write_piece-clause-front
returns-in_err-write_piece-clause-front g c =
    front_on g.D.Device.disk c.args.self.now c.make_room.new.self c.write_piece.new.self
    c.make_room.ensures.text c.write_piece.ensures.front

pub returns-in_err-write_piece-clause-adds : goal.returns-in_err-write_piece-clause-adds
returns-in_err-write_piece-clause-adds g c =
    adds_on g.D.Device.disk c.args.self.now c.make_room.new.self c.write_piece.new.self c.args.piece.now
    c.make_room.ensures.text (λ f. any_piece _ c.args.piece.now f) c.write_piece.ensures.adds

pub returns-clause-stored : goal.returns-clause-stored
returns-clause-stored g c =
    stored_on g.D.Device.disk c.args.self.now c.make_room.new.self c.write_piece.new.self c.args.piece.now
    c.make_room.ensures.text c.in_ok-write_piece.ensures.stored

pub returns-clause-front : goal.returns-clause-front
returns-clause-front g c =
    front_on g.D.Device.disk c.args.self.now c.make_room.new.self c.write_piece.new.self
    c.make_room.ensures.text c.write_piece.ensures.front

pub returns-clause-adds : goal.returns-clause-adds
returns-clause-adds g c =
    adds_on g.D.Device.disk c.args.self.now c.make_room.new.self c.write_piece.new.self c.args.piece.now
    c.make_room.ensures.text (λ f. any_piece _ c.args.piece.now f) c.write_piece.ensures.adds
