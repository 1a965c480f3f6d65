use Rattle.std.proofs.Common.{refl, sym, ◌∙◌, arith}
use Rattle.rv_journal.proofs.Adding.{adds_piece, keeps_front, text_grows, filled_after}
use Rattle.rv_journal.proofs.filled.FilledFile.write_piece.Goals as goal

pub rewrite-requires : goal.rewrite-requires
rewrite-requires g c = record {
  within = λ told. let is = c.requires.ready.filled told in omega (arith, is.filled, c.requires.room);
}

pub returns-in_err-rewrite-clause-adds : goal.returns-in_err-rewrite-clause-adds
returns-in_err-rewrite-clause-adds g c = adds_piece g.D.Device.disk c.args.self.now _ c.args.piece.now
    c.requires.ready c.requires.text c.requires.room c.rewrite.ensures.rewrites

pub returns-in_err-rewrite-clause-front : goal.returns-in_err-rewrite-clause-front
returns-in_err-rewrite-clause-front g c = keeps_front g.D.Device.disk c.args.self.now _ c.args.piece.now
    c.requires.ready c.requires.text c.requires.room c.rewrite.ensures.rewrites

pub returns-clause-adds : goal.returns-clause-adds
returns-clause-adds g c = adds_piece g.D.Device.disk c.args.self.now _ c.args.piece.now
    c.requires.ready c.requires.text c.requires.room c.rewrite.ensures.rewrites

pub returns-clause-front : goal.returns-clause-front
returns-clause-front g c = keeps_front g.D.Device.disk c.args.self.now _ c.args.piece.now
    c.requires.ready c.requires.text c.requires.room c.rewrite.ensures.rewrites

pub returns-clause-stored : goal.returns-clause-stored
returns-clause-stored g c told =
    text_grows g.D.Device.disk c.args.self.now c.args.piece.now (c.requires.ready.filled told) c.requires.text
    c.requires.room c.rewrite.new.device (c.in_ok-rewrite.ensures.stored told)

pub returns-clause-ready : goal.returns-clause-ready
returns-clause-ready g c = record {
  zeros = c.requires.ready.zeros;
  size = c.requires.ready.size;
  behind = c.requires.room;
  filled = λ told_last.
      let told = sym c.rewrite.ensures.rewrites.tells ∙ told_last in
      filled_after g.D.Device.disk c.args.self.now c.args.piece.now (c.requires.ready.filled told)
      c.requires.text c.requires.room c.rewrite.new.device _ refl refl refl (c.in_ok-rewrite.ensures.stored
      told);
}
