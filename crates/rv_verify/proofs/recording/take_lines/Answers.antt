-- A turn takes a line more.
use Rattle.std.proofs.Common.{subst, ℕ, List}
use Rattle.rv_replies.specs.Standing.{AddsLine}
use Rattle.rv_verify.specs.Reading.{HasNextPart}
use Rattle.rv_verify.specs.declared.parts.NextPart.{NextPart}
use Rattle.rv_verify.proofs.Recorded.{taken_end, taken_line, taken_none, taken_piece}
use Rattle.rv_verify.proofs.recording.take_lines.Goals as goal

pub returns-in-End-clause-taken : goal.returns-in-End-clause-taken
returns-in-End-clause-taken g c bytes is none =
    let taken = c.loop-turn.invariant.taken bytes is none in
    taken_end taken (subst (λ (n : NextPart). HasNextPart taken.rest
    (g.B.Read.remaining c.next_line.new.reader) c.next_line.new.line.items n) c.in-End.is
    (c.in_ok-next_line.ensures.next taken.rest taken.is_left))

pub loop-turn-preserved : goal.loop-turn-preserved
loop-turn-preserved g c = record {
  taken = λ bytes is none.
      let line = c.next_line.new.line.items in
      let taken = c.loop-turn.invariant.taken bytes is none in
      taken_line taken c.take.new.self (subst (λ (n : NextPart). HasNextPart taken.rest
      (g.B.Read.remaining c.next_line.new.reader) line n) c.in-Line.is
      (c.in_ok-next_line.ensures.next taken.rest taken.is_left))
      (subst (λ (p : List ℕ). AddsLine c.loop-turn.records c.take.new.self p) c.deref.ensures.value
      c.in_ok-take-in-Line.ensures.adds);
  are_new = λ are a empty. c.in_ok-take-in-Line.ensures.stands a empty (c.loop-turn.invariant.are_new are a
      empty);
}

pub loop-turn-init : goal.loop-turn-init
loop-turn-init g c = record {
  taken = λ bytes is none.
      taken_none bytes c.args.records.now (g.B.Read.remaining c.args.reader.now) none is;
  are_new = λ are. are;
}

pub returns-in-Piece-clause-taken : goal.returns-in-Piece-clause-taken
returns-in-Piece-clause-taken g c bytes is none =
    let line = c.next_line.new.line.items in
    let taken = c.loop-turn.invariant.taken bytes is none in
    taken_piece taken c.take-in-Piece.new.self (subst (λ (n : NextPart). HasNextPart taken.rest
    (g.B.Read.remaining c.next_line.new.reader) line n) c.in-Piece.is
    (c.in_ok-next_line.ensures.next taken.rest taken.is_left))
    (subst (λ (p : List ℕ). AddsLine c.loop-turn.records c.take-in-Piece.new.self p)
    c.deref-in-Piece.ensures.value c.in_ok-take-in-Piece.ensures.adds)

pub returns-in-Piece-clause-are_new : goal.returns-in-Piece-clause-are_new
returns-in-Piece-clause-are_new g c are a empty =
    c.in_ok-take-in-Piece.ensures.stands a empty (c.loop-turn.invariant.are_new are a empty)
