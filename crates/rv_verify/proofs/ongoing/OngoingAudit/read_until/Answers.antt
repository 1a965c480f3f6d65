-- A turn reads a line more, or finds the end.
use Rattle.std.proofs.Common.{◌≡◌, ◌++◌, ◌∙◌, Some, ap, refl, subst, sym}
use Rattle.std.proofs.lemmas.List.Elements.{All-nil}
use Rattle.rv_book.proofs.OfLines.Cutting.{Lacks}
use Rattle.rv_verify.specs.Reading.{HasNextPart}
use Rattle.rv_verify.specs.declared.parts.NextPart.{NextPart}
use Rattle.rv_verify.proofs.Running.{not_both, runs_first, runs_on, runs_out, runs_to_fault}
use Rattle.rv_verify.proofs.ongoing.OngoingAudit.read_until.Goals as goal
use Rattle.rv_verify.proofs.ongoing.OngoingAudit.read_until.Goals.{
  else-matches-via-else-matches,
  else-matches-via-then-matches+else-has_fault,
  in-Fault,
  in_default,
}

pub returns-in-Piece-clause-read : goal.returns-in-Piece-clause-read
returns-in-Piece-clause-read g c before bytes has is =
    let line = c.more_of_line.new.line.items in
    let runs = c.loop-turn.invariant.runs before bytes has is in
    let part = subst (λ (n : NextPart). HasNextPart (c.loop-turn.self.piece.items ++ runs.ahead)
    (g.B.Read.remaining c.more_of_line.new.reader) line n)
    c.in-Piece.is (c.in_ok-more_of_line.ensures.next runs.ahead runs.is_left runs.no_lf) in
    runs_out runs (record { stage = c.loop-turn.self.stage; piece = c.more_of_line.new.line }) refl refl
    part.is_next.0 part.is_next.1.no_lf (part.is_left ∙ ap Some part.is_next.2)

pub returns-in-End-clause-read : goal.returns-in-End-clause-read
returns-in-End-clause-read g c before bytes has is =
    let line = c.more_of_line.new.line.items in
    let runs = c.loop-turn.invariant.runs before bytes has is in
    let part = subst (λ (n : NextPart). HasNextPart (c.loop-turn.self.piece.items ++ runs.ahead)
    (g.B.Read.remaining c.more_of_line.new.reader) line n)
    c.in-End.is (c.in_ok-more_of_line.ensures.next runs.ahead runs.is_left runs.no_lf) in
    runs_out runs (record { stage = c.loop-turn.self.stage; piece = c.more_of_line.new.line }) refl refl
    (part.is_next.0 ∙ sym part.is_next.1)
    (subst (Lacks 10) (sym part.is_next.1) (All-nil (λ byte. byte ≡ 10 → ⊥)))
    (part.is_left ∙ ap Some part.is_next.2)

pub loop-turn-init : goal.loop-turn-init
loop-turn-init g c = record {
  ready = c.requires.ready;
  lines = refl;
  runs = λ before bytes has is. runs_first c.args.until before bytes c.args.self.now c.args.records.now
      (g.B.Read.remaining c.args.reader.now) has is;
}

pub returns-then-has_fault-clause-read : goal.returns-then-has_fault-clause-read
returns-then-has_fault-clause-read g c before bytes has is =
    let line = c.more_of_line.new.line.items in
    let runs = c.loop-turn.invariant.runs before bytes has is in
    let part = subst (λ (n : NextPart). HasNextPart (c.loop-turn.self.piece.items ++ runs.ahead)
    (g.B.Read.remaining c.more_of_line.new.reader) line n)
    c.in-Line.is (c.in_ok-more_of_line.ensures.next runs.ahead runs.is_left runs.no_lf) in
    runs_to_fault runs c.take_line.new.self c.take_line.new.records part
    c.in_ok-take_line-in-Line.ensures.read c.in_ok-take_line-in-Line.ensures.piece
    (c.has_fault.ensures.0 c.if-has_fault.true)

pub loop-turn-preserved : goal.loop-turn-preserved
loop-turn-preserved g c = record {
  ready = c.in_ok-take_line-in-Line.ensures.ready;
  lines = c.take_line.ensures.lines ∙ c.loop-turn.invariant.lines;
  runs = λ before bytes has is.
      let line = c.more_of_line.new.line.items in
      let runs = c.loop-turn.invariant.runs before bytes has is in
      let part = subst (λ (n : NextPart). HasNextPart (c.loop-turn.self.piece.items ++ runs.ahead)
      (g.B.Read.remaining c.more_of_line.new.reader) line n)
      c.in-Line.is (c.in_ok-more_of_line.ensures.next runs.ahead runs.is_left runs.no_lf) in
      runs_on runs c.take_line.new.self c.take_line.new.records part
      c.in_ok-take_line-in-Line.ensures.read c.in_ok-take_line-in-Line.ensures.piece
      (λ fault_ends fault. elim c.else-matches.branch [
        | else-matches-via-then-matches+else-has_fault w ↦
            not_both w.has_fault.result (w.has_fault.ensures.1 fault) w.if-has_fault.false
        | else-matches-via-else-matches w ↦ elim c.match-matches.branch [
          | in-Fault v ↦ not_both c.match-matches.matches v.matches-is w.if-matches.false
          | in_default v ↦ v.in_default.not-Fault fault_ends
        ]
      ]);
}
