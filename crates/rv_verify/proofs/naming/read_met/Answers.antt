-- What the entries of a second reading tell.
use Rattle.std.proofs.Common.{◌<◌, List, ℕ, true, false, arith, length, refl, subst}
use Rattle.std.proofs.Common.{sym}
use Rattle.rv_verify.specs.Reading.{HasNextPart}
use Rattle.rv_verify.specs.Verdicts.{ReadsLongEntry}
use Rattle.rv_verify.specs.declared.parts.NextPart.{NextPart}
use Rattle.rv_verify.proofs.Again.{again_on, here, met_there, no_end, no_piece, none_met}
use Rattle.rv_verify.proofs.naming.read_met.Goals as goal

pub returns-in-Piece : goal.returns-in-Piece
returns-in-Piece g c = record {
  told = λ bytes es is reads more many.
      let again = c.loop-index.invariant bytes es is reads more many in
      let has = subst (λ (n : NextPart). HasNextPart again.rest (g.B.Read.remaining c.next_line.new.reader)
      c.next_line.new.line.items n) c.in-Piece.is (c.in_ok-next_line.ensures.next again.rest again.is_left) in
      absurd (no_piece again (omega (arith, many, c.loop-index-test.true)) has);
}

pub returns-in-End : goal.returns-in-End
returns-in-End g c = record {
  told = λ bytes es is reads more many.
      let again = c.loop-index.invariant bytes es is reads more many in
      let has = subst (λ (n : NextPart). HasNextPart again.rest (g.B.Read.remaining c.next_line.new.reader)
      c.next_line.new.line.items n) c.in-End.is (c.in_ok-next_line.ensures.next again.rest again.is_left) in
      absurd (no_end again (omega (arith, many, c.loop-index-test.true)) has);
}

pub returns-in-Some-true : goal.returns-in-Some-true
returns-in-Some-true g c = record {
  told = λ bytes es is reads more many.
      let again = c.loop-index.invariant bytes es is reads more many in
      let has = subst (λ (n : NextPart). HasNextPart again.rest (g.B.Read.remaining c.next_line.new.reader)
      c.next_line.new.line.items n) c.in-Line.is (c.in_ok-next_line.ensures.next again.rest again.is_left) in
      let at = here again (omega (arith, many, c.loop-index-test.true)) has in
      let says = subst (λ (l : List ℕ). ReadsLongEntry l at.0) (sym c.deref.ensures.value) at.2 in
      let meets = c.in_ok-line_met.ensures.yes (cc) at.0 says in
      record {
        met = true;
        is = refl;
        yes = λ same. met_there c.args.named.now es c.loop-index.index at.0 at.1 meets;
        no = λ same. absurd (cc);
      };
}

pub returns-in-None : goal.returns-in-None
returns-in-None g c = record {
  told = λ bytes es is reads more many.
      let again = c.loop-index.invariant bytes es is reads more many in
      let has = subst (λ (n : NextPart). HasNextPart again.rest (g.B.Read.remaining c.next_line.new.reader)
      c.next_line.new.line.items n) c.in-Line.is (c.in_ok-next_line.ensures.next again.rest again.is_left) in
      let at = here again (omega (arith, many, c.loop-index-test.true)) has in
      let says = subst (λ (l : List ℕ). ReadsLongEntry l at.0) (sym c.deref.ensures.value) at.2 in
      absurd (c.in_ok-line_met.ensures.none (cc) at.0 says);
}

pub loop-index-preserved : goal.loop-index-preserved
loop-index-preserved g c bytes es is reads more many =
    let again = c.loop-index.invariant bytes es is reads more many in
    let has = subst (λ (n : NextPart). HasNextPart again.rest (g.B.Read.remaining c.next_line.new.reader)
    c.next_line.new.line.items n) c.in-Line.is (c.in_ok-next_line.ensures.next again.rest again.is_left) in
    let less : c.loop-index.index < length es = omega (arith, many, c.loop-index-test.true) in
    let at = here again less has in
    let says = subst (λ (l : List ℕ). ReadsLongEntry l at.0) (sym c.deref.ensures.value) at.2 in
    again_on again less has at.0 at.1 (c.in_ok-line_met.ensures.no (cc) at.0 says)

pub returns : goal.returns
returns g c = record {
  told = λ bytes es is reads more many.
      let again = c.loop-index.invariant bytes es is reads more many in
      record {
        met = false;
        is = refl;
        yes = λ same. absurd (cc);
        no = λ same. none_met c.args.named.now es c.loop-index.index _ again
            (omega (arith, many, c.loop-index-test.false));
      };
}
