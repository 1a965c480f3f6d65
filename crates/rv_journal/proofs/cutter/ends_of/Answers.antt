use Rattle.std.proofs.Common.{◌≢◌, ◌<◌, ℕ, List, length, get_or, take, sym, ◌∙◌, ap, subst, arith}
use Rattle.std.specs.List.{All}
use Rattle.std.proofs.lemmas.List.{get_or_past, take_all}
use Rattle.std.proofs.lemmas.List.Elements.{All-more}
use Rattle.rv_journal.proofs.Scan.{stops, at_lf, at_other, text_ends}
use Rattle.rv_journal.proofs.Texts.{all_text}
use Rattle.rv_journal.proofs.cutter.ends_of.Goals as goal
use Rattle.rv_journal.proofs.cutter.ends_of.Goals.{then-byte-eq-LINE_FEED, else-byte-eq-LINE_FEED}

pub returns-then-byte-eq0-clause-within : goal.returns-then-byte-eq0-clause-within
returns-then-byte-eq0-clause-within c = omega (arith, c.loop-i.invariant.0, c.loop-i-test.true)

pub returns-then-byte-eq0-clause-lines : goal.returns-then-byte-eq0-clause-lines
returns-then-byte-eq0-clause-lines c =
    let so_far = c.loop-i.invariant in
    stops c.args.bytes.now c.loop-i.i c.loop-i.lines so_far.1 c.if-byte-eq0.true so_far.2

pub loop-i-preserved : goal.loop-i-preserved
loop-i-preserved c =
    let so_far = c.loop-i.invariant in
    let bytes = c.args.bytes.now in
    let i = c.loop-i.i in
    let text = All-more (λ (byte : ℕ). 0 < byte) bytes i 0 c.loop-i-test.true so_far.1
    (positive (get_or bytes i 0) c.if-byte-eq0.false) in
    elim c.if-byte-eq-LINE_FEED.branch [
      | then-byte-eq-LINE_FEED w ↦ (
        omega (arith, w.lines-is),
        text,
        ap (λ (n : ℕ). take n bytes) w.lines-is ∙ at_lf bytes i
            c.loop-i-test.true w.if-byte-eq-LINE_FEED.true,
      )
      | else-byte-eq-LINE_FEED w ↦ (
        omega (arith, w.lines-is, so_far.0),
        text,
        ap (λ (n : ℕ). take n bytes) w.lines-is ∙ at_other bytes i
            c.loop-i.lines c.loop-i-test.true w.if-byte-eq-LINE_FEED.false so_far.2,
      )
    ]
  where
    positive : (b : ℕ) → b ≢ 0 → 0 < b
    positive b some = omega (arith, some)

pub returns-clause-within : goal.returns-clause-within
returns-clause-within c = omega (arith, c.loop-i.invariant.0, c.loop-i.auto.i-end)

pub returns-clause-lines : goal.returns-clause-lines
returns-clause-lines c =
    let so_far = c.loop-i.invariant in
    stops c.args.bytes.now c.loop-i.i c.loop-i.lines so_far.1 (get_or_past c.args.bytes.now c.loop-i.i 0
    c.loop-i-test.false) so_far.2

pub returns-then-byte-eq0-clause-text : goal.returns-then-byte-eq0-clause-text
returns-then-byte-eq0-clause-text c = sym (text_ends c.args.bytes.now c.loop-i.i c.loop-i.invariant.1
    c.if-byte-eq0.true)

pub returns-clause-text : goal.returns-clause-text
returns-clause-text c = take_all (length c.args.bytes.now) c.args.bytes.now (omega arith) ∙ sym (all_text
    c.args.bytes.now (subst (λ (l : List ℕ). All (λ byte. 0 < byte) l) (take_all c.loop-i.i c.args.bytes.now
    (omega (arith, c.loop-i-test.false))) c.loop-i.invariant.1))
