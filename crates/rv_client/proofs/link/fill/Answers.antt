-- What one more read gave follows what was given before.
use Rattle.std.proofs.Common.{rules, ◌≡◌, ◌∙◌, ◌+◌, ◌<◌, ◌≤◌, ◌++◌, ℕ, List, ap, arith, drop, length, refl}
use Rattle.std.proofs.Common.{subst, sym, take}
use Rattle.std.proofs.Math.Seq.{take-append-add}
use Rattle.std.proofs.lemmas.List.{append-nil, length-take-le, take-append-le}
use Rattle.std.proofs.KnownBytes.{Consumes-nil, Consumes-trans}
use Rattle.rv_frame.specs.Source.{SourceGives}
use borrow.Rule.Slice.PartMut.{put_mid}
use Rattle.rv_client.proofs.link.fill.Goals as goal

-- the front of a list whose part after `filled` was written
front_filled : (filled count size : ℕ) (old new : List ℕ) → filled ≤ length old → count ≤ length new
    → take (filled + count) (put_mid filled size old new) ≡ take filled old ++ take count new
front_filled filled count size old new within fewer =
    let front : length (take filled old) ≡ filled = length-take-le filled old within in
    ap (λ n. take (n + count) (put_mid filled size old new)) (sym front)
    ∙ take-append-add (take filled old) (new ++ drop size (drop filled old)) count
    ∙ ap (λ l. take filled old ++ l) (take-append-le count new (drop size (drop filled old)) fewer)

pub loop-filled-preserved : goal.loop-filled-preserved
loop-filled-preserved g c = record {
  within = search rules;
  given = subst (SourceGives g.R.Read.remaining c.args.source.now c.read.new.self)
      (sym (front_filled c.loop-filled.filled c.in_ok-count.count _ c.loop-filled.buffer c.read.new.buffer
      c.loop-filled.invariant.within c.in_ok-count.ensures.count.0))
      (Consumes-trans _ _ _ _ _ c.loop-filled.invariant.given c.in_ok-count.ensures.bytes.0);
  same = c.in_ok-count.ensures.ok.1 ∙ sym c.in_ok-count.ensures.ok.0 ∙ c.loop-filled.invariant.same;
  first = λ none. absurd (c.if-count-eq0.false (omega (arith, none)));
  unfailed = λ some. c.in_ok-count.ensures.ok.1;
}

pub returns-then-count-eq0-clause-fault : goal.returns-then-count-eq0-clause-fault
returns-then-count-eq0-clause-fault g c = record {
  bytes = take c.loop-filled.filled c.loop-filled.buffer;
  fewer = subst (λ n. n < length c.args.buffer.now)
      (sym (length-take-le c.loop-filled.filled c.loop-filled.buffer c.loop-filled.invariant.within))
      (omega (arith, c.loop-filled-test.true, c.loop-filled.auto.buffer));
  given = subst (SourceGives g.R.Read.remaining c.args.source.now c.read.new.self)
      (ap (λ n. take c.loop-filled.filled c.loop-filled.buffer ++ take n c.read.new.buffer)
      c.if-count-eq0.true ∙ append-nil _)
      (Consumes-trans _ _ _ _ _ c.loop-filled.invariant.given c.in_ok-count.ensures.bytes.0);
  stops = (
    search rules,
    record {
      before = sym c.loop-filled.invariant.same ∙ c.in_ok-count.ensures.ok.0;
      after = c.in_ok-count.ensures.ok.1;
    },
  );
}

pub loop-filled-init : goal.loop-filled-init
loop-filled-init g c = record {
  within = omega arith;
  given = Consumes-nil _;
  same = refl;
  first = λ none. refl;
  unfailed = λ some. absurd (omega (arith, some));
}

pub returns-clause-ok : goal.returns-clause-ok
returns-clause-ok g c =
    let works = c.loop-filled.invariant.unfailed
    (omega (arith, c.loop-filled-test.false, c.loop-filled.auto.buffer, c.requires)) in
    (sym c.loop-filled.invariant.same ∙ works, works)
