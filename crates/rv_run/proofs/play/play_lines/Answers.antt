-- Each result moves the play on, and a fault leaves the front of what it prints.
use Rattle.std.proofs.Common.{ap, arith, length, ℕ, List, refl, subst, sym, ◌∙◌}
use Rattle.std.proofs.lemmas.Result.{err_from_is_err_and}
use Rattle.rv_run.specs.Output.{IsShort}
use Rattle.rv_run.specs.play.Turns.{TakesTurn}
use Rattle.rv_run.proofs.OfPlay.Playing.{none_so_far, one_more, prints_front, prints_some}
use Rattle.rv_run.proofs.play.play_lines.Goals as goal

pub loop-line-init : goal.loop-line-init
loop-line-init g c = record {
  so_far = none_so_far _ _ _ _ _ c.requires.begins c.requires.nothing_gathered
      c.requires.nothing_sent;
  unfailed = refl;
}

pub loop-line-preserved : goal.loop-line-preserved
loop-line-preserved g c =
    let turn = c.in-Ok.ensures in
    let text = c.as_bytes.ensures.value in
    let takes = subst (λ (bytes : List ℕ). TakesTurn c.loop-line.world (record {
      line = c.in-Some.line.now;
      came = turn.came;
      text = bytes;
    }) c.play_line.new.world) (sym text) turn.takes in
    record {
      so_far = one_more c.loop-line.invariant.so_far _ _ _ _ (record {
        line = c.in-Some.line.now;
        came =
            turn.came;
        text = c.as_bytes.result.now;
      }) _ c.in-Some.ensures.some takes c.in_ok-line.ensures.ok
          c.in_ok-line.ensures.count
          (subst IsShort (sym text) turn.short) c.in-Some.ensures.shorter;
      unfailed = c.in_ok-line.ensures.told ∙ c.loop-line.invariant.unfailed;
    }

pub returns-in_err-line-clause-part : goal.returns-in_err-line-clause-part
returns-in_err-line-clause-part g c =
    let exit = err_from_is_err_and c.from_residual-in_err-line.result c.from_residual-in_err-line.ensures.1 in
    rw (exit.1, exit.2) (prints_front g.W.Write.contents c.args.sink.now c.loop-line.sink c.loop-line.output
    c.loop-line.invariant.so_far _ _ (c.in_err-line.ensures.cut_before
    (omega (arith, ap length c.as_bytes.ensures.value, c.in-Ok.ensures.short)))
    c.in_err-line.ensures.told)

pub returns-in_err-flush-clause-part : goal.returns-in_err-flush-clause-part
returns-in_err-flush-clause-part g c =
    let exit = err_from_is_err_and c.from_residual.result c.from_residual.ensures.1 in
    rw (exit.1, exit.2) (prints_front g.W.Write.contents c.args.sink.now c.loop-line.sink c.loop-line.output
    c.loop-line.invariant.so_far _ _ c.in_err-flush.ensures.fault c.in_err-flush.ensures.told)

pub returns-in_err-flush-2-clause-part : goal.returns-in_err-flush-2-clause-part
returns-in_err-flush-2-clause-part g c =
    let exit = err_from_is_err_and c.from_residual-in_err-flush-2.result
    c.from_residual-in_err-flush-2.ensures.1 in
    rw (exit.1, exit.2) (prints_front g.W.Write.contents c.args.sink.now c.loop-line.sink c.loop-line.output
    c.loop-line.invariant.so_far _ _ c.in_err-flush-2.ensures.fault c.in_err-flush-2.ensures.told)

pub returns-in_default-play_line-clause-part : goal.returns-in_default-play_line-clause-part
returns-in_default-play_line-clause-part g c =
    prints_some g.W.Write.contents c.args.sink.now c.loop-line.sink c.loop-line.output
    c.loop-line.invariant.so_far _ c.in-Some.line.now c.in-Some.after.now c.in-Some.ensures.some
    (c.in_ok-flush.ensures.told ∙ c.loop-line.invariant.unfailed) c.in_ok-flush.ensures.ok
