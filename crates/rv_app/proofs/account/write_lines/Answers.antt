-- Each line moves the writing on, and a fault leaves the front of the lines.
use Rattle.std.proofs.Common.{◌∙◌, arith, sym}
use Rattle.std.proofs.lemmas.Result.{err_from_is_err_and}
use Rattle.rv_app.proofs.Writing.{writes_all, writes_front, writes_some, wrote_more, wrote_next}
use Rattle.rv_app.proofs.account.write_lines.Goals as goal

pub loop-entry-preserved : goal.loop-entry-preserved
loop-entry-preserved g c =
    record {
      wrote = wrote_more c.loop-entry.invariant.wrote _ _ c.as_bytes.result.now c.in-Some.entry.now _
          (sym c.in-Some.ensures) (c.as_bytes.ensures.value ∙ c.in-Ok.ensures.text) c.in_ok-line-2.ensures.ok
          c.in_ok-line-2.ensures.count (omega (arith, c.as_bytes.ensures.len));
      unfailed = c.in_ok-line-2.ensures.told ∙ c.loop-entry.invariant.unfailed;
    }

pub returns-in_err-line-2-clause-part : goal.returns-in_err-line-2-clause-part
returns-in_err-line-2-clause-part g c =
    let exit = err_from_is_err_and c.from_residual-in_err-line-2.result
    c.from_residual-in_err-line-2.ensures.1 in
    rw (exit.1, exit.2) (writes_front g.W.Write.contents c.args.sink.now c.loop-entry.sink
    (wrote_next c.loop-entry.invariant.wrote c.as_bytes.result.now c.in-Some.entry.now (sym c.in-Some.ensures)
    (c.as_bytes.ensures.value ∙ c.in-Ok.ensures.text) (omega (arith, c.as_bytes.ensures.len))) _ _
    c.in_err-line-2.ensures.fault c.in_err-line-2.ensures.told)

pub returns-in_err-flush-clause-part : goal.returns-in_err-flush-clause-part
returns-in_err-flush-clause-part g c =
    let exit = err_from_is_err_and c.from_residual-in_err-flush.result c.from_residual-in_err-flush.ensures.1
    in
    rw (exit.1, exit.2) (writes_front g.W.Write.contents c.args.sink.now c.loop-entry.sink
    c.loop-entry.invariant.wrote _ _ c.in_err-flush.ensures.fault c.in_err-flush.ensures.told)

pub returns-in_err-flush-2-clause-part : goal.returns-in_err-flush-2-clause-part
returns-in_err-flush-2-clause-part g c =
    let exit = err_from_is_err_and c.from_residual-in_err-flush-2.result
    c.from_residual-in_err-flush-2.ensures.1 in
    rw (exit.1, exit.2) (writes_front g.W.Write.contents c.args.sink.now c.loop-entry.sink
    c.loop-entry.invariant.wrote _ _ c.in_err-flush-2.ensures.fault c.in_err-flush-2.ensures.told)

pub returns-in_default-entry_line-clause-part : goal.returns-in_default-entry_line-clause-part
returns-in_default-entry_line-clause-part g c =
    writes_some g.W.Write.contents c.args.sink.now c.loop-entry.sink c.loop-entry.invariant.wrote _
    c.in-Some.entry.now (sym c.in-Some.ensures) (c.in_ok-flush.ensures.told
    ∙ c.loop-entry.invariant.unfailed) c.in_ok-flush.ensures.ok

pub returns-clause-all : goal.returns-clause-all
returns-clause-all g c =
    writes_all g.W.Write.contents c.args.sink.now c.loop-entry.sink c.loop-entry.invariant.wrote _
    (sym c.in_default.ensures) (c.in_ok-flush-2.ensures.told ∙ c.loop-entry.invariant.unfailed)
    c.in_ok-flush-2.ensures.ok
