-- The piece that passes the limit was given, and so was the one that found no memory.
use Rattle.std.proofs.Common.{arith}
use Rattle.std.proofs.lemmas.Result.{err_from_is_err_and}
use Rattle.rv_run.proofs.Giving.{gave_piece}
use Rattle.rv_run.proofs.input.read_input.Goals as goal

pub returns-then-count-len-clause-gave : goal.returns-then-count-len-clause-gave
returns-then-count-len-clause-gave g c =
    gave_piece g.R.Read.remaining 536870913 536936448 c.in_ok-count.count c.loop-input.input.items
    c.read.new.buffer c.args.source.now c.loop-input.source c.read.new.self
    c.loop-input.invariant.given c.in_ok-count.ensures.bytes.0 c.in_ok-count.ensures.count.0
    (omega (
      arith,
      c.if-count-len.true,
      c.len.ensures,
      c.loop-input.input.ok.0,
      c.loop-input.invariant.within,
    ))
    (omega (arith, c.loop-input.input.ok.0, c.loop-input.invariant.within, c.in_ok-count.ensures.count))

pub returns-in_err-extend_from_slice-clause-gave : goal.returns-in_err-extend_from_slice-clause-gave
returns-in_err-extend_from_slice-clause-gave g c =
    let exit = err_from_is_err_and c.from_residual-in_err-extend_from_slice.result
    c.from_residual-in_err-extend_from_slice.ensures.1 in
    rw (exit.1, exit.2) (gave_piece g.R.Read.remaining 0 536870912 c.in_ok-count.count
    c.loop-input.input.items c.read.new.buffer c.args.source.now c.loop-input.source c.read.new.self
    c.loop-input.invariant.given c.in_ok-count.ensures.bytes.0 c.in_ok-count.ensures.count.0 (omega arith)
    (omega (
      arith,
      c.if-count-len.false,
      c.len.ensures,
      c.loop-input.input.ok.0,
      c.loop-input.invariant.within,
    )))
