-- The entry and the line went out, or a part of one of them.
use Rattle.std.proofs.Common.{[], ◌∷◌, ap, arith, length, length-append}
use Rattle.rv_run.proofs.OfCalls.RecordsSoFar.{took_or_cut}
use Rattle.rv_run.proofs.calls.recording.write_call.Goals as goal

pub returns-in-Ok-write_line : goal.returns-in-Ok-write_line
returns-in-Ok-write_line g c recorded text entry_is line_is = (
  omega (arith, c.in-Ok-write_line.ensures.count, ap length line_is, length-append text (10 ∷ [])),
  c.in-Ok.ensures.took recorded entry_is,
  c.in-Ok-write_line.ensures.took text line_is,
)

pub returns-in-Err-write_line : goal.returns-in-Err-write_line
returns-in-Err-write_line g c recorded text entry_is line_is =
    (c.in-Ok.ensures.took recorded entry_is, c.in-Err-write_line.ensures.cut text line_is)

pub returns-in-Err : goal.returns-in-Err
returns-in-Err g c recorded text entry_is line_is = (
  c.in-Err.ensures.stops recorded entry_is,
  took_or_cut g.O.Write.contents text c.args.printed c.args.out.now c.write_line-in-Err.new.out
      c.write_line-in-Err.result (c.write_line-in-Err.ensures.took text line_is)
      (c.write_line-in-Err.ensures.cut text line_is),
)
