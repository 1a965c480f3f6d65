-- Each line that is settled and printed moves the run on, and what ends it leaves what the run says.
use Rattle.std.proofs.Common.{arith, string_bytes}
use Rattle.std.proofs.lemmas.Result.{err_from_is_err_and}
use Rattle.rv_client.specs.Link.{link}
use Rattle.rv_client.specs.Process.{first_key}
use Rattle.rv_run.proofs.OfCalls.CallsSoFar.{none_so_far, one_more, runs_short, runs_to_cut, runs_to_word}
use Rattle.rv_run.proofs.OfCalls.CallsSoFar.{runs_whole}
use Rattle.rv_run.proofs.OfCalls.Settling.{numbers_more}
use Rattle.rv_run.proofs.calls.call_lines.Goals as goal

pub loop-line-init : goal.loop-line-init
loop-line-init g c = record {
  numbers = c.requires.numbers;
  small = omega arith;
  so_far = λ key is. none_so_far g.O.Write.contents g.R.Read.remaining g.W.Write.contents c.args.caller.tries
      key (link c.args.from.now c.args.to.now) c.args.out.now c.args.idle c.args.input.now is;
}

pub loop-line-preserved : goal.loop-line-preserved
loop-line-preserved g c = record {
  numbers = numbers_more c.loop-line.idle c.in-Ok.next _ _ c.loop-line.invariant.numbers c.in-Ok.ensures.next
      c.in-Some.ensures.shorter;
  small = omega (
    arith,
    c.loop-line.invariant.small,
    c.in_ok-printed-in-Ok.ensures.count,
    c.in-Ok.ensures.short,
    c.in-Some.ensures.shorter,
  );
  so_far = λ key is. one_more g.O.Write.contents g.R.Read.remaining g.W.Write.contents c.args.caller.tries _
      key _ (link c.loop-line.from c.loop-line.to) (link c.call_line.new.from c.call_line.new.to)
      c.args.out.now c.loop-line.out c.print_line.new.out
      c.loop-line.idle c.in-Ok.next c.loop-line.rest.now c.in-Some.line.now c.in-Some.after.now
      (string_bytes c.in-Ok.text) c.loop-line.printed c.in_ok-printed-in-Ok.printed
      (c.loop-line.invariant.so_far key is) c.loop-line.invariant.numbers c.in-Some.ensures.shorter
      c.in-Some.ensures.some c.in-Ok.ensures.next c.in-Ok.ensures.settled
      c.in_ok-printed-in-Ok.ensures.took c.in_ok-printed-in-Ok.ensures.count;
}

pub returns-in_err-printed-in-Ok : goal.returns-in_err-printed-in-Ok
returns-in_err-printed-in-Ok g c starting epoch before welcomed is =
    let exit = err_from_is_err_and c.from_residual.result c.from_residual.ensures.1 in
    rw (exit.1, exit.2) (runs_to_cut g.O.Write.contents g.R.Read.remaining g.W.Write.contents starting
    c.args.caller.tries welcomed (c.loop-line.invariant.so_far (first_key starting epoch) is)
    c.in-Some.line.now c.in-Some.after.now (string_bytes c.in-Ok.text) (link c.call_line.new.from
    c.call_line.new.to) c.print_line.new.out _ c.in-Some.ensures.some c.in-Ok.ensures.settled
    c.in_err-printed-in-Ok.ensures.cut)

pub returns-in-Err-Word : goal.returns-in-Err-Word
returns-in-Err-Word g c starting epoch before welcomed is =
    runs_to_word g.O.Write.contents g.R.Read.remaining g.W.Write.contents starting c.args.caller.tries
    welcomed (c.loop-line.invariant.so_far (first_key starting epoch) is)
    c.in-Some.line.now c.in-Some.after.now c.in-Err-Word.word (link c.call_line.new.from c.call_line.new.to)
    c.print_word.new.out c.print_word.result c.in-Some.ensures.some
    (rw c.in-Err-Word.field-0-is at c.in-Err-Word.ensures.halted) c.print_word.ensures.said
    (rw c.in-Err-Word.word-is at c.print_word.ensures.took) (rw c.in-Err-Word.word-is at
    c.print_word.ensures.cut)

pub returns-in-Err-NoMemory : goal.returns-in-Err-NoMemory
returns-in-Err-NoMemory g c starting epoch before welcomed is =
    runs_short g.O.Write.contents g.R.Read.remaining g.W.Write.contents starting c.args.caller.tries welcomed
    (c.loop-line.invariant.so_far (first_key starting epoch) is)
    c.in-Some.line.now c.in-Some.after.now (link c.call_line.new.from c.call_line.new.to)
    c.in-Some.ensures.some (rw c.in-Err-NoMemory.field-0-is at c.in-Err-NoMemory.ensures.halted)

pub returns : goal.returns
returns g c starting epoch before welcomed is =
    runs_whole g.O.Write.contents g.R.Read.remaining g.W.Write.contents starting c.args.caller.tries welcomed
    (c.loop-line.invariant.so_far (first_key starting epoch) is) (c.in_default.ensures.none (cc))
