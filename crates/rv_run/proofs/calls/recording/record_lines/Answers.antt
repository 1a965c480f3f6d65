-- Each line that is settled, recorded and printed moves the run on, and what ends it leaves what the run
-- says.
use Rattle.std.proofs.Common.{Err, List, Ok, arith, string_bytes, subst, ℕ}
use Rattle.std.proofs.lemmas.Result.{err_from_is_err_and}
use Rattle.rv_client.specs.Link.{link}
use Rattle.rv_client.specs.Process.{first_key}
use Rattle.rv_run.specs.calls.Records.{TellsCall, outlets, record_text}
use Rattle.rv_run.proofs.OfCalls.RecordsSoFar.{none_recorded, one_more_recorded, records_short}
use Rattle.rv_run.proofs.OfCalls.RecordsSoFar.{records_to_fault, records_to_word, records_whole}
use Rattle.rv_run.proofs.OfCalls.Settling.{numbers_more}
use Rattle.rv_run.proofs.calls.recording.record_lines.Goals as goal

pub loop-line-init : goal.loop-line-init
loop-line-init g c = record {
  numbers = c.requires.numbers;
  small = omega arith;
  now = λ key is. none_recorded g.O.Write.contents g.R.Read.remaining g.W.Write.contents g.F.Write.contents
      c.args.caller.tries key (link c.args.from.now c.args.to.now) c.args.out.now c.args.file.now c.args.idle
      c.args.input.now is;
}

pub loop-line-preserved : goal.loop-line-preserved
loop-line-preserved g c = record {
  numbers = numbers_more c.loop-line.idle c.in-Ok.next _ _ c.loop-line.invariant.numbers c.in-Ok.ensures.next
      c.in-Some.ensures.shorter;
  small = omega (
    arith,
    c.loop-line.invariant.small,
    c.in_ok-printed-in-Ok.ensures.0,
    c.in-Ok.ensures.short,
    c.in-Some.ensures.shorter,
  );
  now = λ key is. one_more_recorded g.O.Write.contents g.R.Read.remaining g.W.Write.contents
      g.F.Write.contents c.args.caller.tries _ key _ (link c.loop-line.from c.loop-line.to)
      (link c.ask_line.new.from c.ask_line.new.to) c.args.out.now c.loop-line.out c.tell_call.new.out
      c.args.file.now c.loop-line.file c.tell_call.new.file c.loop-line.idle c.in-Ok.next
      c.loop-line.rest.now c.in-Some.line.now c.in-Some.after.now (string_bytes c.in-Ok.asked)
      (string_bytes c.in-Ok.told) c.loop-line.printed c.in_ok-printed-in-Ok.printed
      (c.loop-line.invariant.now key is) c.loop-line.invariant.numbers c.in-Some.ensures.shorter
      c.in-Some.ensures.some c.in-Ok.ensures.next c.in-Ok.ensures.asked c.in-Ok.ensures.settled
      (subst (λ (body : List ℕ). TellsCall g.O.Write.contents g.F.Write.contents
      (record_text body (string_bytes c.in-Ok.told)) (string_bytes c.in-Ok.told) c.loop-line.printed
      (outlets c.loop-line.out c.loop-line.file) (outlets c.tell_call.new.out c.tell_call.new.file)
      (Ok c.in_ok-printed-in-Ok.printed)) c.deref.ensures c.in_ok-printed-in-Ok.ensures);
}

pub returns-in_err-printed-in-Ok : goal.returns-in_err-printed-in-Ok
returns-in_err-printed-in-Ok g c starting epoch before welcomed is =
    let exit = err_from_is_err_and c.from_residual.result c.from_residual.ensures.1 in
    rw (exit.1, exit.2) (records_to_fault g.O.Write.contents g.R.Read.remaining g.W.Write.contents
    g.F.Write.contents starting c.args.caller.tries welcomed
    (c.loop-line.invariant.now (first_key starting epoch) is) c.in-Some.line.now c.in-Some.after.now
    (link c.ask_line.new.from c.ask_line.new.to) c.in-Some.ensures.some (string_bytes c.in-Ok.asked)
    (string_bytes c.in-Ok.told) c.in-Ok.ensures.asked c.in-Ok.ensures.settled c.tell_call.new.out
    c.tell_call.new.file c.in_err-printed-in-Ok.field-0.0 (subst (λ (body : List ℕ). TellsCall
    g.O.Write.contents g.F.Write.contents (record_text body (string_bytes c.in-Ok.told))
    (string_bytes c.in-Ok.told) c.loop-line.printed (outlets c.loop-line.out c.loop-line.file)
    (outlets c.tell_call.new.out c.tell_call.new.file) (Err c.in_err-printed-in-Ok.field-0.0))
    c.deref.ensures c.in_err-printed-in-Ok.ensures))

pub returns-in-Err-Word : goal.returns-in-Err-Word
returns-in-Err-Word g c starting epoch before welcomed is =
    records_to_word g.O.Write.contents g.R.Read.remaining g.W.Write.contents g.F.Write.contents starting
    c.args.caller.tries welcomed (c.loop-line.invariant.now (first_key starting epoch) is)
    c.in-Some.line.now c.in-Some.after.now (link c.ask_line.new.from c.ask_line.new.to)
    c.in-Some.ensures.some c.in-Err-Word.word c.say_word.new.out c.say_word.result
    (rw c.in-Err-Word.field-0-is at c.in-Err-Word.ensures.halted)
    (rw c.in-Err-Word.word-is at c.say_word.ensures)

pub returns-in-Err-NoMemory : goal.returns-in-Err-NoMemory
returns-in-Err-NoMemory g c starting epoch before welcomed is =
    records_short g.O.Write.contents g.R.Read.remaining g.W.Write.contents g.F.Write.contents starting
    c.args.caller.tries welcomed (c.loop-line.invariant.now (first_key starting epoch) is)
    c.in-Some.line.now c.in-Some.after.now (link c.ask_line.new.from c.ask_line.new.to)
    c.in-Some.ensures.some (rw c.in-Err-NoMemory.field-0-is at c.in-Err-NoMemory.ensures.halted)

pub returns : goal.returns
returns g c starting epoch before welcomed is =
    records_whole g.O.Write.contents g.R.Read.remaining g.W.Write.contents g.F.Write.contents starting
    c.args.caller.tries welcomed (c.loop-line.invariant.now (first_key starting epoch) is)
    (c.in_default.ensures.none (cc))
