-- What the run over the lines leaves is told of the input's bytes.
use Rattle.std.proofs.Common.{Err, List, Ok, inr, subst, ℕ}
use Rattle.rv_client.specs.Link.{link}
use Rattle.rv_client.specs.Process.{Starting}
use Rattle.rv_run.specs.calls.CallRuns.{RunsCalls}
use Rattle.rv_run.specs.calls.Calling.{WelcomesOrNot}
use Rattle.rv_book.specs.lines.Lines.{lines}
use Rattle.rv_run.specs.declared.fault.RunFault.TheVariants.{NoMemory, WriteFault}
use Rattle.rv_run.proofs.OfCalls.CallsSoFar.{no_read_fault, not_too_long, ran_ok, ran_to, runs_at_once}
use Rattle.rv_run.proofs.calls.call_run.Goals as goal

pub returns-in-Ok : goal.returns-in-Ok
returns-in-Ok g c =
    let starting : Starting = record {
      client = c.args.client;
      incarnation = c.args.incarnation;
      version =
          c.args.version;
    } in
    let before = link c.args.from.now c.args.to.now in
    let after = link c.call_lines.new.from c.call_lines.new.to in
    let items = c.in_ok-input.input.items in
    let welcomes = subst (λ (s : Starting). WelcomesOrNot g.R.Read.remaining g.W.Write.contents s c.args.tries
    before (link c.say_hello.new.from c.say_hello.new.to) (Ok c.in-Ok.idle)) c.start.ensures
    c.in-Ok.ensures in
    let runs = subst (λ (bytes : List ℕ). RunsCalls g.O.Write.contents g.R.Read.remaining g.W.Write.contents
    starting c.args.tries (lines bytes) before after c.args.out.now c.call_lines.new.out
    c.call_lines.result)
    c.deref.ensures.value (c.call_lines.ensures starting welcomes.0 before welcomes.1 welcomes.2) in
    let read = c.in_ok-input.ensures.all in
    let same = c.in_ok-input.ensures.bytes in
    record {
      ran = ran_ok g.L.Read.remaining g.O.Write.contents g.R.Read.remaining g.W.Write.contents starting
          c.args.tries c.args.lines.now c.read_input.new.source items before after c.args.out.now
          c.call_lines.new.out c.call_lines.result read same runs;
      stopped_writing = λ fault is. ran_to g.L.Read.remaining g.O.Write.contents g.R.Read.remaining
          g.W.Write.contents starting c.args.tries c.args.lines.now c.read_input.new.source items before after
          c.args.out.now c.call_lines.new.out c.call_lines.result read same runs (Err (WriteFault fault)) is;
      lacked_memory = λ is. inr (ran_to g.L.Read.remaining g.O.Write.contents g.R.Read.remaining
          g.W.Write.contents starting c.args.tries c.args.lines.now c.read_input.new.source items before after
          c.args.out.now c.call_lines.new.out c.call_lines.result read same runs (Err NoMemory) is);
      failed_reading = λ is. absurd (no_read_fault g.L.Read.remaining g.O.Write.contents g.R.Read.remaining
          g.W.Write.contents starting c.args.tries c.args.lines.now c.read_input.new.source items before after
          c.args.out.now c.call_lines.new.out c.call_lines.result read same runs is);
      found_too_long = λ is. absurd (not_too_long g.L.Read.remaining g.O.Write.contents g.R.Read.remaining
          g.W.Write.contents starting c.args.tries c.args.lines.now c.read_input.new.source items before after
          c.args.out.now c.call_lines.new.out c.call_lines.result read same runs is);
    }

pub returns : goal.returns
returns g c =
    let starting : Starting = record {
      client = c.args.client;
      incarnation = c.args.incarnation;
      version =
          c.args.version;
    } in
    let before = link c.args.from.now c.args.to.now in
    let after = link c.say_hello.new.from c.say_hello.new.to in
    let items = c.in_ok-input.input.items in
    let turned = subst (λ (s : Starting). WelcomesOrNot g.R.Read.remaining g.W.Write.contents s c.args.tries
    before after (Err c.in-Err.word)) c.start.ensures c.in-Err.ensures in
    let runs = runs_at_once g.O.Write.contents g.R.Read.remaining g.W.Write.contents starting c.args.tries
    (lines items) c.in-Err.word before after c.args.out.now c.print_word.new.out c.print_word.result
    turned c.print_word.ensures.said c.print_word.ensures.took c.print_word.ensures.cut in
    let read = c.in_ok-input.ensures.all in
    let same = c.in_ok-input.ensures.bytes in
    record {
      ran = ran_ok g.L.Read.remaining g.O.Write.contents g.R.Read.remaining g.W.Write.contents starting
          c.args.tries c.args.lines.now c.read_input.new.source items before after c.args.out.now
          c.print_word.new.out c.print_word.result read same runs;
      stopped_writing = λ fault is. ran_to g.L.Read.remaining g.O.Write.contents g.R.Read.remaining
          g.W.Write.contents starting c.args.tries c.args.lines.now c.read_input.new.source items before after
          c.args.out.now c.print_word.new.out c.print_word.result read same runs (Err (WriteFault fault)) is;
      lacked_memory = λ is. inr (ran_to g.L.Read.remaining g.O.Write.contents g.R.Read.remaining
          g.W.Write.contents starting c.args.tries c.args.lines.now c.read_input.new.source items before after
          c.args.out.now c.print_word.new.out c.print_word.result read same runs (Err NoMemory) is);
      failed_reading = λ is. absurd (no_read_fault g.L.Read.remaining g.O.Write.contents g.R.Read.remaining
          g.W.Write.contents starting c.args.tries c.args.lines.now c.read_input.new.source items before after
          c.args.out.now c.print_word.new.out c.print_word.result read same runs is);
      found_too_long = λ is. absurd (not_too_long g.L.Read.remaining g.O.Write.contents g.R.Read.remaining
          g.W.Write.contents starting c.args.tries c.args.lines.now c.read_input.new.source items before after
          c.args.out.now c.print_word.new.out c.print_word.result read same runs is);
    }
