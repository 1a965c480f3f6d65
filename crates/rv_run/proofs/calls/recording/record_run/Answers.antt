-- What the run over the lines leaves is told of the input's bytes.
use Rattle.std.proofs.Common.{Err, List, Ok, subst, ℕ}
use Rattle.rv_client.specs.Link.{link}
use Rattle.rv_client.specs.Process.{Starting}
use Rattle.rv_book.specs.lines.Lines.{lines}
use Rattle.rv_run.specs.calls.Calling.{WelcomesOrNot}
use Rattle.rv_run.specs.calls.Records.{RecordsCalls, outlets}
use Rattle.rv_run.proofs.OfCalls.RecordsSoFar.{recorded_run, records_at_once}
use Rattle.rv_run.proofs.calls.recording.record_run.Goals as goal

pub returns-in-Ok : goal.returns-in-Ok
returns-in-Ok g c =
    let starting : Starting = record {
      client = c.args.client;
      incarnation = c.args.incarnation;
      version = c.args.version;
    } in
    let before = link c.args.from.now c.args.to.now in
    let after = link c.record_lines.new.from c.record_lines.new.to in
    let old = outlets c.args.out.now c.args.file.now in
    let new = outlets c.record_lines.new.out c.record_lines.new.file in
    let welcomes = subst (λ (s : Starting). WelcomesOrNot g.R.Read.remaining g.W.Write.contents s c.args.tries
    before (link c.say_hello.new.from c.say_hello.new.to) (Ok c.in-Ok.idle)) c.start.ensures
    c.in-Ok.ensures in
    recorded_run g.L.Read.remaining g.O.Write.contents g.R.Read.remaining g.W.Write.contents
    g.F.Write.contents starting c.args.tries c.args.lines.now c.read_input.new.source
    c.in_ok-input.input.items before after old new c.in_ok-input.ensures.all c.in_ok-input.ensures.bytes
    c.record_lines.result (subst (λ (bytes : List ℕ). RecordsCalls g.O.Write.contents g.R.Read.remaining
    g.W.Write.contents g.F.Write.contents starting c.args.tries (lines bytes) before after old new
    c.record_lines.result) c.deref.ensures.value
    (c.record_lines.ensures starting welcomes.0 before welcomes.1 welcomes.2))

pub returns : goal.returns
returns g c =
    let starting : Starting = record {
      client = c.args.client;
      incarnation = c.args.incarnation;
      version = c.args.version;
    } in
    let before = link c.args.from.now c.args.to.now in
    let after = link c.say_hello.new.from c.say_hello.new.to in
    let items = c.in_ok-input.input.items in
    let turned = subst (λ (s : Starting). WelcomesOrNot g.R.Read.remaining g.W.Write.contents s c.args.tries
    before after (Err c.in-Err.word)) c.start.ensures c.in-Err.ensures in
    recorded_run g.L.Read.remaining g.O.Write.contents g.R.Read.remaining g.W.Write.contents
    g.F.Write.contents starting c.args.tries c.args.lines.now c.read_input.new.source items before after
    (outlets c.args.out.now c.args.file.now) (outlets c.say_word.new.out c.args.file.now)
    c.in_ok-input.ensures.all c.in_ok-input.ensures.bytes c.say_word.result
    (records_at_once g.O.Write.contents g.R.Read.remaining g.W.Write.contents g.F.Write.contents starting
    c.args.tries (lines items) c.in-Err.word before after c.args.out.now c.say_word.new.out c.args.file.now
    c.say_word.result turned c.say_word.ensures)
