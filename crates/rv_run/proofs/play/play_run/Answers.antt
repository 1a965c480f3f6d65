-- What went out where a play stops, by the bytes that were read.
use Rattle.std.proofs.Common.{inr, IfErr, subst}
use Rattle.std.proofs.lemmas.Result.{on_ok_weaker}
use Rattle.rv_frame.specs.Source.{source_remaining}
use Rattle.rv_run.specs.play.Plays.{PrintsAll, PrintsFront, PrintsSome, StopsPlaying}
use Rattle.rv_run.proofs.Printing.{read_bytes}
use Rattle.rv_run.proofs.play.play_run.Goals as goal

pub returns-clause-played : goal.returns-clause-played
returns-clause-played g c =
    let sink = c.args.sink.now in
    let new = c.play_lines.new.sink in
    on_ok_weaker c.play_lines.result (λ all. record {
      whole_input = c.in_ok-input.ensures.all;
      whole_output = read_bytes (source_remaining g.R.Read.remaining c.args.source.now)
          c.in_ok-input.input.items (λ input. PrintsAll g.W.Write.contents input sink new)
          c.in_ok-input.ensures.bytes (subst (λ input. PrintsAll g.W.Write.contents input sink new)
          c.deref.ensures.value all);
    }) c.play_lines.ensures.all

pub returns-clause-stopped_writing : goal.returns-clause-stopped_writing
returns-clause-stopped_writing g c fault is =
    let sink = c.args.sink.now in
    let new = c.play_lines.new.sink in
    let part = subst (λ r. IfErr r (StopsPlaying g.W.Write.contents c.deref.result.now sink new)) is
    c.play_lines.ensures.part in
    record {
      whole_input = c.in_ok-input.ensures.all;
      front_of_output = read_bytes (source_remaining g.R.Read.remaining c.args.source.now)
          c.in_ok-input.input.items (λ input. PrintsFront g.W.Write.contents input sink new fault.sent)
          c.in_ok-input.ensures.bytes (subst (λ input. PrintsFront g.W.Write.contents input sink new
          fault.sent) c.deref.ensures.value part);
    }

pub returns-clause-lacked_memory : goal.returns-clause-lacked_memory
returns-clause-lacked_memory g c is =
    let sink = c.args.sink.now in
    let new = c.play_lines.new.sink in
    let part = subst (λ r. IfErr r (StopsPlaying g.W.Write.contents c.deref.result.now sink new)) is
    c.play_lines.ensures.part in
    inr (record {
      whole_input = c.in_ok-input.ensures.all;
      some_output = read_bytes (source_remaining g.R.Read.remaining c.args.source.now)
          c.in_ok-input.input.items (λ input. PrintsSome g.W.Write.contents input sink new)
          c.in_ok-input.ensures.bytes (subst (λ input. PrintsSome g.W.Write.contents input sink new)
          c.deref.ensures.value part);
    })
