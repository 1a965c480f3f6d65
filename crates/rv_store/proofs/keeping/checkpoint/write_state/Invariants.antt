-- The lines that were given went to the sink.
use Rattle.std.proofs.Common.{ℕ, List}
use Rattle.rv_book.specs.lines.Lines.{printed_lines}
use Rattle.rv_checkpoint.specs.Giving.{CanGive, HasGiven, WritesState}
use Rattle.rv_frame.specs.Sink.{SinkTakes}
use Rattle.rv_store.proofs.keeping.checkpoint.write_state.Given as goal

abbrev pub invariant-loop-turn : goal.invariant-loop-turn
invariant-loop-turn g l = record {
  ready : CanGive l.writer;
  state : WritesState l.writer l.fn.state;
  before : List (List ℕ);
  given : HasGiven before l.writer;
  took : SinkTakes g.W.Write.contents l.initial.sink l.sink (printed_lines before);
}
