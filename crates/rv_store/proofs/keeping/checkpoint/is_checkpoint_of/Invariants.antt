-- The lines that were given stand in front of what is left of the text.
use Rattle.std.proofs.Common.{◌≡◌, ◌++◌, ℕ, List}
use Rattle.rv_book.specs.lines.Lines.{printed_lines}
use Rattle.rv_checkpoint.specs.Giving.{CanGive, HasGiven, WritesState}
use Rattle.rv_store.proofs.keeping.checkpoint.is_checkpoint_of.Given as goal

abbrev pub invariant-loop-turn : goal.invariant-loop-turn
invariant-loop-turn l = record {
  ready : CanGive l.writer;
  state : WritesState l.writer l.fn.state;
  before : List (List ℕ);
  given : HasGiven before l.writer;
  parts : l.text ≡ printed_lines before ++ l.rest;
}
