-- The lines before the rest are settled and printed, and there is a number for each byte of the rest.
use Rattle.std.proofs.Common.{◌≡◌, ◌≤◌, ◌+◌, ◌*◌, Some, length}
use Rattle.rv_text.specs.declared.message.Key.{Key}
use Rattle.rv_client.specs.Link.{link}
use Rattle.rv_run.specs.calls.Calling.{HasNumbers}
use Rattle.rv_book.specs.lines.Lines.{lines}
use Rattle.rv_run.proofs.OfCalls.CallsSoFar.{SoFar}
use Rattle.rv_run.proofs.calls.call_lines.Given as goal

abbrev pub invariant-loop-line : goal.invariant-loop-line
invariant-loop-line g l = record {
  numbers : HasNumbers l.idle (length l.rest);
  small : l.printed + 65727 * length l.rest ≤ 65727 * length l.input;
  so_far : (key : Key) → l.initial.idle ≡ Some key
      → SoFar g.O.Write.contents g.R.Read.remaining g.W.Write.contents l.caller.tries (lines l.input) key
      (link l.initial.from l.initial.to) (link l.from l.to) l.initial.out l.out l.idle l.rest l.printed;
}

abbrev pub decreases-loop-line : goal.decreases-loop-line
decreases-loop-line g l = length l.rest
