-- A line that is begun with no bytes.
use Rattle.std.proofs.Common.{◌≢◌, ◌++◌, List, ℕ, IfOk, subst, sym}
use Rattle.std.proofs.lemmas.List.Elements.{All-nil}
use Rattle.rv_book.proofs.OfLines.Cutting.{Lacks}
use Rattle.rv_verify.specs.Reading.{HasNextPart}
use Rattle.rv_verify.proofs.parts.next_line.Goals as goal

pub returns : goal.returns
returns g c = record {
  next = λ bytes is. subst (λ (l : List ℕ). IfOk c.more_of_line.result (HasNextPart (l ++ bytes)
      (g.B.Read.remaining c.more_of_line.new.reader) c.more_of_line.new.line.items)) c.clear.ensures.items
      (c.more_of_line.ensures.next bytes is
      (subst (Lacks 10) (sym c.clear.ensures.items) (All-nil (λ byte. byte ≢ 10))));
}
