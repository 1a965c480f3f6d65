-- One line more is gathered.
use Rattle.std.proofs.Common.{ap, string_bytes, ◌+◌, ◌++◌, ◌∷◌, ◌∙◌, []}
use Rattle.rv_account.specs.declared.entry.Entry.{Entry}
use Rattle.rv_book.specs.lines.Written.{entry_text}
use Rattle.rv_engine.proofs.Gathered.{gathered_next}
use Rattle.rv_engine.proofs.gathering.gather.Goals as goal

pub loop-entry-preserved : goal.loop-entry-preserved
loop-entry-preserved c = (
  ap (λ n. n + 1) c.loop-entry.invariant.0,
  gathered_next (string_bytes c.args.lines.now) (string_bytes c.loop-entry.lines)
      (string_bytes c.add_line.new.lines) c.args.entries.now c.loop-entry.entry-index c.entry-item.result
      c.loop-entry-test.true c.loop-entry.invariant.1
      (c.in-Ok.ensures.added ∙ ap (λ (e : Entry). string_bytes c.loop-entry.lines ++
      (entry_text e ++ 10 ∷ []))
      c.entry-item.is),
)
