-- All places are those that were written, and after them those that are left.
use Rattle.std.proofs.Common.{◌≡◌, ◌++◌, drop, string_bytes}
use Rattle.rv_book.specs.lines.EntryText.{places_text}
use Rattle.rv_book.proofs.OfLines.Texts.{more_text}
use Rattle.rv_book.proofs.lines.written.places_field.Given as goal

abbrev pub invariant-loop-place : goal.invariant-loop-place
invariant-loop-place l =
    places_text l.fn.first l.more ≡ string_bytes l.field ++ more_text (drop l.place-index l.more)
