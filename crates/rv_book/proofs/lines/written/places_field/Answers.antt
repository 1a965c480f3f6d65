-- The first place is written, and then each of the others after a comma.
use Rattle.std.proofs.Common.{arith, ap, string_bytes, sym, ◌++◌, ◌∙◌}
use Rattle.rv_book.proofs.OfLines.Texts.{more_text, place_written, places_text_is, places_written}
use Rattle.rv_book.specs.lines.EntryText.{places_text}
use Rattle.rv_book.proofs.lines.written.places_field.Goals as goal

pub loop-place-init : goal.loop-place-init
loop-place-init c = places_text_is c.args.first c.args.more.now
    ∙ ap (λ text. text ++ more_text c.args.more.now) (sym c.in_ok-field.ensures.ok)

pub loop-place-preserved : goal.loop-place-preserved
loop-place-preserved c =
    place_written (places_text c.args.first c.args.more.now) (string_bytes c.loop-place.field)
    (string_bytes c.add_place.new.field) c.args.more.now c.loop-place.place-index 0 (omega arith)
    c.loop-place.invariant
    c.in_ok-add_place.ensures

pub returns : goal.returns
returns c = places_written (places_text c.args.first c.args.more.now) (string_bytes c.loop-place.field)
    c.args.more.now c.loop-place.place-index c.loop-place-test.false c.loop-place.invariant
