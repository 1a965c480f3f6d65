-- A piece that is no place ends the reading, and each that is one moves it on.
use Rattle.std.proofs.Common.{◌≡◌, ℕ, List, None, arith, rules, subst, sym}
use Rattle.rv_book.proofs.OfLines.Commas.{ListsPlaces, listed_more, piece_is_none, rest_is_none}
use Rattle.rv_book.proofs.lines.entry.read_places.Goals as goal

pub returns-in_err-place-clause-bad : goal.returns-in_err-place-clause-bad
returns-in_err-place-clause-bad c told =
    let none : c.read_place.result ≡ None = grind arith in
    piece_is_none c.loop-piece.invariant c.in-Some.piece.now c.in-Some.after.now c.in-Some.ensures.parts
    c.in-Some.ensures.first (c.read_place.ensures.none none)

pub loop-piece-preserved : goal.loop-piece-preserved
loop-piece-preserved c =
    let says = rw c.in_ok-place.ensures.ok_part at c.read_place.ensures.some in
    subst (λ (places : List ℕ). ListsPlaces c.args.greatest_place c.args.field.now c.in-Some.after.now places)
    (sym c.in_ok-keep.ensures)
    (listed_more c.loop-piece.invariant c.in-Some.piece.now c.in-Some.after.now c.in_ok-place.place
    c.in-Some.ensures.parts c.in-Some.ensures.first says)

pub returns-in_err-place-2-clause-bad : goal.returns-in_err-place-2-clause-bad
returns-in_err-place-2-clause-bad c told =
    let none : c.read_place-2.result ≡ None = grind arith in
    rest_is_none c.loop-piece.invariant (search rules) (c.read_place-2.ensures.none none)
