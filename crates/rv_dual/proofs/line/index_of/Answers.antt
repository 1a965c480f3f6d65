-- The slot of a place is that of the request that waits there, or nobody waits there.
use Rattle.std.proofs.Common.{ℕ, Option, sym, subst, arith}
use Rattle.std.specs.Prelude.{IfSome, IfNone}
use Rattle.std.proofs.lemmas.Option.{slice_get_read}
use Rattle.std.specs.VecDeque.{deque_len}
use Rattle.rv_dual.specs.Entries.{PassesAt, PassesNowhere}
use Rattle.rv_dual.specs.Slots.{passes_in, waiting_in}
use Rattle.rv_dual.proofs.Searching.{found_at, if_none, none_at, nowhere, slot_within}
use Rattle.rv_dual.proofs.line.index_of.Goals as goal

pub returns-in_err-index-clause-none : goal.returns-in_err-index-clause-none
returns-in_err-index-clause-none g c = if_none _ (nowhere g.T.StandsInLine.place_of c.args.place
    (g.T.StandsInLine.waits_at c.args.place) (g.met.T.StandsInLine.at_its_place c.args.place)
    c.args.slots.now.items c.in_err-index.ensures.none)

pub index-requires : goal.index-requires
index-requires g c = omega (
  arith,
  c.args.slots.now.ok.0,
  slot_within g.T.StandsInLine.place_of
      c.args.slots.now.items c.args.place c.in_ok-index.index c.in_ok-index.ensures.found,
)

pub returns-clause-found : goal.returns-clause-found
returns-clause-found g c =
    let P : Option ℕ → Type 0 = λ o. IfSome o (PassesAt (passes_in (g.T.StandsInLine.waits_at c.args.place))
    c.args.slots.now.items) in
    subst P (sym c.then_some.ensures) (found_at g.T.StandsInLine.place_of c.args.place
    (g.T.StandsInLine.waits_at c.args.place) (g.met.T.StandsInLine.at_its_place c.args.place)
    c.args.slots.now.items c.in_ok-index.index c.index.result.now c.waits_at.result
    (slice_get_read c.args.slots.now.items (deque_len c.args.slots.now) c.in_ok-index.index
    c.index.result.now c.args.slots.now.ok.0 (omega (
      arith,
      c.args.slots.now.ok.0,
      slot_within
          g.T.StandsInLine.place_of c.args.slots.now.items c.args.place c.in_ok-index.index
          c.in_ok-index.ensures.found,
    )) c.index.ensures) c.waits_at.ensures)

pub returns-clause-none : goal.returns-clause-none
returns-clause-none g c =
    let P : Option ℕ → Type 0 = λ o. IfNone o (PassesNowhere (g.T.StandsInLine.waits_at c.args.place)
    (waiting_in c.args.slots.now.items)) in
    subst P (sym c.then_some.ensures) (none_at g.T.StandsInLine.place_of c.args.place
    (g.T.StandsInLine.waits_at c.args.place) (g.met.T.StandsInLine.at_its_place c.args.place)
    c.args.slots.now.items c.in_ok-index.index c.index.result.now c.waits_at.result c.requires
    c.in_ok-index.ensures.found (slice_get_read c.args.slots.now.items (deque_len c.args.slots.now)
    c.in_ok-index.index c.index.result.now c.args.slots.now.ok.0
    (omega (
      arith,
      c.args.slots.now.ok.0,
      slot_within g.T.StandsInLine.place_of c.args.slots.now.items
          c.args.place c.in_ok-index.index c.in_ok-index.ensures.found,
    )) c.index.ensures) c.waits_at.ensures)
