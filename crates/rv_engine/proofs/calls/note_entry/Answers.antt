-- A request that arrived is counted in the place of its call.
use Rattle.std.proofs.Common.{ℕ, List, [], ◌∷◌, ◌∙◌, ap, arith, eqb, subst, sym}
use Rattle.rv_engine.specs.Calls.{CountsMore, is_arrival_at}
use Rattle.rv_engine.proofs.Arrivals.{one_more}
use Rattle.rv_engine.proofs.calls.note_entry.Goals as goal

pub returns-in-Arrive : goal.returns-in-Arrive
returns-in-Arrive c =
    subst (λ (new : List ℕ). CountsMore c.args.counts.now (c.args.entry.now ∷ []) new) (sym c.add_one.ensures)
    (one_more c.args.counts.now c.args.entry.now c.place_of.result
    (omega (arith, c.place_of.ensures.within, c.fits-counts))
    (λ place. ap (is_arrival_at place) c.in-Arrive.is ∙ ap (λ n. eqb n place) (sym c.place_of.ensures.place)))
