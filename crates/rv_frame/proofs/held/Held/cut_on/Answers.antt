-- The frames of the piece join those before it.
use Rattle.std.proofs.Common.{List, ℕ, ap, arith, drop, length, refl, subst, sym, take, ◌+◌, ◌≡◌, ◌∙◌}
use Rattle.std.proofs.lemmas.List.{length-take-le, take-take, take_rest}
use Rattle.rv_frame.specs.Held.{CutAt, FrontIsRow}
use Rattle.rv_frame.proofs.Rows.{bad_ends, front_alone, fronts_join, grows_by, if_none, if_some_held}
use Rattle.rv_frame.proofs.held.Held.cut_on.Goals as goal

pub returns-then-is_some-clause-sound : goal.returns-then-is_some-clause-sound
returns-then-is_some-clause-sound c =
    let held = c.args.self.now in
    let at = subst (λ (l : List ℕ). CutAt l c.cut-more.result.0 c.cut-more.result.1)
    (take_rest c.as_slice.result.now held.whole ∙ ap (drop held.whole) c.as_slice.ensures)
    c.cut-more.ensures in
    let front = fronts_join held.bytes.items held.whole c.cut-more.result.0 c.requires.front at.front in
    let cut = c.truncate.ensures.items in
    record {
      front = subst (λ (l : List ℕ). FrontIsRow l (held.whole + c.cut-more.result.0)) (sym cut)
          (front_alone held.bytes.items (held.whole + c.cut-more.result.0) front);
      dropped = if_some_held c.cut-more.result.1 _ (ap (λ l. length l) cut ∙ length-take-le
          (held.whole + c.cut-more.result.0) held.bytes.items front.within);
    }

pub returns-then-is_some-clause-cut : goal.returns-then-is_some-clause-cut
returns-then-is_some-clause-cut c =
    let held = c.args.self.now in
    let at = subst (λ (l : List ℕ). CutAt l c.cut-more.result.0 c.cut-more.result.1)
    (take_rest c.as_slice.result.now held.whole ∙ ap (drop held.whole) c.as_slice.ensures)
    c.cut-more.ensures in
    let whole : ℕ = held.whole + c.cut-more.result.0 in
    let same : take whole c.truncate.new.self.items ≡ take whole held.bytes.items = ap (take whole)
    c.truncate.ensures.items ∙ take-take whole whole held.bytes.items (omega arith) in
    grows_by held.bytes.items c.truncate.new.self.items held.whole c.cut-more.result.0 c.cut-more.result.1 _
    c.requires.front at same
    (bad_ends c.cut-more.result.1 _ _ (sym c.is_some.ensures ∙ c.if-is_some.true))

pub returns-else-is_some-clause-sound : goal.returns-else-is_some-clause-sound
returns-else-is_some-clause-sound c =
    let held = c.args.self.now in
    let at = subst (λ (l : List ℕ). CutAt l c.cut-more.result.0 c.cut-more.result.1)
    (take_rest c.as_slice.result.now held.whole ∙ ap (drop held.whole) c.as_slice.ensures)
    c.cut-more.ensures in
    record {
      front = fronts_join held.bytes.items held.whole c.cut-more.result.0 c.requires.front at.front;
      dropped = if_none c.cut-more.result.1 _ (sym c.is_some.ensures ∙ c.if-is_some.false);
    }

pub returns-else-is_some-clause-cut : goal.returns-else-is_some-clause-cut
returns-else-is_some-clause-cut c =
    let held = c.args.self.now in
    let at = subst (λ (l : List ℕ). CutAt l c.cut-more.result.0 c.cut-more.result.1)
    (take_rest c.as_slice.result.now held.whole ∙ ap (drop held.whole) c.as_slice.ensures)
    c.cut-more.ensures in
    grows_by held.bytes.items held.bytes.items held.whole c.cut-more.result.0 c.cut-more.result.1 _
    c.requires.front at refl refl
