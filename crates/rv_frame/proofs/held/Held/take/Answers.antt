-- The oldest body leaves the front.
use Rattle.std.proofs.Common.{◌≡◌, ◌∙◌, ◌+◌, ◌-◌, ap, arith, sym, subst, List, ℕ, drop, length, take}
use Rattle.std.proofs.lemmas.List.{drop-drop, length-drop}
use Rattle.rv_frame.specs.Held.{FrontIsRow, bodies_in, end_of}
use Rattle.rv_frame.proofs.Rows.{body_in, front_bodies, front_less, if_some_more}
use Rattle.rv_frame.proofs.held.Held.take.Goals as goal

pub returns-clause-sound : goal.returns-clause-sound
returns-clause-sound c =
    let held = c.args.self.now in
    let taken = front_less held.bytes.items held.whole c.args.size c.requires.sound.front c.requires.frame in
    let left : c.advance.new.self.items ≡ drop c.args.size held.bytes.items = c.advance.ensures.items in
    record {
      front = subst (λ (l : List ℕ). FrontIsRow l (held.whole - c.args.size)) (sym left) taken.front;
      dropped = if_some_more held.bad (length held.bytes.items ≡ held.whole) _
          (λ all. ap (λ l. length l) left ∙ length-drop c.args.size held.bytes.items
          ∙ ap (λ n. n - c.args.size) all) c.requires.sound.dropped;
    }

pub returns-clause-oldest : goal.returns-clause-oldest
returns-clause-oldest c =
    let held = c.args.self.now in
    let taken = front_less held.bytes.items held.whole c.args.size c.requires.sound.front c.requires.frame in
    let left : c.advance.new.self.items ≡ drop c.args.size held.bytes.items = c.advance.ensures.items in
    let rest : ℕ = held.whole - c.args.size in
    let after : bodies_in rest (take rest c.advance.new.self.items) ≡ taken.front.bodies =
    ap (λ l. bodies_in rest (take rest l)) left ∙ front_bodies (drop c.args.size held.bytes.items) rest
    taken.front in
    let body : c.in_ok-body.body.items ≡ c.requires.frame.body =
    c.in_ok-body.ensures.items_if_clones_equal (λ x y same. same)
    ∙ ap (λ l. take (c.args.size - 2) (drop 2 l)) c.as_slice.ensures
    ∙ body_in held.bytes.items held.whole c.args.size taken.size_within c.requires.frame in
    let before = front_bodies held.bytes.items held.whole c.requires.sound.front ∙ taken.oldest in
    (cc)

pub returns-clause-end : goal.returns-clause-end
returns-clause-end c =
    let held = c.args.self.now in
    let taken = front_less held.bytes.items held.whole c.args.size c.requires.sound.front c.requires.frame in
    let both : c.args.size + (held.whole - c.args.size) ≡ held.whole = omega (arith, taken.size_within) in
    ap (λ l. end_of held.bad (drop (held.whole - c.args.size) l)) c.advance.ensures.items
    ∙ ap (end_of held.bad) (drop-drop (held.whole - c.args.size) c.args.size held.bytes.items
    ∙ ap (λ n. drop n held.bytes.items) both)
