-- A write at the client that the look-up finds sets its session, leaves the others and the room, and the
-- entries a table.
use Rattle.std.proofs.Common.{◌≡◌, Option, None, Some, IsSome, is_some, sym, subst, refl, ap, ◌∙◌}
use Rattle.std.specs.Option.{option_copied_mut}
use Rattle.std.proofs.lemmas.Bool.{false≢true}
use Rattle.rv_session.specs.Table.{Table, session_of}
use Rattle.rv_session.proofs.Mapping.{get_kept, map_put, written_table}
use Rattle.rv_session.proofs.Setting.{set_by_insert}
use Rattle.rv_session.proofs.sessions.Sessions.set.Goals as goal

some_of : {X Y : Type 0} (f : Option X → Option Y) → f None ≡ None → (o : Option X) → IsSome (f o) → IsSome o
some_of f none None is = absurd (false≢true (sym (ap is_some none) ∙ is))
some_of f none (Some x) is = refl

pub unwrap-requires : goal.unwrap-requires
unwrap-requires c =
    let known = subst (λ (t : Table). IsSome (session_of t c.args.client)) (sym c.self.view_is) c.requires in
    let there = subst IsSome (get_kept c.self.inside.sessions.entries c.args.client) known in
    some_of option_copied_mut refl c.get_mut.result (ap is_some c.get_mut.ensures.value ∙ there)

pub invariant_of-self : goal.invariant_of-self
invariant_of-self c =
    let known = subst (λ (t : Table). IsSome (session_of t c.args.client)) (sym c.self.view_is) c.requires in
    let there = subst IsSome (get_kept c.self.inside.sessions.entries c.args.client) known in
    let wrote = c.get_mut.follows.holds c.args.session in
    written_table 1024 c.self.inside.sessions.entries (c.get_mut.follows.lender c.args.session).entries
    c.args.client c.args.session
    c.self.invariant (wrote.3 there).0 wrote.2 known

pub returns : goal.returns
returns c =
    let known = subst (λ (t : Table). IsSome (session_of t c.args.client)) (sym c.self.view_is) c.requires in
    let there = subst IsSome (get_kept c.self.inside.sessions.entries c.args.client) known in
    let wrote = c.get_mut.follows.holds c.args.session in
    rw (← c.self.view_is) (set_by_insert _ _ c.args.client c.args.session refl
    (map_put c.self.inside.sessions.entries (c.get_mut.follows.lender c.args.session).entries c.args.client
    c.args.session (wrote.3 there).0)
    (λ _. wrote.6))
