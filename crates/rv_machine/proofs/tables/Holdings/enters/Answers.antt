-- No message needs room where it finds no space or no place.
use Rattle.std.proofs.Common.{◌<◌, ◌≤◌, ◌+◌, ◌∙◌, ℕ, subst, sym}
use Rattle.std.proofs.lemmas.Bool.{false≢true}
use Rattle.rv_machine.specs.Machines.{state_in}
use Rattle.rv_machine.specs.open_places.OpenMap.{count_waiting}
use Rattle.rv_machine.proofs.NoRoom.{crowded_none, full_none}
use Rattle.rv_machine.proofs.tables.Holdings.enters.Goals as goal
use Rattle.rv_machine.proofs.tables.Holdings.enters.Goals.{then-is_full-via-then-is_full}
use Rattle.rv_machine.proofs.tables.Holdings.enters.Goals.{then-is_full-via-else-is_full+then-lacks_place_for}

pub returns-then-is_full-clause-no : goal.returns-then-is_full-clause-no
returns-then-is_full-clause-no c is =
    let m = c.args.self.now in
    elim c.then-is_full.branch [
      | then-is_full-via-then-is_full w ↦
          full_none c.args.limits.now (state_in m) c.requires.ready.consistent c.args.message.now
          (subst (λ (n : ℕ). c.args.limits.now.entries < m.length + count_waiting m.table + n)
          c.message_need.ensures.exact (c.is_full.ensures.full w.if-is_full.true))
      | then-is_full-via-else-is_full+then-lacks_place_for w ↦
          crowded_none c.args.limits.now (state_in m) c.requires.ready.consistent c.args.message.now
          (w.lacks_place_for.ensures.0 w.if-lacks_place_for.true)
    ]

pub returns-clause-yes : goal.returns-clause-yes
returns-clause-yes c is =
    let m = c.args.self.now in
    c.is_next.ensures.yes is
    (subst (λ (n : ℕ). m.length + count_waiting m.table + n ≤ c.args.limits.now.entries)
    c.message_need.ensures.exact (c.is_full.ensures.space c.if-is_full.false))
    (λ lacks. false≢true (sym c.if-lacks_place_for.false ∙ c.lacks_place_for.ensures.1 lacks))
