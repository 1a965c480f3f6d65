-- What an arrival that has space moves, and one that has none.
use Rattle.std.proofs.Common.{◌≤◌, ◌+◌, ◌∙◌, refl, subst, sym}
use Rattle.std.proofs.lemmas.Bool.{false≢true}
use Rattle.rv_account.specs.state.State.{State}
use Rattle.rv_machine.specs.Numbering.{AreNumbered}
use Rattle.rv_machine.specs.open_places.OpenMap.{most_counted}
use Rattle.rv_machine.specs.open_places.OpenMap.{count_waiting}
use Rattle.rv_machine.proofs.KeyLines.{number_next}
use Rattle.rv_machine.proofs.NumberedArrivals.{arrives_numbered}
use Rattle.rv_machine.proofs.RequestMoves.{arrives_request, crowds_request, fills_request}
use Rattle.rv_machine.proofs.RequestMoves.{lacks_request}
use Rattle.rv_machine.proofs.tables.Holdings.arrive.Goals as goal
use Rattle.rv_machine.proofs.tables.Holdings.arrive.Goals.{then-is_full-via-then-is_full}
use Rattle.rv_machine.proofs.tables.Holdings.arrive.Goals.{then-is_full-via-else-is_full+then-lacks_place}

pub returns-then-is_full-clause-err : goal.returns-then-is_full-clause-err
returns-then-is_full-clause-err c = elim c.then-is_full.branch [
  | then-is_full-via-then-is_full w ↦
      fills_request c.args.limits.now c.args.self.now c.args.moment c.args.key c.args.call
      c.requires.numbered c.requires.next c.need_of.result c.need_of.ensures.exact
      (c.is_full.ensures.full w.if-is_full.true)
  | then-is_full-via-else-is_full+then-lacks_place w ↦
      crowds_request c.args.limits.now c.args.self.now c.args.moment c.args.key c.args.call
      c.requires.numbered c.requires.next c.need_of.result c.need_of.ensures.exact
      (c.is_full.ensures.space w.if-is_full.false) (w.lacks_place.ensures.0 w.if-lacks_place.true)
]

pub join-requires : goal.join-requires
join-requires c = record {
  may = record {
    ready = c.requires.ready;
    later = c.requires.later;
    time = c.requires.time;
    fits = c.requires.fits;
    next = number_next c.args.self.now c.args.key c.requires.next;
    space = subst (λ n. c.args.self.now.length + count_waiting c.args.self.now.table + n ≤ most_counted)
        c.need_of.ensures.exact (c.is_full.ensures.counts c.if-is_full.false);
  };
}

pub returns-in-Ok-clause-numbered : goal.returns-in-Ok-clause-numbered
returns-in-Ok-clause-numbered c =
    arrives_numbered c.args.self.now c.join.new.self c.args.moment c.args.key c.args.call c.in-Ok.entry
    (number_next c.args.self.now c.args.key c.requires.next) c.in-Ok.ensures.ok c.requires.numbered

pub returns-in-Ok-clause-ok : goal.returns-in-Ok-clause-ok
returns-in-Ok-clause-ok c =
    arrives_request c.args.limits.now c.args.self.now c.join.new.self c.args.moment c.args.key c.args.call
    c.requires.numbered
    c.requires.next c.need_of.result c.need_of.ensures.exact (c.is_full.ensures.space c.if-is_full.false)
    (λ lacks. false≢true (sym c.if-lacks_place.false ∙ c.lacks_place.ensures.1 lacks))
    c.in-Ok.entry c.in-Ok.ensures.ok

pub returns-in-Err-clause-err : goal.returns-in-Err-clause-err
returns-in-Err-clause-err c =
    lacks_request c.args.limits.now c.args.self.now c.join.new.self c.args.moment c.args.key c.args.call
    c.requires.numbered
    c.requires.next c.need_of.result c.need_of.ensures.exact (c.is_full.ensures.space c.if-is_full.false)
    (λ lacks. false≢true (sym c.if-lacks_place.false ∙ c.lacks_place.ensures.1 lacks))
    c.in-Err.ensures.err

pub returns-in-Ok-clause-none : goal.returns-in-Ok-clause-none
returns-in-Ok-clause-none c = λ is. cc

pub returns-in-Err-clause-numbered : goal.returns-in-Err-clause-numbered
returns-in-Err-clause-numbered c =
    subst (λ (s : State). AreNumbered s) (sym c.in-Err.ensures.err.state) c.requires.numbered

pub returns-in-Err-clause-none : goal.returns-in-Err-clause-none
returns-in-Err-clause-none c = λ is. cc

pub returns-in-Err-clause-refused : goal.returns-in-Err-clause-refused
returns-in-Err-clause-refused c = λ other. absurd (other refl)
