-- The least of both, where there are both.
use Rattle.std.proofs.Common.{◌≡◌, ◌∙◌, [], ℕ, IfNone, IfSome, ap, subst, sym}
use Rattle.std.specs.Prelude.{min}
use Rattle.std.proofs.lemmas.Option.{none-some}
use Rattle.rv_account.specs.state.After.{due_at}
use Rattle.rv_machine.specs.Machines.{state_in}
use Rattle.rv_hub.specs.dispatcher.Fields.{dispatcher_state}
use Rattle.rv_hub.specs.dispatcher.Rest.{IsNextMoment}
use Rattle.rv_hub.proofs.OfDispatcher.Answering.{some_is}
use Rattle.rv_hub.proofs.OfDispatcher.Moments.{next_by_until, next_of_both}
use Rattle.rv_hub.proofs.dispatcher.Dispatcher.next_moment.Goals as goal
use Rattle.rv_hub.proofs.dispatcher.Dispatcher.next_moment.Goals.{in-None, in-Some}

pub returns-in-Some-Some-clause-some : goal.returns-in-Some-Some-clause-some
returns-in-Some-Some-clause-some c = elim c.match-next_until.branch [
  | in-Some w ↦
      let same = some_is _ _ (sym w.until-is ∙ c.in-Some-Some.is-1) in
      next_of_both (dispatcher_state c.args.self.now) c.in-Some-Some.limit w.in-Some.until _ c.min.result
      c.in-Some-Some.ensures.some w.in-Some.ensures.next
      (c.min.ensures ∙ ap (min c.in-Some-Some.limit) (sym same))
  | in-None w ↦ absurd (none-some _ (sym w.until-is ∙ c.in-Some-Some.is-1))
]

pub returns-in-None-default-clause-some : goal.returns-in-None-default-clause-some
returns-in-None-default-clause-some c = elim c.match-next_until.branch [
  | in-Some w ↦
      let none = subst (λ o. IfNone o ((moment : ℕ) → due_at (state_in c.args.self.now.machine) moment ≡ []))
      c.in-None-default.is-0 c.next_limit.ensures.none in
      subst (λ o. IfSome o (IsNextMoment (dispatcher_state c.args.self.now))) (sym w.until-is)
      (next_by_until (dispatcher_state c.args.self.now) w.in-Some.until _ w.in-Some.ensures.next
      (λ earlier less. none earlier))
  | in-None w ↦ subst (λ o. IfSome o (IsNextMoment (dispatcher_state c.args.self.now))) (sym w.until-is) tt
]
