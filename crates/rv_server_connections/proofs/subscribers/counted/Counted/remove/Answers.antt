-- Where another connection waits for a request of the client, it stays in the set; else it leaves that.
use Rattle.std.proofs.Common.{◌∙◌, nat_eq, sym}
use Rattle.std.specs.HashSet.{contains}
use Rattle.rv_server_connections.specs.subscribers.Indexed.{who_hears}
use Rattle.rv_server_connections.proofs.OfSubscribers.Heard.{found_heard, has_heard, has_under, leaves_none}
use Rattle.rv_server_connections.proofs.OfSubscribers.Heard.{leaves_one, leaves_same, none_heard}
use Rattle.rv_server_connections.proofs.subscribers.counted.Counted.remove.Goals as goal

pub returns-in_err-subscription-clause-counted : goal.returns-in_err-subscription-clause-counted
returns-in_err-subscription-clause-counted c =
    let was = c.args.self.now in
    let has = contains nat_eq was.heard in
    record {
      indexed = c.remove.ensures.indexed;
      heard = has_under c.remove.new.self c.remove.ensures.indexed has (leaves_none (who_hears was.tables)
          (who_hears c.remove.new.self) c.args.connection has
          (sym c.remove.ensures.was ∙ c.in_err-subscription.was) c.remove.ensures.removed
          (has_heard was.tables c.requires.indexed has c.requires.heard));
    }

pub returns-then-is_some-clause-counted : goal.returns-then-is_some-clause-counted
returns-then-is_some-clause-counted c =
    let was = c.args.self.now in
    let new = c.remove.new.self in
    let has = contains nat_eq was.heard in
    record {
      indexed = c.remove.ensures.indexed;
      heard = has_under new c.remove.ensures.indexed has (leaves_same (who_hears was.tables) (who_hears new)
          c.args.connection c.in_ok-subscription.subscription (sym c.remove.ensures.was
          ∙ c.in_ok-subscription.was)
          c.remove.ensures.removed has
          (found_heard (who_hears new) c.in_ok-subscription.subscription.key.client c.first_of.result
          c.first_of.ensures.first (sym c.is_some.ensures ∙ c.if-is_some.true))
          (has_heard was.tables c.requires.indexed has c.requires.heard));
    }

pub returns-clause-counted : goal.returns-clause-counted
returns-clause-counted c =
    let was = c.args.self.now in
    let new = c.remove.new.self in
    let has = contains nat_eq was.heard in
    record {
      indexed = c.remove.ensures.indexed;
      heard = has_under new c.remove.ensures.indexed (contains nat_eq c.swap_remove.new.self) (leaves_one
          (who_hears was.tables) (who_hears new) c.args.connection c.in_ok-subscription.subscription
          (sym c.remove.ensures.was ∙ c.in_ok-subscription.was) c.remove.ensures.removed has
          (contains nat_eq c.swap_remove.new.self)
          (none_heard (who_hears new) c.in_ok-subscription.subscription.key.client c.first_of.result
          c.first_of.ensures.none (sym c.is_some.ensures ∙ c.if-is_some.false))
          c.swap_remove.ensures.updates.0
          (has_heard was.tables c.requires.indexed has c.requires.heard));
    }
