-- Its client is in the set from now on; where memory is refused the set stays.
use Rattle.std.proofs.Common.{◌≡◌, ◌∙◌, ℕ, Ok, OnOk, Result, ap, cond, nat_eq, subst, true}
use Rattle.std.specs.HashSet.{HashSet, contains}
use Rattle.std.specs.List.{list_any}
use Rattle.rv_server_connections.specs.subscribers.Indexed.{who_hears}
use Rattle.rv_server_connections.proofs.OfSubscribers.Heard.{adds_heard, has_heard, has_under, hears_same}
use Rattle.rv_server_connections.proofs.subscribers.counted.Counted.add.Goals as goal

-- what holds where there is a value, where there is one
at_ok : {T E P : Type 0} (r : Result T E) (x : T) → r ≡ Ok x → OnOk r P → P
at_ok {P = P} r x is holds = subst (λ s. OnOk s P) is holds

-- room for one client more leaves those that are there
same_clients : {S : Type 0} (old new : HashSet ℕ S) → new.keys ≡ old.keys
    → (q : ℕ) → contains nat_eq new q ≡ contains nat_eq old q
same_clients old new same q = ap (list_any (nat_eq q)) same

pub returns-clause-counted : goal.returns-clause-counted
returns-clause-counted c =
    let was = c.args.self.now in
    let now = c.add.new.self in
    let kept = same_clients was.heard c.reserve.new.self c.reserve.ensures.keys in
    let updates = at_ok c.insert.result c.unwrap.result c.unwrap.ensures c.insert.ensures.updates in
    record {
      indexed = c.add.ensures.indexed;
      heard = has_under now c.add.ensures.indexed (contains nat_eq c.insert.new.self)
          (adds_heard (who_hears was.tables) (who_hears now) c.args.connection c.args.subscription
          c.requires.free
          c.in_ok-add.ensures.added (contains nat_eq was.heard) (contains nat_eq c.insert.new.self)
          (λ q. updates.0 q ∙ ap (cond (nat_eq c.args.subscription.key.client q) true) (kept q))
          (has_heard was.tables c.requires.counted.indexed (contains nat_eq was.heard)
          c.requires.counted.heard));
    }

pub returns-in_err-add-clause-counted : goal.returns-in_err-add-clause-counted
returns-in_err-add-clause-counted c =
    let was = c.args.self.now in
    record {
      indexed = c.add.ensures.indexed;
      heard = has_under c.add.new.self c.add.ensures.indexed (contains nat_eq c.reserve.new.self) (hears_same
          (who_hears was.tables) (who_hears c.add.new.self) (contains nat_eq was.heard)
          (contains nat_eq c.reserve.new.self) c.in_err-add.ensures.refused
          (same_clients was.heard c.reserve.new.self c.reserve.ensures.keys)
          (has_heard was.tables c.requires.counted.indexed (contains nat_eq was.heard)
          c.requires.counted.heard));
    }

pub returns-in_err-reserve-clause-counted : goal.returns-in_err-reserve-clause-counted
returns-in_err-reserve-clause-counted c =
    record {
      indexed = c.requires.counted.indexed;
      heard = λ q.
          same_clients c.args.self.now.heard c.reserve.new.self c.reserve.ensures.keys q
          ∙ c.requires.counted.heard q;
    }
