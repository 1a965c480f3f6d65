-- Whoever waits owes an answer, and whoever owes one waits: what a change at one connection keeps.
use Rattle.std.proofs.Common.{inl, inr, ◌≡◌, ◌∙◌, ℕ, Option, Some, sym, ap, subst, true}
use Rattle.std.specs.Prelude.{IsSome}
use Rattle.std.proofs.lemmas.Bool.{cases_eq}
use Rattle.rv_server_connections.specs.connection.Traffic.{Traffic}
use Rattle.rv_server_connections.specs.declared.subscribers.tables.Subscription.{Subscription}
use Rattle.rv_server_connections.specs.subscribers.Subscription.{SetsSubscription}
use Rattle.rv_server_connections.specs.Connections.{SetsWire}
use Rattle.rv_hub.specs.dispatcher.View.{DispatcherState}
use Rattle.rv_hub.specs.dispatcher.Rest.{SubscribersOwe, OwersHear}

-- one connection's bytes and what it waits for agree
pub record Agree (wire : Option Traffic) (subscription : Option Subscription) : Type 0 where
  pub owes : (h : Subscription) → subscription ≡ Some h → (t : Traffic) × (wire ≡ Some t) × (t.owes ≡ true)
  pub hears : (t : Traffic) → wire ≡ Some t → t.owes ≡ true → IsSome subscription

pub owes_kept : (s t : DispatcherState) (connection : ℕ) (wire : Option Traffic) (subscription :
    Option Subscription)
    → SubscribersOwe s → SetsWire s.open_wires connection wire t.open_wires
    → SetsSubscription s.hears connection subscription t.hears → Agree wire subscription → SubscribersOwe t
owes_kept s t connection wire subscription owe sets hears agree other h there =
    elim (cases_eq other connection) [
      | inl same ↦
          let own : t.hears connection ≡ Some h = ap t.hears (sym same) ∙ there in
          let found = agree.owes h (sym hears.own ∙ own) in
          record {
            wire = found.0;
            there = ap t.open_wires.wires same ∙ sets.own ∙ found.1;
            so = found.2;
          }
      | inr apart ↦
          let was = owe other h (sym (hears.others other apart) ∙ there) in
          record { wire = was.wire; there = sets.others other apart ∙ was.there; so = was.so }
    ]

pub hears_kept : (s t : DispatcherState) (connection : ℕ) (wire : Option Traffic) (subscription :
    Option Subscription)
    → OwersHear s → SetsWire s.open_wires connection wire t.open_wires
    → SetsSubscription s.hears connection subscription t.hears → Agree wire subscription → OwersHear t
hears_kept s t connection wire subscription hear sets hears agree other bytes there owing =
    elim (cases_eq other connection) [
      | inl same ↦
          let own : t.open_wires.wires connection ≡ Some bytes = ap t.open_wires.wires (sym same) ∙ there in
          subst (λ o. IsSome o) (sym (ap t.hears same ∙ hears.own))
          (agree.hears bytes (sym sets.own ∙ own) owing)
      | inr apart ↦
          subst (λ o. IsSome o) (sym (hears.others other apart))
          (hear other bytes (sym (sets.others other apart) ∙ there) owing)
    ]
